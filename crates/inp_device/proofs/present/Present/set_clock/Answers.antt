use Rattle.std.proofs.Common.{length, reverse, refl, arith}
use Rattle.inp_model.specs.declared.step.Step.TheVariants.{Clock as ToClock}
use Rattle.inp_client.proofs.OnClock.{on_clock}
use Rattle.inp_device.proofs.Calls.{clients_after-clock}
use Rattle.inp_device.proofs.StepParts.{at_place, clients_called, made_call, called, named_there, holder_same}
use Rattle.inp_device.proofs.Growth.{stored_clock}
use Rattle.inp_device.proofs.StandsAfterStep.{lost_told}
use Rattle.inp_device.proofs.present.Present.set_clock.Goals as goal

pub set_clock-requires-clause-open : goal.set_clock-requires-clause-open
set_clock-requires-clause-open c = named_there c.requires.ready refl

-- the clock is the client's, and if the queue went by it the loss is counted
pub returns : goal.returns
returns c =
    let ready = c.requires.ready in
    let d = c.args.self.now.caps in
    let step = ToClock c.args.client c.args.clock c.args.now in
    let done = made_call refl c.done.ensures.done
    (called ready refl refl refl refl refl refl refl refl
    (clients_called ready c.args.client _ _ (on_clock d c.args.clock c.args.now _)
    (rw (← at_place ready) c.set_clock.ensures.set)
    (clients_after-clock d _ c.args.client c.args.clock c.args.now))
    (holder_same ready refl)) in
    record {
      made = done;
      stored =
          omega (
            arith,
            stored_clock c.args.client c.args.clock c.args.now
                (length (reverse c.args.history.now)) c.args.self.now.handler.clients c.set_clock.new.self
                (rw (← at_place ready) c.set_clock.ensures.set) c.set_clock.ensures.stored,
            lost_told d (reverse c.args.history.now) step _ done.stands,
          );
    }

use Rattle.std.proofs.Common.{min, refl, ap, ◌∙◌}
use Rattle.inp_client.proofs.OnClock.{on_take}
use Rattle.inp_device.proofs.Calls.{clients_after-read}
use Rattle.inp_device.proofs.StepParts.{clients_called, named_there, named_visible, made_written, called}
use Rattle.inp_device.proofs.StepParts.{accepted-read, holder_same}
use Rattle.inp_device.proofs.Growth.{stored_taken}
use Rattle.inp_device.proofs.present.Present.read.Goals as goal

pub take-taken-requires-clause-open : goal.take-taken-requires-clause-open
take-taken-requires-clause-open c = named_there c.requires.ready refl

-- the first events that can be seen are taken out of the client's queue and written to the caller
pub returns : goal.returns
returns c =
    let ready = c.requires.ready in
    let took = c.take-taken.result in
    record {
      made =
          made_written (accepted-read ready c.take-taken.ensures.count) refl c.take-taken.ensures.taken refl
          (called ready refl refl refl refl refl refl refl refl
          (clients_called ready c.args.client _ _
          (on_take c.args.self.now.caps took) c.take-taken.ensures.rest
          (clients_after-read _ _ c.args.client c.args.count took
          (c.take-taken.ensures.count ∙ ap (min c.args.count) (named_visible ready refl))))
          (holder_same ready refl));
      stored =
          stored_taken c.take-taken.result c.args.self.now.handler.clients c.take-taken.new.self _
          c.take-taken.ensures.rings;
    }

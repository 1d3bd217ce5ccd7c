use Rattle.std.proofs.Common.{reverse, refl, ap, arith}
use Rattle.inp_device.proofs.StepParts.{opens_unused, opens_fit, made_open, stands_same}
use Rattle.inp_client.specs.Numbers.{stored_of}
use Rattle.inp_device.proofs.Growth.{stored_same}
use Rattle.inp_device.proofs.present.Present.open.Goals as goal

pub open-requires-clause-unused : goal.open-requires-clause-unused
open-requires-clause-unused c = opens_unused c.requires.ready

-- no more clients were opened than there are steps, so one more can be counted
pub overflow_add-self : goal.overflow_add-self
overflow_add-self c = omega (arith, opens_fit c.requires.ready, c.requires.ready.few)

-- the new client comes last, and its ring has no numbers yet
pub returns-in-Ok : goal.returns-in-Ok
returns-in-Ok c = record {
  made = made_open c.requires.ready c.ring-ring.ensures.ring refl refl refl c.in-Ok.ensures.ok refl refl refl;
  stored = stored_same c.args.self.now.handler.clients c.open.new.self _ c.open.ensures.numbers;
}

pub returns-in-Err-NoMemory : goal.returns-in-Err-NoMemory
returns-in-Err-NoMemory c = record {
  made = (
    refl,
    refl,
    refl,
    stands_same c.args.self.now.caps
        (reverse c.args.history.now) c.args.self.now _ c.requires.ready.stands refl refl refl
        c.in-Err-NoMemory.ensures.err refl refl refl,
  );
  stored = ap stored_of c.in-Err-NoMemory.ensures.err;
}

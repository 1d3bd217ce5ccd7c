use Rattle.std.proofs.Common.{refl, arith}
use Rattle.inp_device.proofs.StepParts.{made_call, stands_ended, ends_fit}
use Rattle.inp_device.proofs.Growth.{stored_kept}
use Rattle.inp_device.proofs.present.Present.end.Goals as goal

-- no more sources are done than there are steps, so one more can be counted
pub overflow_add-self : goal.overflow_add-self
overflow_add-self c = omega (arith, ends_fit c.requires.ready, c.requires.ready.few)

-- one source more is done, and nothing else changes
pub returns : goal.returns
returns c = record {
  made = made_call refl c.done.ensures.done (stands_ended c.requires.ready refl refl refl refl refl refl);
  stored = stored_kept c.args.self.now.handler.clients _;
}

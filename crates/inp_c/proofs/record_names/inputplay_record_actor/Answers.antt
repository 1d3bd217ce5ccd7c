use Rattle.std.proofs.Common.{Option}
use Rattle.inp_c.specs.declared.kept.Kept.{Kept}
use Rattle.inp_c.specs.Contents.{contents}
use Rattle.inp_c.specs.RecordNames.{IsToldActor}
use Rattle.inp_c.proofs.Along.{at_contents}
use Rattle.inp_c.proofs.record_names.inputplay_record_actor.Goals as goal

-- the actor is told of the record that the handle keeps
pub returns-clause-told : goal.returns-clause-told
returns-clause-told c = λ ok.
    at_contents Kept (λ (k : Option Kept).
    IsToldActor k c.args.actor c.actor_in-status.new.role c.actor_in-status.new.device c.args.out.now
    c.actor_in-status.new.out c.actor_in-status.new.len)
    (contents c.args.handle.now) c.take-kept.result.value c.deref.result.now c.take-kept.ensures.kept
    c.deref.ensures (c.actor_in-status.ensures.told ok)

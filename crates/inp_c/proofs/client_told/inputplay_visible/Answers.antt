use Rattle.std.proofs.Common.{Option}
use Rattle.inp_c.specs.declared.kept.Kept.{Kept}
use Rattle.inp_c.specs.Contents.{contents}
use Rattle.inp_c.specs.ClientTold.{IsVisibleCount}
use Rattle.inp_c.proofs.Along.{at_contents}
use Rattle.inp_c.proofs.client_told.inputplay_visible.Goals as goal

-- the number of events that a client could read is told of what the handle keeps
pub returns-clause-told : goal.returns-clause-told
returns-clause-told c = λ ok.
    at_contents Kept (λ (k : Option Kept). IsVisibleCount k c.args.client c.visible_in-status.new.count)
    (contents c.args.handle.now) c.take-kept.result.value c.deref.result.now c.take-kept.ensures.kept
    c.deref.ensures (c.visible_in-status.ensures.told ok)

use Rattle.std.proofs.Common.{Option}
use Rattle.inp_c.specs.declared.kept.Kept.{Kept}
use Rattle.inp_c.specs.Contents.{contents}
use Rattle.inp_c.specs.History.{IsToldHistory}
use Rattle.inp_c.proofs.Along.{at_contents}
use Rattle.inp_c.proofs.history.inputplay_history.Goals as goal

-- the steps are told of what the handle keeps
pub returns-clause-told : goal.returns-clause-told
returns-clause-told c = λ ok.
    at_contents Kept (λ (k : Option Kept).
    IsToldHistory k c.args.from c.args.steps.now c.history_in-status.new.steps c.history_in-status.new.left)
    (contents c.args.handle.now) c.take-kept.result.value c.deref.result.now c.take-kept.ensures.kept
    c.deref.ensures (c.history_in-status.ensures.told ok)

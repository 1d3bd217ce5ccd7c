use Rattle.std.proofs.Common.{Option}
use Rattle.inp_c.specs.declared.kept.Kept.{Kept}
use Rattle.inp_c.specs.Contents.{contents}
use Rattle.inp_c.specs.ToldStep.{IsToldCall}
use Rattle.inp_c.proofs.Along.{at_contents}
use Rattle.inp_c.proofs.step_told.inputplay_reader_call.Goals as goal

-- the reader's call is told of what the handle keeps
pub returns-clause-told : goal.returns-clause-told
returns-clause-told c = λ ok.
    at_contents Kept (λ (k : Option Kept).
    IsToldCall k c.args.index c.call_in-status.new.step c.call_in-status.new.reply)
    (contents c.args.handle.now) c.take-kept.result.value c.deref.result.now c.take-kept.ensures.kept
    c.deref.ensures (c.call_in-status.ensures.told ok)

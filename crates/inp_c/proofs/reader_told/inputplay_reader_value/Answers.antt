use Rattle.std.proofs.Common.{Option}
use Rattle.inp_c.specs.declared.kept.Kept.{Kept}
use Rattle.inp_c.specs.Contents.{contents}
use Rattle.inp_c.specs.ReaderTold.{IsViewValue}
use Rattle.inp_c.proofs.Along.{at_contents}
use Rattle.inp_c.proofs.reader_told.inputplay_reader_value.Goals as goal

-- the value in the view is told of what the handle keeps
pub returns-clause-value : goal.returns-clause-value
returns-clause-value c = λ ok.
    at_contents Kept (λ (k : Option Kept). IsViewValue k c.args.kind c.args.code c.value_in-status.new.value)
    (contents c.args.handle.now) c.take-kept.result.value c.deref.result.now c.take-kept.ensures.kept
    c.deref.ensures (c.value_in-status.ensures.value ok)

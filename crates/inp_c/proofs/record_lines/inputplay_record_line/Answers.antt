use Rattle.std.proofs.Common.{Option}
use Rattle.inp_c.specs.declared.kept.Kept.{Kept}
use Rattle.inp_c.specs.Contents.{contents}
use Rattle.inp_c.specs.Lines.{IsToldLine}
use Rattle.inp_c.proofs.Along.{at_contents}
use Rattle.inp_c.proofs.record_lines.inputplay_record_line.Goals as goal

-- the line is told of the record that the handle keeps
pub returns-clause-told : goal.returns-clause-told
returns-clause-told c = λ ok.
    at_contents Kept (λ (k : Option Kept). IsToldLine k c.args.line c.line_in-status.new.out)
    (contents c.args.handle.now) c.take-kept.result.value c.deref.result.now c.take-kept.ensures.kept
    c.deref.ensures (c.line_in-status.ensures.told ok)

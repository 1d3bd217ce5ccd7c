use Rattle.std.proofs.Common.{Option}
use Rattle.inp_c.specs.declared.kept.Kept.{Kept}
use Rattle.inp_c.specs.Contents.{contents}
use Rattle.inp_c.specs.Streams.{IsToldFile}
use Rattle.inp_c.proofs.Along.{at_contents}
use Rattle.inp_c.proofs.streams.inputplay_record_file.Goals as goal

-- the file's name is told of the record that the handle keeps
pub returns-clause-told : goal.returns-clause-told
returns-clause-told c = λ ok.
    at_contents Kept (λ (k : Option Kept).
    IsToldFile k c.args.line c.args.out.now c.file_in-status.new.out c.file_in-status.new.len)
    (contents c.args.handle.now) c.take-kept.result.value c.deref.result.now c.take-kept.ensures.kept
    c.deref.ensures (c.file_in-status.ensures.told ok)

use Rattle.std.proofs.Common.{Option}
use Rattle.inp_c.specs.declared.kept.Kept.{Kept}
use Rattle.inp_c.specs.Contents.{contents}
use Rattle.inp_c.specs.ReaderTold.{IsReaderState}
use Rattle.inp_c.proofs.Along.{at_contents}
use Rattle.inp_c.proofs.reader_told.inputplay_reader_state.Goals as goal

-- the reader's state is told of what the handle keeps
pub returns-clause-state : goal.returns-clause-state
returns-clause-state c = λ ok.
    at_contents Kept (λ (k : Option Kept).
    IsReaderState k c.state_in-status.new.client c.state_in-status.new.phase c.state_in-status.new.slot)
    (contents c.args.handle.now) c.take-kept.result.value c.deref.result.now c.take-kept.ensures.kept
    c.deref.ensures (c.state_in-status.ensures.state ok)

use Rattle.std.proofs.Common.{Option}
use Rattle.inp_c.specs.declared.kept.Kept.{Kept}
use Rattle.inp_c.specs.Contents.{contents}
use Rattle.inp_c.specs.Counts.{IsToldCounts}
use Rattle.inp_c.proofs.Along.{at_contents}
use Rattle.inp_c.proofs.counts.inputplay_record_counts.Goals as goal

-- the numbers are told of the record that the handle keeps
pub returns-clause-told : goal.returns-clause-told
returns-clause-told c = λ ok.
    at_contents Kept (λ (k : Option Kept). IsToldCounts k c.counts_in-status.new.counts)
    (contents c.args.handle.now) c.take-kept.result.value c.deref.result.now c.take-kept.ensures.kept
    c.deref.ensures (c.counts_in-status.ensures.told ok)

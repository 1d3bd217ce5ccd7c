use Rattle.std.proofs.Common.{◌≤◌, ◌-◌, length}
use Rattle.inp_texts.specs.Line.{ArePrinted}
use Rattle.inp_texts.proofs.words.piece_end.Given as goal

abbrev pub invariant-loop-place : goal.invariant-loop-place
invariant-loop-place l =
    record {
      after : l.from ≤ l.place;
      within : l.place ≤ length l.line;
      printed : ArePrinted l.line l.from l.place;
    }

abbrev pub decreases-loop-place : goal.decreases-loop-place
decreases-loop-place l = length l.line - l.place

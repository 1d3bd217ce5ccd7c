use Rattle.std.proofs.Common.{◌≡◌, ◌+◌, ◌≤◌, length, drop}
use Rattle.std.specs.Prelude.{slice_get}
use Rattle.inp_texts.specs.Line.{lines_of}
use Rattle.inp_record.specs.LineNumber.{action_numbers}
use Rattle.inp_record.proofs.line_numbers.line_number.Given as goal

abbrev pub invariant-loop-piece : goal.invariant-loop-piece
invariant-loop-piece l = record {
  counted : l.number ≡ length l.yielded;
  within : l.number ≤ length (lines_of l.text);
  left : slice_get (action_numbers 1 (lines_of l.text)) l.line
      ≡ slice_get (action_numbers (l.number + 1) (drop l.number (lines_of l.text))) l.left;
}

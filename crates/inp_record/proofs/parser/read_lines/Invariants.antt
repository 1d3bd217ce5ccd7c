use Rattle.std.proofs.Common.{◌≡◌, ◌+◌, ◌≤◌, length, []}
use Rattle.inp_texts.specs.Line.{lines_of}
use Rattle.inp_record.specs.ItemsBefore.{ItemsBefore, context_of, IsWithinCounts}
use Rattle.inp_record.specs.Meaning.{behind_lines}
use Rattle.inp_record.proofs.parser.read_lines.Given as goal

abbrev pub invariant-lines : goal.invariant-lines
invariant-lines l = record {
  counted : l.line + length (lines_of l.rest) ≡ length (lines_of l.text);
  room : IsWithinCounts l.context;
  actors : length l.context.actors ≤ l.line;
  read : (past : ItemsBefore) × (l.context ≡ context_of past)
      × (behind_lines 1 (lines_of l.text) [] ≡ behind_lines (l.line + 1) (lines_of l.rest) past);
}

abbrev pub decreases-lines : goal.decreases-lines
decreases-lines l = length l.rest

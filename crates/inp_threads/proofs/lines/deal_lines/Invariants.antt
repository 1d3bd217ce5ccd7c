use Rattle.inp_threads.proofs.DealtLines.{AreFirstDealt}
use Rattle.inp_threads.proofs.lines.deal_lines.Given as goal

abbrev pub invariant-loop-line : goal.invariant-loop-line
invariant-loop-line l = AreFirstDealt l.rec l.line l.lists.items

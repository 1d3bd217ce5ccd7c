use Rattle.std.proofs.Common.{◌≡◌, replicate, []}
use Rattle.inp_threads.proofs.lines.no_lines.Given as goal

abbrev pub invariant-loop-i : goal.invariant-loop-i
invariant-loop-i l = l.lists.items ≡ replicate l._i []

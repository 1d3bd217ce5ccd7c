use Rattle.std.proofs.Common.{◌≡◌, length}
use Rattle.inp_threads.proofs.play.no_outcomes.Given as goal

abbrev pub invariant-loop : goal.invariant-loop
invariant-loop l = length l.outcomes.items ≡ l.counter

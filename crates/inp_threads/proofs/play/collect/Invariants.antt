use Rattle.std.proofs.Common.{◌≡◌, map, Some}
use Rattle.inp_threads.proofs.play.collect.Given as goal

abbrev pub invariant-loop-outcome : goal.invariant-loop-outcome
invariant-loop-outcome l = map Some l.devices.items ≡ l.yielded

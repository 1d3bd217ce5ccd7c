use Rattle.std.proofs.Common.{◌≡◌, map}
use Rattle.inp_play.specs.GatheredRuns.{first_ends}
use Rattle.inp_play.proofs.gathered_runs.histories.Given as goal

abbrev pub invariant-loop-device : goal.invariant-loop-device
invariant-loop-device l = l.gathered.items ≡ map first_ends l.yielded

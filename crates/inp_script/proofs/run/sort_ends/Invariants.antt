use Rattle.std.proofs.Common.{◌≡◌, ◌++◌}
use Rattle.inp_script.specs.Ended.{jobs_among, joys_among, owners_among}
use Rattle.inp_script.proofs.run.sort_ends.Given as goal

abbrev pub invariant-loop-ended : goal.invariant-loop-ended
invariant-loop-ended l =
    (l.jobs ≡ jobs_among l.yielded) × (l.joys ≡ l.fn.joys ++ joys_among l.yielded)
    × (l.owners ≡ l.fn.owners ++ owners_among l.yielded)

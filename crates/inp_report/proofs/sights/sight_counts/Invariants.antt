use Rattle.std.proofs.Common.{◌≡◌, ◌≤◌, ◌-◌, length, take}
use Rattle.std.specs.List.{count_by}
use Rattle.inp_report.specs.Sights.{is_took, is_made, is_again_sight}
use Rattle.inp_report.proofs.sights.sight_counts.Given as goal

-- the entries of each kind so far
abbrev pub invariant-loop-start : goal.invariant-loop-start
invariant-loop-start l = record {
  took : l.counts.took ≡ count_by is_took (take l.start l.sights);
  made : l.counts.made ≡ count_by is_made (take l.start l.sights);
  again : l.counts.again ≡ count_by is_again_sight (take l.start l.sights);
  within : l.start ≤ length l.sights;
}

abbrev pub decreases-loop-start : goal.decreases-loop-start
decreases-loop-start l = length l.sights - l.start

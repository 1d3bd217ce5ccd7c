use Rattle.std.proofs.Common.{◌≡◌, ◌≤◌, ◌-◌, ◌++◌, length, take}
use Rattle.std.specs.List.{flat_map}
use Rattle.inp_report.specs.Sights.{sight_line}
use Rattle.inp_report.proofs.sights.push_sights.Given as goal

-- the lines of the entries so far
abbrev pub invariant-loop-start : goal.invariant-loop-start
invariant-loop-start l = record {
  written : l.text ≡ l.initial.text ++ flat_map sight_line (take l.start l.sights);
  within : l.start ≤ length l.sights;
}

abbrev pub decreases-loop-start : goal.decreases-loop-start
decreases-loop-start l = length l.sights - l.start

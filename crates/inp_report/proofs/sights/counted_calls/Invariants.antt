use Rattle.std.proofs.Common.{◌≡◌, ◌≤◌, ◌-◌, length, take}
use Rattle.std.specs.List.{count_by}
use Rattle.inp_report.specs.Sights.{is_counted_call}
use Rattle.inp_report.proofs.sights.counted_calls.Given as goal

-- the calls that count so far
abbrev pub invariant-loop-start : goal.invariant-loop-start
invariant-loop-start l = record {
  count : l.count ≡ count_by is_counted_call (take l.start l.sights);
  within : l.start ≤ length l.sights;
}

abbrev pub decreases-loop-start : goal.decreases-loop-start
decreases-loop-start l = length l.sights - l.start

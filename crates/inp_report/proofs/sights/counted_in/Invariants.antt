use Rattle.std.proofs.Common.{◌≡◌, take}
use Rattle.std.specs.List.{count_by}
use Rattle.inp_report.specs.Sights.{is_counted_call}
use Rattle.inp_report.proofs.sights.counted_in.Given as goal

-- the calls that count so far
abbrev pub invariant-loop-index : goal.invariant-loop-index
invariant-loop-index l = l.count ≡ count_by is_counted_call (take l.index l.run)

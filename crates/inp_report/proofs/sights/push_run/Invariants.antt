use Rattle.std.proofs.Common.{◌≡◌, ◌++◌, take}
use Rattle.std.specs.List.{flat_map}
use Rattle.inp_report.specs.Sights.{sight_line}
use Rattle.inp_report.proofs.sights.push_run.Given as goal

-- the lines of the entries so far
abbrev pub invariant-loop-index : goal.invariant-loop-index
invariant-loop-index l = l.text ≡ l.initial.text ++ flat_map sight_line (take l.index l.run)

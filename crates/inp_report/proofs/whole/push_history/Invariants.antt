use Rattle.std.proofs.Common.{◌≡◌, ◌++◌, take}
use Rattle.std.specs.List.{flat_map, enumerate_from}
use Rattle.inp_report.specs.Report.{step_line}
use Rattle.inp_report.proofs.whole.push_history.Given as goal

-- the steps so far
abbrev pub invariant-loop-place : goal.invariant-loop-place
invariant-loop-place l =
    l.text ≡ l.initial.text ++ flat_map step_line (take l.place (enumerate_from 0 l.history))

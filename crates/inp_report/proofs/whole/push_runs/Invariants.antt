use Rattle.std.proofs.Common.{◌≡◌, ◌++◌, take}
use Rattle.std.specs.List.{flat_map, zip}
use Rattle.inp_report.specs.Report.{part_text, run_text}
use Rattle.inp_report.proofs.whole.push_runs.Given as goal

-- the devices so far
abbrev pub invariant-loop-index : goal.invariant-loop-index
invariant-loop-index l =
    l.text ≡ l.initial.text ++ flat_map (run_text l.rec.actors l.history part_text)
    (take l.index (zip l.rec.devices l.runs))

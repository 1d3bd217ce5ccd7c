use Rattle.std.proofs.Common.{◌≡◌, ◌++◌, false, take}
use Rattle.std.specs.List.{flat_map, zip}
use Rattle.inp_model.specs.Description.{Description}
use Rattle.inp_report.specs.Report.{run_text}
use Rattle.inp_report.specs.Summary.{brief_line}
use Rattle.inp_report.proofs.brief.push_briefs.Given as goal

-- the devices so far
abbrev pub invariant-loop-index : goal.invariant-loop-index
invariant-loop-index l =
    l.text
    ≡ l.initial.text
    ++ flat_map (run_text l.rec.actors false (λ (d : Description). brief_line))
    (take l.index (zip l.rec.devices l.runs))

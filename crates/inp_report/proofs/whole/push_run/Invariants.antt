use Rattle.std.proofs.Common.{◌≡◌, ◌++◌, take}
use Rattle.std.specs.List.{flat_map}
use Rattle.inp_report.specs.Report.{part_text, job_text}
use Rattle.inp_report.proofs.whole.push_run.Given as goal

-- the jobs so far
abbrev pub invariant-loop-job : goal.invariant-loop-job
invariant-loop-job l =
    l.text
    ≡ l.initial.text
    ++ flat_map (job_text (part_text l.device.caps) l.actors) (take l.job-index l.job-items)

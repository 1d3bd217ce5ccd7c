use Rattle.std.proofs.Common.{◌≡◌, ◌++◌, take}
use Rattle.std.specs.List.{flat_map}
use Rattle.inp_report.specs.Report.{job_text}
use Rattle.inp_report.specs.Summary.{brief_line}
use Rattle.inp_report.proofs.brief.push_run_brief.Given as goal

-- the jobs so far
abbrev pub invariant-loop-job : goal.invariant-loop-job
invariant-loop-job l =
    l.text ≡ l.initial.text ++ flat_map (job_text brief_line l.actors) (take l.job-index l.job-items)

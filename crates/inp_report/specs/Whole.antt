-- The report of the whole result of a record.
use Rattle.std.specs.Prelude.{ℕ, Bool, List, ◌++◌}
use Rattle.inp_actors.specs.Record.{RecordView}
use Rattle.inp_script.specs.declared.run.Played.{Played}
use Rattle.inp_report.specs.JoyReport.{joy_report}
use Rattle.inp_report.specs.OwnerReport.{owner_report}
use Rattle.inp_report.specs.Report.{report}

-- the report of a record's devices, with the history or without, after it that of its joysticks, and after
-- that the one of its owners
abbrev pub whole_report : RecordView → Bool → Played → List ℕ
whole_report recorded history played =
    report recorded played.runs history ++ (joy_report recorded played.joys ++ owner_report recorded played.owners)

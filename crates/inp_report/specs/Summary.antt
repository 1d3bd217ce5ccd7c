-- The summary of a record that was generated, and of its result (docs/FORMATS.md, "The summary").
use Rattle.std.specs.Prelude.{ℕ, false, List, [], ◌++◌, codes, decimal, flat_map}
use Rattle.std.specs.List.{count_by, zip}
use Rattle.std.specs.Fmt.{signed_decimal}
use Rattle.inp_model.specs.declared.multi_touch.TheConstants.{ABS_MT_POSITION_X, ABS_MT_POSITION_Y}
use Rattle.inp_model.specs.Description.{Description}
use Rattle.inp_actors.specs.declared.role.Role.{Role}
use Rattle.inp_actors.specs.declared.role.Role.TheVariants.{Source, Joy, Owner}
use Rattle.inp_actors.specs.Record.{RecordView}
use Rattle.inp_script.specs.declared.run.Run.{Run}
use Rattle.inp_script.specs.Job.{JobView}
use Rattle.inp_texts.specs.Texts.{role_text}
use Rattle.inp_report.specs.Words.{LINE_FEED}
use Rattle.inp_report.specs.Sights.{is_took, is_made, is_again_sight}
use Rattle.inp_recon.specs.Cells.{cell_of}
use Rattle.inp_report.specs.Report.{calls_text, run_text}

-- client NAME or tap NAME, took T made M again A x X y Y: what it saw is counted, and the position is that of
-- slot 9, the last one of a generated device
unfoldable pub counts_line : Role → List ℕ → JobView → List ℕ
counts_line role name job =
    role_text role ++ (codes " " ++ (name ++ (codes " took " ++ (decimal (count_by is_took job.sight)
    ++ (codes " made " ++ (decimal (count_by is_made job.sight)
    ++ (codes " again " ++ (decimal (count_by is_again_sight job.sight)
    ++ (codes " x " ++ (signed_decimal (cell_of job.view.cells 9 ABS_MT_POSITION_X)
    ++ (codes " y " ++ (signed_decimal (cell_of job.view.cells 9 ABS_MT_POSITION_Y) ++ LINE_FEED))))))))))))

-- an actor's line, by its role; a joystick and an owner have no line
abbrev pub brief_line : Role → List ℕ → JobView → List ℕ
brief_line Source name job = calls_text name job.sight ++ LINE_FEED
brief_line Joy name job = []
brief_line Owner name job = []
brief_line role name job = counts_line role name job

-- make NUMBER COUNT, the two numbers of the record, and the devices in order, each without its history
unfoldable pub summary : ℕ → ℕ → RecordView → List Run → List ℕ
summary number count r runs =
    codes "make " ++ decimal number ++ codes " " ++ decimal count ++ LINE_FEED
    ++ flat_map (run_text r.actors false (λ (d : Description). brief_line)) (zip r.devices runs)

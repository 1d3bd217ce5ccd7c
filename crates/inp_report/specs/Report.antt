-- The whole report of a record and of its result (docs/FORMATS.md, "The whole report").
use Rattle.std.specs.Prelude.{ℕ, Bool, if◌then◌else◌, List, [], ◌++◌, length, codes, decimal, flat_map, slice_get, option_map, unwrap_or}
use Rattle.std.specs.List.{count_by, enumerate_from, zip}
use Rattle.inp_model.specs.declared.step.Step.{Step}
use Rattle.inp_model.specs.Description.{Description}
use Rattle.inp_actors.specs.declared.role.Role.{Role}
use Rattle.inp_actors.specs.declared.role.Role.TheVariants.{Source, Joy, Owner}
use Rattle.inp_actors.specs.declared.actor_text.ActorText.{ActorText}
use Rattle.inp_actors.specs.declared.device_text.DeviceText.{DeviceText}
use Rattle.inp_actors.specs.Record.{RecordView}
use Rattle.inp_script.specs.declared.run.Run.{Run}
use Rattle.inp_script.specs.declared.sight.Sight.{Sight}
use Rattle.inp_script.specs.declared.stop.Stop.{Stop}
use Rattle.inp_script.specs.Job.{JobView}
use Rattle.inp_texts.specs.Texts.{role_text}
use Rattle.inp_report.specs.Words.{LINE_FEED, stop_text}
use Rattle.inp_report.specs.Steps.{step_text}
use Rattle.inp_report.specs.Sights.{sight_line, is_counted_call}
use Rattle.inp_report.specs.Views.{view_text}

-- device NAME steps N
unfoldable pub device_line : List ℕ → ℕ → List ℕ
device_line name steps = codes "device " ++ (name ++ (codes " steps " ++ (decimal steps ++ LINE_FEED)))

-- step P STEP, the places from 0
unfoldable pub step_line : ℕ × Step → List ℕ
step_line placed = codes "step " ++ (decimal placed.0 ++ (codes " " ++ (step_text placed.1 ++ LINE_FEED)))

-- source NAME calls N
unfoldable pub calls_text : List ℕ → List Sight → List ℕ
calls_text name sight = codes "source " ++ (name ++ (codes " calls " ++ decimal (count_by is_counted_call sight)))

-- client NAME, tap NAME, joy NAME or owner NAME, the lines of what it saw and knows, and stop STOP
unfoldable pub role_part : Role → List ℕ → List ℕ → Stop → List ℕ
role_part role name lines stop =
    role_text role ++ (codes " " ++ (name ++ (LINE_FEED ++ (lines ++ (codes "stop " ++ (stop_text stop ++ LINE_FEED))))))

-- an actor's part, by its role; a joystick and an owner have no part under their device (JoyReport.antt,
-- OwnerReport.antt)
abbrev pub part_text : Description → Role → List ℕ → JobView → List ℕ
part_text d Source name job = calls_text name job.sight ++ (codes " stop " ++ (stop_text job.stop ++ LINE_FEED))
part_text d Joy name job = []
part_text d Owner name job = []
part_text d role name job = role_part role name (flat_map sight_line job.sight ++ view_text d job.view) job.stop

-- what is told of the item at a place, if there is one
abbrev pub text_at : {X : Type 0} → (X → List ℕ) → List X → ℕ → List ℕ
text_at text_of items place = unwrap_or (option_map text_of (slice_get items place)) []

-- what is told of a job, by the role and the name of its actor
abbrev pub job_text : (Role → List ℕ → JobView → List ℕ) → List ActorText → JobView → List ℕ
job_text tell actors job = text_at (λ (actor : ActorText). tell actor.role actor.name job) actors job.actor

-- a device, a line for each step of its history where this is wanted, and what is told of its jobs
abbrev pub run_text : List ActorText → Bool → (Description → Role → List ℕ → JobView → List ℕ) → DeviceText × Run → List ℕ
run_text actors history tell played =
    device_line (played.0).name (length (played.1).history)
    ++ ((if history then flat_map step_line (enumerate_from 0 (played.1).history) else [])
    ++ flat_map (job_text (tell (played.0).caps) actors) (played.1).jobs)

-- the devices in order, each with its result
unfoldable pub report : RecordView → List Run → Bool → List ℕ
report r runs history = flat_map (run_text r.actors history part_text) (zip r.devices runs)

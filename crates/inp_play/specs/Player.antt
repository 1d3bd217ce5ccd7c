-- The devices and the actors of a record at work.
use Rattle.std.specs.Prelude.{◌≡◌, ◌≤◌, ℕ, ◌+◌, List, [], length, map, take, drop, slice_get, Some}
use Rattle.std.specs.List.{enumerate_from}
use Rattle.inp_model.specs.declared.step.Step.{Step}
use Rattle.inp_actors.specs.declared.device_text.DeviceText.{DeviceText}
use Rattle.inp_actors.specs.Record.{RecordView}
use Rattle.inp_feedback.specs.declared.feedback_call.FeedbackCall.{FeedbackCall}
use Rattle.inp_feedback.specs.UEntry.{steps_in}
use Rattle.inp_feedback.specs.KeptList.{calls_in}
use Rattle.inp_uinput.specs.UdevView.{UdevView}
use Rattle.inp_script.specs.DoneLine.{HasActor}
use Rattle.inp_script.specs.Job.{ActorView}
use Rattle.inp_play.specs.declared.player.Player.{Player}
use Rattle.inp_runs.specs.Play.{Stage, first_actor, first_stage, after_lines}

-- the steps that devices accepted, and the feedback calls that they keep, newest first
abbrev pub pasts_of : List UdevView → List (List Step)
pasts_of devices = map (λ (device : UdevView). steps_in device.kept) devices

abbrev pub feedback_calls_of : List UdevView → List (List FeedbackCall)
feedback_calls_of devices = map (λ (device : UdevView). calls_in device.kept) devices

-- what stands between two lines, by the devices and the actors
abbrev pub stage_with : List UdevView → List ActorView → Stage
stage_with devices actors = record { pasts = pasts_of devices; calls = feedback_calls_of devices; actors = actors }

abbrev pub stage_of : Player → Stage
stage_of p = stage_with p.devices.items p.actors.items

-- a device that keeps nothing
abbrev pub first_device : DeviceText → UdevView
first_device text = record { description = text.caps; kept = []; agains = 0 }

-- the actors of a record, before the first line
abbrev pub first_actors : RecordView → List ActorView
first_actors r = map (first_actor r) (enumerate_from 0 r.actors)

-- there is a device for each of the record, of its description
abbrev pub HasDevices : RecordView → List UdevView → Type 0
HasDevices r devices = map (λ (device : UdevView). device.description) devices ≡ map (λ (text : DeviceText). text.caps) r.devices

-- There is an actor for each of the record, in order.
pub record HasActors (r : RecordView) (actors : List ActorView) : Type 0 where
  pub count : length actors ≡ length r.actors
  pub each : (i : ℕ) (a : ActorView) → slice_get actors i ≡ Some a → (a.actor ≡ i) × HasActor r a

-- The devices and the actors are those of the record.
pub record IsPlayer (r : RecordView) (p : Player) : Type 0 where
  pub devices : HasDevices r p.devices.items
  pub actors : HasActors r p.actors.items

-- So many lines from this number on were done, one at least, in file order, each in some number of rounds.
pub record DoesOn (r : RecordView) (number count : ℕ) (old new : Player) : Type 0 where
  pub some : 1 ≤ count
  pub within : number + count ≤ length r.lines
  pub rounds : ℕ
  pub does : after_lines r rounds (stage_of old) (take count (drop number r.lines)) ≡ Some (stage_of new)

-- So many lines were done, in file order, each in some number of rounds.
pub record HasDone (r : RecordView) (count : ℕ) (p : Player) : Type 0 where
  pub player : IsPlayer r p
  pub rounds : ℕ
  pub does : after_lines r rounds (first_stage r) (take count r.lines) ≡ Some (stage_of p)

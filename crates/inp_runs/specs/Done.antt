-- What stands when the actors of a device have done all their lines, in whatever order their steps were made.
-- It is shown that this is all that is promised of the device (docs/PROMISES.md).
use Rattle.std.specs.Prelude.{ℕ, ◌≡◌, ◌<◌, List, length, map, slice_get, Option, Some}
use Rattle.std.specs.List.{sum_by}
use Rattle.inp_model.specs.declared.step.Step.{Step}
use Rattle.inp_model.specs.Description.{Description, IsDescription}
use Rattle.inp_model.specs.Run.{Call, IsLegalRun}
use Rattle.inp_actors.specs.declared.actor_text.ActorText.{ActorText}
use Rattle.inp_actors.specs.declared.device_text.DeviceText.{DeviceText}
use Rattle.inp_actors.specs.declared.command.Command.TheVariants.{Feedback as ToFeed}
use Rattle.inp_actors.specs.declared.line.Line.{Line}
use Rattle.inp_actors.specs.declared.role.Role.{Role}
use Rattle.inp_actors.specs.declared.role.Role.TheVariants.{Owner}
use Rattle.inp_actors.specs.Record.{RecordView, IsRecord}
use Rattle.inp_reader.specs.Talk.{EndsWith}
use Rattle.inp_script.specs.declared.run.DeviceEnds.{DeviceEnds}
use Rattle.inp_script.specs.declared.waiting.Waiting.{Waiting}
use Rattle.inp_script.specs.Job.{ActorView, first_job}
use Rattle.inp_script.specs.Runs.{actors_of}
use Rattle.inp_script.specs.Ended.{HasDeviceSlots, ended_of, played_of}
use Rattle.inp_runs.specs.Owner.{rooms_of, HasOwned}
use Rattle.inp_runs.specs.Job.{lines_by, lines_talk, calls_at, wait_of, IsRun, ArePromised}

-- An actor did all its lines: its calls are a legal run of the device's history, and its job is what its
-- lines and the answers to these calls make. Its view has the device's slots, if its result has a view. Where
-- it is an owner its feedback calls are the device's.
pub record HasFollowed (r : RecordView) (d : Description) (wait : Option Waiting) (history : List Step) (role : Role) (a : ActorView) : Type 0 where
  pub calls : List Call
  pub legal : IsLegalRun d history calls
  pub rounds : ℕ
  pub follows : EndsWith (lines_talk role d r.streams wait rounds (lines_by a.actor r.lines) (first_job role d)) calls (Some a.job)
  pub is_role : a.role ≡ role
  pub cells : HasDeviceSlots d (ended_of a)
  pub owned : role ≡ Owner → HasOwned d history (rooms_of (lines_by a.actor r.lines)) a.owning

-- The actors of the device of this number did all their lines, and each place of its history is the place of
-- one accepted call of one of them.
pub record IsDeviceDone (idle : Option ℕ) (r : RecordView) (i : ℕ) (d : Description) (history : List Step) (actors : List ActorView) : Type 0 where
  pub numbers : map (λ (a : ActorView). a.actor) actors ≡ actors_of r.actors i
  pub each : (k : ℕ) (a : ActorView) (text : ActorText) → slice_get actors k ≡ Some a → slice_get r.actors a.actor ≡ Some text → HasFollowed r d (wait_of idle r i) history text.role a
  pub once : (place : ℕ) → place < length history → sum_by (calls_at place) actors ≡ 1

-- the result of a device whose actors did all their lines is promised
abbrev pub DevicesDoneArePromised : Type 0
DevicesDoneArePromised =
    (idle : Option ℕ) (r : RecordView) (i : ℕ) (device : DeviceText) (history : List Step) (actors : List ActorView)
    → IsRecord r → IsDescription device.caps → IsDeviceDone idle r i device.caps history actors
    → IsRun idle r i device.caps (record { history = history; ends = map ended_of actors })

-- the devices of a record know nothing of each other: what is promised of each is promised of all
abbrev pub AllAsPromised : Type 0
AllAsPromised =
    (idle : Option ℕ) (r : RecordView) (done : List DeviceEnds)
    → length done ≡ length r.devices
    → ((i : ℕ) (device : DeviceText) (ended : DeviceEnds) → slice_get r.devices i ≡ Some device → slice_get done i ≡ Some ended → IsRun idle r i device.caps ended)
    → ArePromised idle r (played_of done)

-- Each line of an owner is a feedback call, so that none is without its room.
abbrev pub OwnersLinesAreCalls : Type 0
OwnersLinesAreCalls =
    (r : RecordView) (number : ℕ) (text : ActorText) → IsRecord r → slice_get r.actors number ≡ Some text → text.role ≡ Owner
    → (let lines : List Line = lines_by number r.lines in
    map (λ (line : Line). line.command) lines ≡ map ToFeed (rooms_of lines))

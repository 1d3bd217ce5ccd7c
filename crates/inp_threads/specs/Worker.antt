-- What a job on a thread is before it does its lines, and after.
use Rattle.std.specs.Prelude.{◌≡◌, ℕ, ◌+◌, ◌≤◌, true, not, List, [], length, map, filter, All, slice_get, Option, Some, None}
use Rattle.std.specs.List.{range_with_len, count_by}
use Rattle.inp_model.specs.Step.{is_inject}
use Rattle.inp_model.specs.Description.{Description}
use Rattle.inp_model.specs.Leaves.{places_of}
use Rattle.inp_model.specs.Run.{Call, IsLegalRun}
use Rattle.inp_actors.specs.declared.actor_text.ActorText.{ActorText}
use Rattle.inp_actors.specs.declared.device_text.DeviceText.{DeviceText}
use Rattle.inp_actors.specs.declared.role.Role.{Role}
use Rattle.inp_actors.specs.declared.role.Role.TheVariants.{Owner}
use Rattle.inp_actors.specs.Record.{RecordView}
use Rattle.inp_feedback.specs.declared.u_entry.UEntry.{UEntry}
use Rattle.inp_feedback.specs.UEntry.{step_made}
use Rattle.inp_reader.specs.Talk.{EndsWith}
use Rattle.inp_script.specs.declared.waiting.Waiting.{Waiting}
use Rattle.inp_script.specs.DoneLine.{HasActor, IsWaiting}
use Rattle.inp_script.specs.Job.{ActorView, first_job}
use Rattle.inp_script.specs.Owner.{first_owning}
use Rattle.inp_script.specs.Runs.{is_on_device}
use Rattle.inp_runs.specs.Job.{lines_by, lines_talk}
use Rattle.inp_runs.specs.Owner.{rooms_of}
use Rattle.inp_turn.specs.declared.kept.Kept.{Ghosts}
use Rattle.inp_turn.specs.declared.pass.Pass.{Pass}
use Rattle.inp_turn.specs.declared.pass_view.PassView.{PassView}
use Rattle.inp_turn.specs.Pass.{view_of}
use Rattle.inp_turn.specs.PassView.{whole_share, spent_view}
use Rattle.inp_port.specs.declared.port.PortOf.{PortOf}
use Rattle.inp_port.specs.Entries.{steps_among, step_places, other_places}
use Rattle.inp_port.specs.Port.{IsReadyAt, description_of}
use Rattle.inp_uinput.specs.UdevView.{UdevView}
use Rattle.inp_threads.specs.declared.worker.Worker.{Worker}
use Rattle.inp_threads.specs.Lines.{AreLinesDealt}
use Rattle.inp_threads.specs.Owner.{HasFedLines}

module _ {K : Ghosts UdevView Description UEntry} where
  -- what the pass that lies there has seen and owns
  abbrev pub view_in : Option (Pass UdevView Description UEntry K) → PassView Description UEntry
  view_in None = spent_view
  view_in (Some pass) = view_of pass

  -- A pass of this port, without the turn and with one unit of the share, that has seen nothing.
  pub record IsFreshPass (port : PortOf UdevView UEntry) (pass : Pass UdevView Description UEntry K) : Type 0 where
    pub ready : IsReadyAt port pass
    pub share : (view_of pass).share ≡ 1
    pub seen : (view_of pass).seen ≡ []
    pub own : (view_of pass).own ≡ []

  -- such a pass lies there
  pub record HasFreshPass (port : PortOf UdevView UEntry) (place : Option (Pass UdevView Description UEntry K)) : Type 0 where
    pub pass : Pass UdevView Description UEntry K
    pub is_pass : place ≡ Some pass
    pub fresh : IsFreshPass port pass

  -- A pass of this port lies there, without the turn and with one unit of the share.
  pub record HasPass (port : PortOf UdevView UEntry) (place : Option (Pass UdevView Description UEntry K)) : Type 0 where
    pub pass : Pass UdevView Description UEntry K
    pub is_pass : place ≡ Some pass
    pub ready : IsReadyAt port pass
    pub share : (view_of pass).share ≡ 1

-- the port's device is the one of this number
abbrev pub IsPortOf : PortOf UdevView UEntry → RecordView → ℕ → Type 0
IsPortOf port r device = (text : DeviceText) → slice_get r.devices device ≡ Some text → description_of port ≡ text.caps

-- the number of a worker's actor
abbrev pub actor_number : Worker → ℕ
actor_number w = w.actor.actor

-- An actor is one of the record, on the port's device, before its first line.
pub record IsAtStart (port : PortOf UdevView UEntry) (r : RecordView) (a : ActorView) : Type 0 where
  pub actor : HasActor r a
  pub description : a.description ≡ description_of port
  pub job : a.job ≡ first_job a.role a.description
  pub owning : a.owning ≡ first_owning

-- A worker's actor is one of the record, before its first line, and its pass has seen nothing.
pub record IsReadyWorker (port : PortOf UdevView UEntry) (r : RecordView) (w : Worker) : Type 0 where
  pub pass : HasFreshPass port w.pass
  pub number : w.actor.actor ≡ w.number
  pub start : IsAtStart port r w.actor

-- The same, its lines wait so, and all lines are dealt.
pub record IsReadyToWork (port : PortOf UdevView UEntry) (r : RecordView) (lists : List (List ℕ)) (waiting : Waiting) (w : Worker) : Type 0 where
  pub ready : IsReadyWorker port r w
  pub waits : IsWaiting r w.actor waiting
  pub dealt : AreLinesDealt r lists

-- The same, and its actor is one of the device of this number.
pub record IsReadyOn (port : PortOf UdevView UEntry) (r : RecordView) (device : ℕ) (w : Worker) : Type 0 where
  pub ready : IsReadyWorker port r w
  pub text : ActorText
  pub is_text : slice_get r.actors w.actor.actor ≡ Some text
  pub on_device : text.device ≡ device

-- Each actor of the device with a number below n has a worker, in order, which is ready. The shares of their
-- passes and what is left to the pass that they were split off are the whole. This pass has seen nothing
-- either.
pub record AreDealtUpTo {K : Ghosts UdevView Description UEntry} (port : PortOf UdevView UEntry) (r : RecordView) (device n : ℕ) (left : Pass UdevView Description UEntry K) (workers : List Worker) : Type 0 where
  pub numbers : map actor_number workers ≡ filter (λ i. is_on_device device (slice_get r.actors i)) (range_with_len 0 n)
  pub each : All (IsReadyOn port r device) workers
  pub ready : IsReadyAt port left
  pub seen : (view_of left).seen ≡ []
  pub own : (view_of left).own ≡ []
  pub share : (view_of left).share + length workers ≡ whole_share

-- the same of all actors of the device
abbrev pub AreDealt : {K : Ghosts UdevView Description UEntry} → PortOf UdevView UEntry → RecordView → ℕ → Pass UdevView Description UEntry K → List Worker → Type 0
AreDealt port r device left workers = AreDealtUpTo port r device (length r.actors) left workers

-- how many calls are no injections
abbrev pub asking_count : List Call → ℕ
asking_count calls = count_by (λ (call : Call). not (is_inject call.step)) calls

-- An actor did all its lines by calls of an evdev. They are a legal run of what was seen of the history, and
-- its job is what its lines and the answers to these calls make. Its pass owns the places of its steps and no
-- others.
pub record HasWorked (r : RecordView) (d : Description) (wait : Option Waiting) (a : ActorView) (view : PassView Description UEntry) : Type 0 where
  pub calls : List Call
  pub legal : IsLegalRun d (steps_among step_made view.seen) calls
  pub rounds : ℕ
  pub follows : EndsWith (lines_talk a.role d r.streams wait rounds (lines_by a.actor r.lines) (first_job a.role d)) calls (Some a.job)
  pub own : step_places step_made view.seen view.own ≡ places_of calls
  pub others : other_places step_made view.seen view.own ≡ []
  -- each of them that is no injection, answered Again or not, had a turn of its own, which this pass took
  pub turns : asking_count calls ≤ view.turns

-- An owner did all its lines by feedback calls, and no other ones.
pub record HasOwnedLines (r : RecordView) (d : Description) (a : ActorView) (view : PassView Description UEntry) : Type 0 where
  pub fed : HasFedLines d (rooms_of (lines_by a.actor r.lines)) view a.owning
  pub job : a.job ≡ first_job Owner d

-- an actor of this role did all its lines
abbrev pub HasDoneLines : Role → RecordView → Description → Option Waiting → ActorView → PassView Description UEntry → Type 0
HasDoneLines Owner r d wait a view = HasOwnedLines r d a view
HasDoneLines _ r d wait a view = HasWorked r d wait a view

-- A worker's thread has ended: its pass is back, whatever the result, and where it is done its actor did all
-- its lines.
pub record IsWorked (port : PortOf UdevView UEntry) (r : RecordView) (wait : Option Waiting) (w : Worker) : Type 0 where
  pub pass : HasPass port w.pass
  pub actor : HasActor r w.actor
  pub description : w.actor.description ≡ description_of port
  pub worked : w.is_done ≡ true → HasDoneLines w.actor.role r (description_of port) wait w.actor (view_in w.pass)

-- the same worker, whose thread has ended
pub record IsWorkedFrom (port : PortOf UdevView UEntry) (r : RecordView) (waiting : Waiting) (old new : Worker) : Type 0 where
  pub worked : IsWorked port r (Some waiting) new
  pub number : actor_number new ≡ actor_number old

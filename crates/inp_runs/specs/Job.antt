-- What is promised of the result of a record, whatever the order of its jobs' steps (docs/PROMISES.md).
use Rattle.std.specs.Prelude.{ℕ, suc, ◌≡◌, ◌≤◌, Bool, true, false, ◌&&◌, ◌||◌, if◌then◌else◌, nat_eq, nat_lt, List, [], ◌∷◌, length, filter, map, take, reverse, slice_get, Option, Some, None}
use Rattle.std.specs.List.{count_by, list_any, sum_by}
use Rattle.inp_model.specs.declared.stamped.Stamped.{Stamped}
use Rattle.inp_model.specs.declared.taken.Taken.{Taken}
use Rattle.inp_model.specs.declared.step.Step.{Step}
use Rattle.inp_model.specs.Description.{Description, IsDescription}
use Rattle.inp_model.specs.Event.{is_report}
use Rattle.inp_model.specs.Reply.{is_accepted}
use Rattle.inp_model.specs.Run.{IsLegalRun, place_of}
use Rattle.inp_model.specs.Run as model
use Rattle.inp_actors.specs.declared.role.Role.{Role}
use Rattle.inp_actors.specs.declared.role.Role.TheVariants.{Source, Owner}
use Rattle.inp_actors.specs.declared.actor_text.ActorText.{ActorText}
use Rattle.inp_actors.specs.declared.device_text.DeviceText.{DeviceText}
use Rattle.inp_actors.specs.declared.line.Line.{Line}
use Rattle.inp_actors.specs.Command.{is_joy, is_owner}
use Rattle.inp_actors.specs.Record.{RecordView}
use Rattle.inp_model.specs.History.{IsHistory}
use Rattle.inp_recon.specs.Faithful.{IsFaithful}
use Rattle.inp_recon.specs.View.{IsSizedFor}
use Rattle.inp_reader.specs.Talk.{Talk, finish, and_then, EndsWith}
use Rattle.inp_script.specs.declared.run.DeviceEnds.{DeviceEnds}
use Rattle.inp_script.specs.declared.run.Played.{Played}
use Rattle.inp_script.specs.declared.sight.Sight.{Sight}
use Rattle.inp_script.specs.declared.sight.Sight.TheVariants.{Call, Took}
use Rattle.inp_script.specs.declared.waiting.Waiting.{Waiting}
use Rattle.inp_script.specs.DoneLine.{line_talk, source_count}
use Rattle.inp_script.specs.Ended.{ended_of, jobs_among, played_of}
use Rattle.inp_script.specs.Fold.{IsFolded}
use Rattle.inp_script.specs.Job.{ActorView, Job, JobView, first_job}
use Rattle.inp_script.specs.Legal.{sight_of_calls, is_call_entry, LeavesOut}
use Rattle.inp_script.specs.Line.{end_talk}
use Rattle.inp_script.specs.Sight as script
use Rattle.inp_script.specs.Runs.{actors_of}
use Rattle.inp_runs.specs.JobViews.{IsEventTaken, ShowsTheState, reads_as, index_in_history, sight_view}
use Rattle.inp_runs.specs.Owner.{rooms_of, HasOwned}
use Rattle.inp_runs.specs.LossCauses.{AreClientsLossesCaused}

-- the action lines of an actor, in file order
abbrev pub lines_by : ℕ → List Line → List Line
lines_by actor lines = filter (λ line. nat_eq line.actor actor) lines

abbrev pub on_job : (Job → Talk (Option Job)) → Option Job → Talk (Option Job)
on_job next None = finish None
on_job next (Some j) = next j

-- What an actor does when its lines are done: where lines wait, a source that did not stop says that it is done, and
-- nobody else does anything.
abbrev pub last_talk : Option Waiting → Role → Job → Talk (Option Job)
last_talk (Some waiting) Source j = end_talk j.stop j
last_talk _ role j = finish (Some j)

-- What an actor does at its lines, one after another, each in at most so many rounds, and when they are done.
-- Where nobody waits a line ends at the first answer Again.
unfoldable pub lines_talk : Role → Description → List (List Stamped) → Option Waiting → ℕ → List Line → Job → Talk (Option Job)
lines_talk role d streams wait rounds [] j = last_talk wait role j
lines_talk role d streams wait rounds (line ∷ lines) j =
    and_then (line_talk role d streams wait rounds line.command j) (on_job (lines_talk role d streams wait rounds lines))

-- a call that was refused for want of memory
abbrev pub call_lacks_memory : model.Call → Bool
call_lacks_memory call = script.lacks_memory call.answer.reply

-- The sight tells of these calls, but for some that were answered Again.
pub record TellsAllBut (calls : List model.Call) (sight : List Sight) : Type 0 where
  pub kept : List model.Call
  pub part : LeavesOut kept calls
  pub entries : sight_of_calls kept ≡ filter is_call_entry sight

-- The calls are those that the sight tells of. Where lines wait it leaves out the answers Again that they
-- waited through.
abbrev pub AreTold : Option Waiting → List model.Call → List Sight → Type 0
AreTold None calls sight = sight_of_calls calls ≡ filter is_call_entry sight
AreTold (Some waiting) calls sight = TellsAllBut calls sight

-- An actor of this role did its lines. Its calls are a legal run of the device's history, and none of them lacked memory.
-- What it did is what its lines and the answers to these calls make.
pub record FollowsLines (r : RecordView) (d : Description) (wait : Option Waiting) (history : List Step) (role : Role) (a : ActorView) : Type 0 where
  pub is_role : a.role ≡ role
  pub calls : List model.Call
  pub legal : IsLegalRun d history calls
  pub memory : list_any call_lacks_memory calls ≡ false
  -- they are those that its sight tells of
  pub told : AreTold wait calls a.job.sight
  pub rounds : ℕ
  -- it follows its lines
  pub follows : EndsWith (lines_talk role d r.streams wait rounds (lines_by a.actor r.lines) (first_job role d)) calls (Some a.job)
  -- its view, or a joystick's picture, is the fold of its whole sight
  pub folded : IsFolded role d history a.job
  -- the view that its result has is of the device's size; joysticks and owners have none
  pub sized : (is_joy role || is_owner role) ≡ false → IsSizedFor d.slots a.job.reading.view
  -- of each event that it took IsEventTaken holds
  pub took : (k : ℕ) (taken : Taken) → slice_get a.job.sight k ≡ Some (Took taken) → IsEventTaken d history role (take (suc k) a.job.sight) taken
  -- an owner's calls are the feedback calls of its device, which kept no other ones
  pub owned : role ≡ Owner → HasOwned d history (rooms_of (lines_by a.actor r.lines)) a.owning

-- an accepted call at this place of the history
abbrev pub is_entry_at : ℕ → Sight → Bool
is_entry_at place (Call x reply) = is_accepted reply && nat_eq (place_of reply) place
is_entry_at place _ = false

-- how many accepted calls at this place an actor's sight tells of
abbrev pub calls_at : ℕ → ActorView → ℕ
calls_at place a = count_by (is_entry_at place) a.job.sight

-- each device has a description
abbrev pub AreDescribed : RecordView → Type 0
AreDescribed r = (i : ℕ) (device : DeviceText) → slice_get r.devices i ≡ Some device → IsDescription device.caps

-- How the lines of the device of this number wait: through so many answers Again in a row at most, and not
-- once all sources of the device are done. Without a number nobody waits.
abbrev pub wait_of : Option ℕ → RecordView → ℕ → Option Waiting
wait_of None r device = None
wait_of (Some idle) r device = Some (record { idle = idle; sources = source_count r device })

-- The result of the device of this number. It has one history within the limit, and each of its actors followed its
-- lines on that history. Each place of the history is the place of exactly one accepted call of exactly one of them.
pub record IsRun (idle : Option ℕ) (r : RecordView) (number : ℕ) (d : Description) (done : DeviceEnds) : Type 0 where
  pub within : length done.history ≤ d.log_limit
  -- each step of the history was accepted after those before it
  pub accepted : IsHistory d (reverse done.history)
  -- the history is faithful to each client
  pub faithful : (client : ℕ) → IsFaithful d (reverse done.history) client
  -- each loss that a client took has its cause, a joystick's client too
  pub losses : (client : ℕ) → AreClientsLossesCaused d (reverse done.history) client
  -- the device's actors, in order, each with what it did
  pub actors : List ActorView
  pub numbers : map (λ (a : ActorView). a.actor) actors ≡ actors_of r.actors number
  pub each : (k : ℕ) (a : ActorView) (text : ActorText) → slice_get actors k ≡ Some a → slice_get r.actors a.actor ≡ Some text
      → FollowsLines r d (wait_of idle r number) done.history text.role a
  pub ended : done.ends ≡ map ended_of actors
  pub once : (place : ℕ) → sum_by (calls_at place) actors ≡ (if nat_lt place (length done.history) then 1 else 0)

-- The result of a record is that of its devices, in order, each as above. With a number, lines waited so.
pub record ArePromised (idle : Option ℕ) (r : RecordView) (played : Played) : Type 0 where
  pub devices : List DeviceEnds
  pub is_played : played ≡ played_of devices
  pub count : length devices ≡ length r.devices
  pub each : (i : ℕ) (device : DeviceText) (done : DeviceEnds) → slice_get r.devices i ≡ Some device → slice_get devices i ≡ Some done → IsRun idle r i device.caps done

-- At each report that a job took, its view up to then is the device's state at the end of that report's
-- frame. This holds where its client could follow the device up to there.
abbrev pub JobsShowTheDevice : Type 0
JobsShowTheDevice =
    (idle : Option ℕ) (r : RecordView) (number : ℕ) (d : Description) (done : DeviceEnds) (i k : ℕ) (job : JobView) (text : ActorText) (taken : Taken)
    → IsRun idle r number d done → slice_get (jobs_among done.ends) i ≡ Some job → slice_get r.actors job.actor ≡ Some text
    → slice_get job.sight k ≡ Some (Took taken) → is_report taken.event ≡ true
    → (let sight = take (suc k) job.sight in
    ShowsTheState d (reverse done.history) (reads_as sight) (index_in_history d done.history sight) taken (sight_view text.role d done.history sight))

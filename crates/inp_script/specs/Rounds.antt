-- Rounds of a line that hands out events: one by which a reader is asked, or as many as there are events that
-- it has read.
use Rattle.std.specs.Prelude.{◌≡◌, ◌≤◌, ℕ, ◌+◌, ◌-◌, max, Bool, List, ◌++◌, length, map, Option, Some, None}
use Rattle.inp_model.specs.declared.taken.Taken.{Taken}
use Rattle.inp_model.specs.Description.{Description}
use Rattle.inp_model.specs.Evdev.{EvdevView}
use Rattle.inp_model.specs.Leaves.{AreCalls}
use Rattle.inp_model.specs.Run.{Call}
use Rattle.inp_reader.specs.Reader.{queued_run, after_run}
use Rattle.inp_reader.specs.Talk.{LeadsTo}
use Rattle.inp_script.specs.declared.role.client.Turn.{Turn as KeptTurn}
use Rattle.inp_script.specs.declared.waiting.Waiting.{Waiting}
use Rattle.inp_script.specs.Client.{LineProgress, Turn, handed, on_turn, rounds}
use Rattle.inp_script.specs.Progress.{turn_of, IsPatient, IsAnew}
use Rattle.inp_script.specs.Job.{Job}
use Rattle.inp_script.specs.Sight.{taken_sight}

-- how many events a line may be handed in one go: all that it asks for, and one at least
abbrev pub most_of : Option ℕ → ℕ
most_of None = 4294967295
most_of (Some n) = max n 1

-- how many are left after so many more
abbrev pub less_by : ℕ → Option ℕ → Option ℕ
less_by count None = None
less_by count (Some n) = Some (n - count)

-- a job that took these events, the first of its reader's queue
abbrev pub job_after_run : Job → List Taken → Job
job_after_run j run = record j { reading = after_run j.reading run; sight = j.sight ++ map taken_sight run }

-- A run of events was handed out and noted.
pub record HandsRun (left : Option ℕ) (old : Job) (turn : KeptTurn) (new : Job) : Type 0 where
  pub some : 1 ≤ length (queued_run (most_of left) old.reading)
  pub taken : new ≡ job_after_run old (queued_run (most_of left) old.reading)
  pub goes : handed (less_by (length (queued_run (most_of left) old.reading)) left) new ≡ turn_of turn new
  pub patient : IsPatient turn
  pub anew : IsAnew turn

-- So many rounds were made by these calls, and the line goes on or ends so.
pub record IsAdvanced (before after : EvdevView) (d : Description) (wait : Option Waiting) (skips : Bool) (here : LineProgress) (turn : Turn) : Type 0 where
  pub count : ℕ
  pub calls : List Call
  pub leads : (n m : ℕ) → m ≡ count + n → LeadsTo (rounds d wait skips m here) calls (on_turn (rounds d wait skips n) turn)
  pub are_calls : AreCalls before after calls

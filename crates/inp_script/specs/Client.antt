-- What the lines of clients do, which read by a reader (docs/RUNS.md, "Jobs" and "Waiting").
use Rattle.std.specs.Prelude.{ℕ, zero, suc, ◌-◌, Bool, true, false, if◌then◌else◌, nat_eq, nat_lt, nat_le, List, [], ◌∷◌, ◌++◌, Option, Some, None}
use Rattle.inp_model.specs.Description.{Description}
use Rattle.inp_actors.specs.declared.command.Command.{Command}
use Rattle.inp_actors.specs.declared.command.Command.TheVariants.{Open, Next as ToNext, Skip, Follow, Force}
use Rattle.inp_reader.specs.declared.mode.Mode.{Mode}
use Rattle.inp_reader.specs.declared.mode.Mode.TheVariants.{Normal, Sync as Synchronising}
use Rattle.inp_reader.specs.declared.phase.Phase.{Phase}
use Rattle.inp_reader.specs.declared.phase.Phase.TheVariants.{Plain}
use Rattle.inp_reader.specs.declared.next.Next.{Next}
use Rattle.inp_reader.specs.declared.next.Next.TheVariants.{Success, Dropped, Sync, Again as NothingVisible, Synced, Full as FullHistory}
use Rattle.inp_reader.specs.declared.started.Started.{Started}
use Rattle.inp_reader.specs.Reader.{ReaderState, start_talk, next_talk, with_sync_needed}
use Rattle.inp_reader.specs.Talk.{Talk, finish, and_then}
use Rattle.inp_script.specs.declared.sight.Sight.{Sight}
use Rattle.inp_script.specs.declared.sight.Sight.TheVariants.{Took, Made, Again}
use Rattle.inp_script.specs.declared.stop.Stop.{Stop}
use Rattle.inp_script.specs.declared.stop.Stop.TheVariants.{Idle, Full}
use Rattle.inp_script.specs.declared.waiting.Waiting.{Waiting}
use Rattle.inp_script.specs.Job.{Job, no_stick}
use Rattle.inp_script.specs.Line.{step_of, call_if}
use Rattle.inp_script.specs.Sight.{noted, stop_after_start, start_lacks_memory}

-- Starting

-- a job after a start of its reader
abbrev pub job_after_start : Started → ReaderState → List Sight → Job
job_after_start started reading sight = record { reading = reading; sight = sight; stop = stop_after_start started; stick = no_stick }

-- it is given up where memory ran out
abbrev pub start_ends : (Started × ReaderState) × List Sight → Option Job
start_ends o = if start_lacks_memory o.0.0 then None else Some (job_after_start o.0.0 o.0.1 o.1)

unfoldable pub start_job : Description → Job → Talk (Option Job)
start_job d j = and_then (noted (start_talk d j.reading) j.sight) (λ o. finish (start_ends o))

-- Being handed events

-- a job in the midst of a line that hands out events
pub record LineProgress : Type 0 where
  pub job : Job
  -- how many events the line is still to hand out, if it has a number
  pub left : Option ℕ
  -- how many answers Again came last, one after another
  pub agains : ℕ

-- the line goes on, or ends with its job so
pub data Turn : Type 0 where
  goes_on : LineProgress → Turn
  ends_with : Job → Turn

-- a line that skips what the reader makes itself asks in mode Normal; another one goes by the phase
abbrev pub mode_of : Bool → Phase → Mode
mode_of true phase = Normal
mode_of false Plain = Normal
mode_of false _ = Synchronising

abbrev pub with_sight : Job → Sight → Job
with_sight j sight = record j { sight = j.sight ++ sight ∷ [] }

abbrev pub with_stop : Job → Stop → Job
with_stop j stop = record j { stop = Some stop }

abbrev pub one_less : Option ℕ → Option ℕ
one_less None = None
one_less (Some n) = Some (n - 1)

-- nothing is left to hand out
abbrev pub is_done : Option ℕ → Bool
is_done None = false
is_done (Some n) = nat_eq n 0

-- an event was handed out
abbrev pub handed : Option ℕ → Job → Turn
handed left j = if is_done left then ends_with j else goes_on (record { job = j; left = left; agains = 0 })

-- The most answers Again in a row, where the line waits: it does while not all sources are done.
abbrev pub patience : Option Waiting → ℕ → Option ℕ
patience None ends = None
patience (Some waiting) ends = if nat_lt ends waiting.sources then Some waiting.idle else None

-- An answer Again ends a line that does not wait, and stops the job of one that waited as long as it may. Of those that
-- a line waits for none is seen.
abbrev pub after_again : Option ℕ → Option ℕ → ℕ → ℕ → ℕ → Job → Turn
after_again None left agains at ends j = ends_with (with_sight j (Again at ends))
after_again (Some idle) left agains at ends j =
    if nat_le idle agains then ends_with (with_stop (with_sight j (Again at ends)) (Idle idle at))
    else goes_on (record { job = j; left = left; agains = agains })

-- after an answer of the reader
abbrev pub turn_after : Option Waiting → Option ℕ → ℕ → Next → Job → Turn
turn_after wait left agains (Success taken) j = handed (one_less left) (with_sight j (Took taken))
turn_after wait left agains (Dropped taken) j = handed (one_less left) (with_sight j (Took taken))
turn_after wait left agains (Sync event) j = handed (one_less left) (with_sight j (Made event))
turn_after wait left agains Synced j = goes_on (record { job = j; left = left; agains = 0 })
turn_after wait left agains (NothingVisible at ends) j = after_again (patience wait ends) left (suc agains) at ends j
turn_after wait left agains (FullHistory at) j = ends_with (with_stop j (Full at))
turn_after wait left agains _ j = ends_with j

abbrev pub after_next : Option Waiting → LineProgress → (Next × ReaderState) × List Sight → Turn
after_next wait g o = turn_after wait g.left g.agains o.0.0 (record g.job { reading = o.0.1; sight = o.1 })

-- asks the reader once for its next event
unfoldable pub next_round : Description → Option Waiting → Bool → LineProgress → Talk Turn
next_round d wait skips g =
    and_then (noted (next_talk d (mode_of skips g.job.reading.phase) g.job.reading) g.job.sight) (λ o. finish (after_next wait g o))

abbrev pub on_turn : (LineProgress → Talk (Option Job)) → Turn → Talk (Option Job)
on_turn go_on (goes_on g) = go_on g
on_turn go_on (ends_with j) = finish (Some j)

-- asks it until the line ends, and at most so often
unfoldable pub rounds : Description → Option Waiting → Bool → ℕ → LineProgress → Talk (Option Job)
rounds d wait skips zero g = finish None
rounds d wait skips (suc n) g = and_then (next_round d wait skips g) (on_turn (rounds d wait skips n))

-- events are handed out, so many where there is a number; for none there is no call
abbrev pub hand_talk : Description → Option Waiting → Bool → Option ℕ → ℕ → Job → Talk (Option Job)
hand_talk d wait skips left n j =
    if is_done left then finish (Some j) else rounds d wait skips n (record { job = j; left = left; agains = 0 })

-- the reader synchronises before its next event
abbrev pub forced : Job → Job
forced j = record j { reading = with_sync_needed j.reading }

-- What a client does at a command, in at most so many rounds. Only a `follow` waits.
abbrev pub client_talk : Description → Option Waiting → ℕ → Command → Job → Talk (Option Job)
client_talk d wait n Open j = start_job d j
client_talk d wait n (ToNext count) j = hand_talk d None false (Some count) n j
client_talk d wait n (Skip count) j = hand_talk d None true (Some count) n j
client_talk d wait n Follow j = hand_talk d wait false None n j
client_talk d wait n Force j = finish (Some (forced j))
client_talk d wait n command j = call_if j (step_of j.reading.client command)

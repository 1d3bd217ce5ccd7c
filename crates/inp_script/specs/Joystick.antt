-- What the lines of joysticks do (docs/RUNS.md, "Jobs", and docs/RULES.md, "Joystick clients").
use Rattle.std.specs.Prelude.{ℕ, zero, suc, if◌then◌else◌, List, [], ◌∷◌, ◌++◌, Option, Some, None}
use Rattle.inp_model.specs.Description.{Description}
use Rattle.inp_actors.specs.declared.command.Command.{Command}
use Rattle.inp_actors.specs.declared.command.Command.TheVariants.{Open, Read}
use Rattle.inp_joy.specs.declared.joy_read.JoyRead.{JoyRead}
use Rattle.inp_joy.specs.declared.joy_read.JoyRead.TheVariants.{Record as HandedOut, Frame, Again, Full as FullHistory, More}
use Rattle.inp_joy.specs.declared.joy_record.JoyRecord.{JoyRecord}
use Rattle.inp_joy.specs.JoyRecord.{bytes_of_record}
use Rattle.inp_joy.specs.Joy.{JoystickState, JoyAnswer, joy_start, turns}
use Rattle.inp_reader.specs.declared.started.Started.{Started}
use Rattle.inp_reader.specs.Talk.{Talk, finish, and_then}
use Rattle.inp_script.specs.declared.sight.Sight.{Sight}
use Rattle.inp_script.specs.declared.sight.Sight.TheVariants.{Again as NothingVisible, Record}
use Rattle.inp_script.specs.declared.stop.Stop.TheVariants.{Full}
use Rattle.inp_script.specs.Client.{with_sight, with_stop}
use Rattle.inp_script.specs.Job.{Job, joying_of, with_joying}
use Rattle.inp_script.specs.Line.{step_of, call_if}
use Rattle.inp_script.specs.Sight.{noted, stop_after_start, start_lacks_memory}

-- Starting

-- a job after a start of its joystick client; it is given up where memory ran out
abbrev pub after_joy_start : Job → (Started × JoystickState) × List Sight → Option Job
after_joy_start j o =
    if start_lacks_memory o.0.0 then None
    else Some (record (with_joying j o.0.1) { sight = o.1; stop = stop_after_start o.0.0 })

unfoldable pub start_joystick : Description → Job → Talk (Option Job)
start_joystick d j = and_then (noted (joy_start d (joying_of j)) j.sight) (λ o. finish (after_joy_start j o))

-- Reading

-- what reading on for one record comes to
pub data Reach : Type 0 where
  -- a record was handed out
  handed_out : Job → Reach
  -- the line ends
  line_ends : Job → Reach

-- the entry of a record that was handed out
abbrev pub record_sight : Option JoyRecord → List Sight
record_sight None = []
record_sight (Some r) = Record (bytes_of_record r) ∷ []

-- a job after an answer of its client
abbrev pub after_joy_answer : Job → JoyAnswer → List Sight → Job
after_joy_answer j answer sight = record (with_joying j answer.joying) { sight = sight ++ record_sight answer.record_out }

-- a read that ended a frame, or that was long, goes on; any other answer but a record ends the line
abbrev pub after_joy_read : (Job → Talk (Option Reach)) → JoyRead → Job → Talk (Option Reach)
after_joy_read go_on HandedOut j = finish (Some (handed_out j))
after_joy_read go_on (Frame place) j = go_on j
after_joy_read go_on More j = go_on j
after_joy_read go_on (Again at ends) j = finish (Some (line_ends (with_sight j (NothingVisible at ends))))
after_joy_read go_on (FullHistory at) j = finish (Some (line_ends (with_stop j (Full at))))
after_joy_read go_on _ j = finish (Some (line_ends j))

abbrev pub after_turns : (Job → Talk (Option Reach)) → Job → Option JoyAnswer → List Sight → Talk (Option Reach)
after_turns go_on j None sight = finish None
after_turns go_on j (Some answer) sight = after_joy_read go_on answer.read (after_joy_answer j answer sight)

-- reads until a record was handed out or the line ends, at most so often, each read of at most so many turns
unfoldable pub read_on : Description → ℕ → ℕ → Job → Talk (Option Reach)
read_on d most zero j = finish None
read_on d most (suc n) j =
    and_then (noted (turns d most 0 (joying_of j)) j.sight) (λ o. after_turns (read_on d most n) j o.0 o.1)

abbrev pub on_reach : (Job → Talk (Option Job)) → Option Reach → Talk (Option Job)
on_reach go_on None = finish None
on_reach go_on (Some (handed_out j)) = go_on j
on_reach go_on (Some (line_ends j)) = finish (Some j)

-- reads so many records, one after another
unfoldable pub read_records : Description → ℕ → ℕ → Job → Talk (Option Job)
read_records d n zero j = finish (Some j)
read_records d n (suc count) j = and_then (read_on d n n j) (on_reach (read_records d n count))

-- Lines

-- What a joystick does at a command, where no record needs more reads than so many, and no read more turns.
abbrev pub joystick_talk : Description → ℕ → Command → Job → Talk (Option Job)
joystick_talk d n Open j = start_joystick d j
joystick_talk d n (Read count) j = read_records d n count j
joystick_talk d n command j = call_if j (step_of j.reading.client command)

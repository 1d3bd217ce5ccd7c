-- What it means that a line was done (docs/RUNS.md, "Jobs").
use Rattle.std.specs.Prelude.{◌≡◌, ◌<◌, ◌≤◌, ℕ, Bool, ◌&&◌, nat_eq, true, List, length, Option, Some, None, slice_get}
use Rattle.std.specs.List.{count_by}
use Rattle.inp_model.specs.declared.stamped.Stamped.{Stamped}
use Rattle.inp_model.specs.Description.{Description}
use Rattle.inp_model.specs.Evdev.{EvdevView}
use Rattle.inp_model.specs.Run.{Call}
use Rattle.inp_actors.specs.declared.actor_text.ActorText.{ActorText}
use Rattle.inp_actors.specs.declared.command.Command.{Command}
use Rattle.inp_actors.specs.declared.device_text.DeviceText.{DeviceText}
use Rattle.inp_actors.specs.declared.line.Line.{Line}
use Rattle.inp_actors.specs.declared.role.Role.{Role}
use Rattle.inp_actors.specs.declared.role.Role.TheVariants.{Source, Client, Tap, Joy, Owner}
use Rattle.inp_actors.specs.Command.{is_command_of, is_in_range, is_source, stream_of, first_of}
use Rattle.inp_actors.specs.Record.{RecordView}
use Rattle.inp_model.specs.Injection.{AreInTime}
use Rattle.inp_model.specs.Leaves.{AreCalls}
use Rattle.inp_reader.specs.Talk.{Talk, finish, LeadsTo, EndsWith}
use Rattle.inp_script.specs.declared.stop.Stop.{Stop}
use Rattle.inp_script.specs.declared.waiting.Waiting.{Waiting}
use Rattle.inp_script.specs.Client.{client_talk, hand_talk}
use Rattle.inp_script.specs.Job.{Job, ActorView}
use Rattle.inp_script.specs.Joystick.{joystick_talk}
use Rattle.inp_script.specs.Line.{stream_numbered, stream_talk, source_talk, tap_talk}

-- What an actor of a role does at a command. An owner makes no call of an evdev.
abbrev pub command_talk : Role → Description → List (List Stamped) → Option Waiting → ℕ → Command → Job → Talk (Option Job)
command_talk Source d streams wait n command j = source_talk streams command j
command_talk Client d streams wait n command j = client_talk d wait n command j
command_talk Tap d streams wait n command j = tap_talk command j
command_talk Joy d streams wait n command j = joystick_talk d n command j
command_talk Owner d streams wait n command j = finish (Some j)

-- a job that stopped does nothing more
abbrev pub unless_stopped : Option Stop → Job → Talk (Option Job) → Talk (Option Job)
unless_stopped None j talk = talk
unless_stopped (Some stop) j talk = finish (Some j)

-- what an actor does at a command of a record, in at most so many rounds
unfoldable pub line_talk : Role → Description → List (List Stamped) → Option Waiting → ℕ → Command → Job → Talk (Option Job)
line_talk role d streams wait n command j = unless_stopped j.stop j (command_talk role d streams wait n command j)

-- what a source does that injects these events, in order, up to the first one that is refused
abbrev pub inject_talk : List Stamped → Job → Talk (Option Job)
inject_talk events j = unless_stopped j.stop j (stream_talk events j)

-- The calls that were made on an evdev are those of a talk, and this is its result.
pub record Holds {A : Type 0} (before after : EvdevView) (talk : Talk A) (result : A) : Type 0 where
  pub calls : List Call
  pub talk_ends : EndsWith talk calls result
  pub are_calls : AreCalls before after calls

-- The calls that were made on an evdev are the first ones of a talk, and this is what is left of it.
pub record Begins {A : Type 0} (before after : EvdevView) (talk : Talk A) : Type 0 where
  pub calls : List Call
  pub rest : Talk A
  pub leads : LeadsTo talk calls rest
  pub are_calls : AreCalls before after calls

-- A client was handed events, in some number of rounds.
pub record HandsOut (before after : EvdevView) (d : Description) (wait : Option Waiting) (skips : Bool) (count : Option ℕ) (old new : Job) : Type 0 where
  pub rounds : ℕ
  pub holds : Holds before after (hand_talk d wait skips count rounds old) (Some new)

-- A client did a command, in some number of rounds.
pub record DoesClientCommand (before after : EvdevView) (d : Description) (wait : Option Waiting) (command : Command) (old new : Job) : Type 0 where
  pub rounds : ℕ
  pub holds : Holds before after (client_talk d wait rounds command old) (Some new)

-- An actor of a role did a command, in some number of rounds.
pub record DoesCommand (before after : EvdevView) (role : Role) (d : Description) (streams : List (List Stamped)) (wait : Option Waiting) (command : Command) (old new : Job) : Type 0 where
  pub rounds : ℕ
  pub holds : Holds before after (command_talk role d streams wait rounds command old) (Some new)

-- An actor did the line of this number, in some number of rounds, and this is its job afterwards.
pub record DoesLine (before after : EvdevView) (a : ActorView) (r : RecordView) (wait : Option Waiting) (number : ℕ) (new : Job) : Type 0 where
  pub line : Line
  pub is_line : slice_get r.lines number ≡ Some line
  pub rounds : ℕ
  pub holds : Holds before after (line_talk a.role a.description r.streams wait rounds line.command a.job) (Some new)

-- An actor made the first calls of the line of this number, in some number of rounds: all of them, or those
-- until memory ran out.
pub record BeginsLine (before after : EvdevView) (a : ActorView) (r : RecordView) (wait : Option Waiting) (number : ℕ) : Type 0 where
  pub line : Line
  pub is_line : slice_get r.lines number ≡ Some line
  pub rounds : ℕ
  pub begins : Begins before after (line_talk a.role a.description r.streams wait rounds line.command a.job)

-- the stream that a command takes is there, and its moments are within their limit
abbrev pub HasStream : List (List Stamped) → Command → Type 0
HasStream streams command =
    (index : ℕ) → first_of (stream_of command) ≡ Some index
    → (index < length streams) × AreInTime (stream_numbered streams index)

-- actors of the role have the command, and each of its numbers is one that a line may have
pub record IsCommandFor (role : Role) (streams : List (List Stamped)) (command : Command) : Type 0 where
  pub of_role : is_command_of role command ≡ true
  pub in_range : is_in_range role command ≡ true
  pub has_stream : HasStream streams command

-- the line of this number is one of this actor
pub record IsLineOf (r : RecordView) (number actor : ℕ) : Type 0 where
  pub line : Line
  pub is_line : slice_get r.lines number ≡ Some line
  pub is_actor : line.actor ≡ actor

-- the record has this actor, with this role, on a device of this description
pub record HasActor (r : RecordView) (a : ActorView) : Type 0 where
  pub text : ActorText
  pub device : DeviceText
  pub is_text : slice_get r.actors a.actor ≡ Some text
  pub role : text.role ≡ a.role
  pub is_device : slice_get r.devices text.device ≡ Some device
  pub description : device.caps ≡ a.description

-- how many sources the device of this number has
abbrev pub source_count : RecordView → ℕ → ℕ
source_count r device = count_by (λ (text : ActorText). is_source text.role && nat_eq text.device device) r.actors

-- A line that may wait does so once at least, and for the sources of the actor's device.
pub record IsWaiting (r : RecordView) (a : ActorView) (waiting : Waiting) : Type 0 where
  pub idle : 1 ≤ waiting.idle
  pub text : ActorText
  pub is_text : slice_get r.actors a.actor ≡ Some text
  pub sources : waiting.sources ≡ source_count r text.device

-- How far a line that reads records of a joystick has come.
use Rattle.std.specs.Prelude.{◌≤◌, ◌<◌, ℕ, suc, Bool, true, false, List, Option, Some}
use Rattle.inp_model.specs.Description.{Description}
use Rattle.inp_model.specs.Evdev.{EvdevView}
use Rattle.inp_model.specs.Leaves.{AreCalls}
use Rattle.inp_model.specs.Run.{Call}
use Rattle.inp_actors.specs.declared.command.Command.{Command}
use Rattle.inp_joy.specs.declared.joy_read.JoyRead.{JoyRead}
use Rattle.inp_joy.specs.declared.joy_read.JoyRead.TheVariants.{Record as HandedOut}
use Rattle.inp_reader.specs.Talk.{Talk, finish, LeadsTo}
use Rattle.inp_script.specs.declared.role.joystick.AfterRead.{AfterRead}
use Rattle.inp_script.specs.declared.role.joystick.AfterRead.TheVariants.{Hands, GoesOn, Ends}
use Rattle.inp_script.specs.declared.sight.Sight.TheVariants.{Record}
use Rattle.inp_script.specs.Client.{with_sight}
use Rattle.inp_script.specs.DoneLine.{Begins, Holds}
use Rattle.inp_script.specs.Job.{Job}
use Rattle.inp_script.specs.Joystick.{Reach, handed_out, line_ends, after_joy_read, read_on, read_records, joystick_talk}

-- The calls that were made on an evdev are the first ones of a talk, and the other talk is what is left of it.
pub record Leads {A : Type 0} (before after : EvdevView) (talk left : Talk A) : Type 0 where
  pub calls : List Call
  pub leads : LeadsTo talk calls left
  pub are_calls : AreCalls before after calls

-- One read

-- after a read, with the entry of the bytes that it handed out
abbrev pub after_bytes : (Job → Talk (Option Reach)) → JoyRead → List ℕ → Job → Talk (Option Reach)
after_bytes go_on HandedOut bytes j = finish (Some (handed_out (with_sight j (Record bytes))))
after_bytes go_on read bytes j = after_joy_read go_on read j

-- the line goes on as a read left it
abbrev pub then_reads : (Job → Talk (Option Reach)) → AfterRead → Job → Talk (Option Reach)
then_reads go_on Hands j = finish (Some (handed_out j))
then_reads go_on GoesOn j = go_on j
then_reads go_on Ends j = finish (Some (line_ends j))

-- A read was made and noted, of no more than so many turns.
pub record HasRead (before after : EvdevView) (d : Description) (old : Job) (left_by : AfterRead) (new : Job) : Type 0 where
  pub turns : ℕ
  pub leads : (most n : ℕ) → turns ≤ most → Leads before after (read_on d most (suc n) old) (then_reads (read_on d most n) left_by new)

-- A read was begun, of no more than so many turns.
abbrev pub BeginsRead : EvdevView → EvdevView → Description → Job → Type 0
BeginsRead before after d old = (turns : ℕ) × ((most n : ℕ) → turns ≤ most → Begins before after (read_on d most (suc n) old))

-- a read after which the line reads on leaves less to do
abbrev pub LeavesLess : AfterRead → ℕ → ℕ → Type 0
LeavesLess GoesOn after before = after < before
LeavesLess _ after before = Unit {0}

-- One record

-- a record was handed out, or the line ends
abbrev pub reach_of : Bool → Job → Reach
reach_of true j = handed_out j
reach_of false j = line_ends j

-- Reading on for one record came to this, in so many reads and turns or more.
pub record ReadsOn (before after : EvdevView) (d : Description) (old : Job) (reach : Reach) : Type 0 where
  pub bound : ℕ
  pub holds : (n : ℕ) → bound ≤ n → Holds before after (read_on d n n old) (Some reach)

-- It was begun.
abbrev pub BeginsReading : EvdevView → EvdevView → Description → Job → Type 0
BeginsReading before after d old = (bound : ℕ) × ((n : ℕ) → bound ≤ n → Begins before after (read_on d n n old))

-- Lines

-- So many records were read, or as many as the line came to.
pub record ReadsRecords (before after : EvdevView) (d : Description) (count : ℕ) (old new : Job) : Type 0 where
  pub bound : ℕ
  pub holds : Holds before after (read_records d bound count old) (Some new)

-- A joystick did a command, in so many rounds.
pub record DoesJoystickCommand (before after : EvdevView) (d : Description) (command : Command) (old new : Job) : Type 0 where
  pub rounds : ℕ
  pub holds : Holds before after (joystick_talk d rounds command old) (Some new)

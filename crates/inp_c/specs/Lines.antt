-- The action lines of a record that a handle keeps, and what C is told of them.
use Rattle.std.specs.Prelude.{◌≡◌, ℕ, nat_lt, length, slice_get, Option, Some, None}
use Rattle.inp_model.specs.declared.step.Step.{Step}
use Rattle.inp_actors.specs.declared.command.Command.{Command}
use Rattle.inp_actors.specs.declared.command.Command.TheVariants.{Event, Tick, Inhibit, Uninhibit, Stream, Stream16, Open, Close, Grab, Ungrab, Revoke, Mask, Clock, Write, SetAxis, Read, Discard, Keys, Switches, Leds, Sounds, SyncSlots, Axis, Slots, Next, Skip, Follow, Force, Feedback}
use Rattle.inp_actors.specs.declared.line.Line.{Line}
use Rattle.inp_script.specs.Line.{step_of}
use Rattle.inp_c.specs.declared.kept.Kept.{Kept}
use Rattle.inp_c.specs.declared.kept.Kept.TheVariants.{Record}
use Rattle.inp_c.specs.declared.kept_record.KeptRecord.{KeptRecord}
use Rattle.inp_c.specs.declared.c_step.CStep.{CStep}
use Rattle.inp_c.specs.declared.c_line.CLine.{CLine}
use Rattle.inp_c.specs.declared.line_step.TheConstants.{NO_STEP}
use Rattle.inp_c.specs.declared.status.TheConstants.{BAD_HANDLE}
use Rattle.inp_c.specs.Status.{argument_status}
use Rattle.inp_c.specs.ToldStep.{step_by, told_step}

-- the number of a command
abbrev pub command_number : Command → ℕ
command_number (Event moment kind code value) = 0
command_number (Tick moment) = 1
command_number (Inhibit moment) = 2
command_number Uninhibit = 3
command_number (Stream file index) = 4
command_number (Stream16 file index) = 5
command_number Open = 6
command_number Close = 7
command_number Grab = 8
command_number Ungrab = 9
command_number Revoke = 10
command_number (Mask kind word bits) = 11
command_number (Clock clock moment) = 12
command_number (Write moment kind code value) = 13
command_number (SetAxis code info) = 14
command_number (Read count) = 15
command_number Discard = 16
command_number Keys = 17
command_number Switches = 18
command_number Leds = 19
command_number Sounds = 20
command_number SyncSlots = 21
command_number (Axis code) = 22
command_number (Slots code) = 23
command_number (Next count) = 24
command_number (Skip count) = 25
command_number Follow = 26
command_number Force = 27
command_number (Feedback count) = 28

-- the count of a command, or 0 where it has none
abbrev pub count_of_command : Command → ℕ
count_of_command (Read count) = count
count_of_command (Next count) = count
count_of_command (Skip count) = count
count_of_command (Feedback count) = count
count_of_command _ = 0

-- what C is told where there may be a step; where there is none, the number that no step has, and zeros
abbrev pub told_if_step : Option Step → CStep
told_if_step (Some x) = told_step x
told_if_step None = step_by NO_STEP 0

-- what C is told of the step that a command makes on the client 0, if it makes one and no more
abbrev pub step_of_command : Command → CStep
step_of_command command = told_if_step (step_of 0 command)

-- what C is told of a line
abbrev pub told_line : Line → CLine
told_line line = record {
  actor = line.actor;
  command = command_number line.command;
  count = count_of_command line.command;
  step = step_of_command line.command;
}

-- a call that wants a record, and the number of one of its action lines
abbrev pub line_status : Option Kept → ℕ → ℕ
line_status (Some (Record kept)) number = argument_status (nat_lt number (length kept.recorded.lines))
line_status _ number = BAD_HANDLE

-- C is told of the action line of this number
pub record IsToldLine (before : Option Kept) (number : ℕ) (out : CLine) : Type 0 where
  pub kept : KeptRecord
  pub line : Line
  pub is : before ≡ Some (Record kept)
  pub there : slice_get kept.recorded.lines number ≡ Some line
  pub told : out ≡ told_line line

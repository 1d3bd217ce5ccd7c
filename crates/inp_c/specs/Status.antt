-- Which status a call answers, where it follows from what is passed.
use Rattle.std.specs.Prelude.{ℕ, ◌*◌, Bool, true, false, ◌&&◌, nat_le, if◌then◌else◌, Option, Some, None}
use Rattle.inp_model.specs.declared.stamped.TheConstants.{MOMENT_MAX}
use Rattle.inp_model.specs.declared.multi_touch.TheConstants.{SLOT_VALUES}
use Rattle.inp_model.specs.declared.step.Step.{Step}
use Rattle.inp_model.specs.declared.step.Step.TheVariants.{Read, GetSlots, SyncSlots}
use Rattle.inp_model.specs.Description.{Description}
use Rattle.inp_actors.specs.declared.command.TheConstants.{READ_MAX}
use Rattle.inp_c.specs.declared.kept.Kept.{Kept}
use Rattle.inp_c.specs.declared.kept.Kept.TheVariants.{Device}
use Rattle.inp_c.specs.declared.status.TheConstants.{OK, BAD_ARGUMENT, BAD_HANDLE}
use Rattle.inp_c.specs.declared.c_step.CStep.{CStep}
use Rattle.inp_c.specs.StepOfC.{step_of_c}

-- OK, or that an argument is bad
abbrev pub argument_status : Bool → ℕ
argument_status good = if good then OK else BAD_ARGUMENT

-- a call that wants a device
abbrev pub device_status : Option Kept → ℕ
device_status (Some (Device device)) = OK
device_status _ = BAD_HANDLE

-- a call that wants a device and a moment
abbrev pub inject_status : Option Kept → ℕ → ℕ
inject_status (Some (Device device)) now = argument_status (nat_le now MOMENT_MAX)
inject_status _ now = BAD_HANDLE

-- C's arrays of events and of values are long enough for a step, and it reads no more than the greatest count
abbrev pub has_room : Description → Step → ℕ → ℕ → Bool
has_room d (Read client count) events cells = nat_le count READ_MAX && nat_le count events
has_room d (GetSlots client code) events cells = nat_le (SLOT_VALUES * d.slots) cells
has_room d (SyncSlots client) events cells = nat_le (SLOT_VALUES * d.slots) cells
has_room d _ events cells = true

-- there is a step, and room for it
abbrev pub has_step_room : Description → Option Step → ℕ → ℕ → Bool
has_step_room d (Some x) events cells = has_room d x events cells
has_step_room d None events cells = false

-- a call that wants a device, a step and room
abbrev pub step_status : Option Kept → CStep → ℕ → ℕ → ℕ
step_status (Some (Device device)) c events cells = argument_status (has_step_room device.udev.description (step_of_c c) events cells)
step_status _ c events cells = BAD_HANDLE

-- What C is told of what a device has now.
use Rattle.std.specs.Prelude.{◌≡◌, ℕ, ℤ, pos, Bool, ◌&&◌, ◌||◌, nat_eq, nat_le, nat_lt, if◌then◌else◌, List, Option, Some, is_some, unwrap_or}
use Rattle.inp_model.specs.declared.axis_info.AxisInfo.{AxisInfo}
use Rattle.inp_model.specs.declared.event.TheConstants.{EV_KEY, EV_SW, EV_LED, EV_SND, ABS_MAX, REP_DELAY, REP_PERIOD}
use Rattle.inp_model.specs.declared.step.Step.{Step}
use Rattle.inp_model.specs.Description.{Description, is_slot_code}
use Rattle.inp_model.specs.Raw.{raw, timer}
use Rattle.inp_model.specs.RawItem.{RawItem}
use Rattle.inp_model.specs.Reply.{bitmap_of, code_on, axis_answer}
use Rattle.inp_model.specs.State.{cell, repeat_setting}
use Rattle.inp_c.specs.declared.kept.Kept.{Kept}
use Rattle.inp_c.specs.declared.kept.Kept.TheVariants.{Device}
use Rattle.inp_c.specs.declared.kept_device.KeptDevice.{KeptDevice}
use Rattle.inp_c.specs.declared.c_repeat.CRepeat.{CRepeat}
use Rattle.inp_c.specs.declared.status.TheConstants.{BAD_HANDLE}
use Rattle.inp_c.specs.ClientTold.{kept_past}
use Rattle.inp_c.specs.Status.{argument_status}

-- the raw events and descriptions of axes of a kept device, newest first
abbrev pub raw_of : KeptDevice → List RawItem
raw_of device = raw device.udev.description (kept_past device)

-- the types whose codes are on or off
abbrev pub is_state_kind : ℕ → Bool
is_state_kind kind = nat_eq kind EV_KEY || nat_eq kind EV_SW || nat_eq kind EV_LED || nat_eq kind EV_SND

-- a call that wants a device, and a type whose codes are on or off
abbrev pub state_status : Option Kept → ℕ → ℕ
state_status (Some (Device device)) kind = argument_status (is_state_kind kind)
state_status _ kind = BAD_HANDLE

-- a call that wants a device, and an axis that there may be
abbrev pub axis_status : Option Kept → ℕ → ℕ
axis_status (Some (Device device)) code = argument_status (nat_le code ABS_MAX)
axis_status _ code = BAD_HANDLE

-- a call that wants a device, one of its slots, and an axis whose values belong to slots
abbrev pub cell_status : Option Kept → ℕ → ℕ → ℕ
cell_status (Some (Device device)) slot code =
    argument_status (nat_lt slot device.udev.description.slots && is_slot_code code)
cell_status _ slot code = BAD_HANDLE

-- the settings of the autorepeat and its timer; the moment is 0 where the timer is not armed
abbrev pub told_repeat : Description → List Step → CRepeat
told_repeat d past = record {
  delay = repeat_setting d (raw d past) REP_DELAY;
  period = repeat_setting d (raw d past) REP_PERIOD;
  armed = if is_some (timer d past).due then 1 else 0;
  key = (timer d past).key;
  due = unwrap_or (timer d past).due 0;
}

-- the words have a bit for each code of the type that is on
pub record AreOnBits (kept : Option Kept) (kind : ℕ) (words : List ℕ) : Type 0 where
  pub device : KeptDevice
  pub is : kept ≡ Some (Device device)
  pub words_are : words ≡ bitmap_of (code_on device.udev.description (raw_of device) kind)

-- the axis of the handle's device
pub record IsToldAxis (kept : Option Kept) (code : ℕ) (info : AxisInfo) : Type 0 where
  pub device : KeptDevice
  pub is : kept ≡ Some (Device device)
  pub info_is : info ≡ axis_answer device.udev.description (raw_of device) code

-- the slot of the handle's device has this value
pub record IsToldCell (kept : Option Kept) (slot code : ℕ) (value : ℤ) : Type 0 where
  pub device : KeptDevice
  pub is : kept ≡ Some (Device device)
  pub value_is : value ≡ cell device.udev.description (raw_of device) (pos slot) code

-- the autorepeat of the handle's device
pub record IsToldRepeat (kept : Option Kept) (repeat : CRepeat) : Type 0 where
  pub device : KeptDevice
  pub is : kept ≡ Some (Device device)
  pub repeat_is : repeat ≡ told_repeat device.udev.description (kept_past device)

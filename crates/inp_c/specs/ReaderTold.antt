-- What C is told of what the reader of a device knows.
use Rattle.std.specs.Prelude.{◌≡◌, ℕ, ℤ, pos, Bool, ◌&&◌, not, nat_eq, nat_le, nat_lt, if◌then◌else◌, List, slice_index_or, Option, Some, None, is_some}
use Rattle.inp_bits.specs.Bits.{is_on_at}
use Rattle.inp_model.specs.declared.event.TheConstants.{EV_KEY, EV_SW, EV_LED, EV_ABS, KEY_MAX, SW_MAX, LED_MAX, ABS_MAX}
use Rattle.inp_model.specs.Description.{is_multi_touch_code, is_slot_code}
use Rattle.inp_recon.specs.declared.view.View.{View}
use Rattle.inp_recon.specs.Cells.{slot_count, cell_of}
use Rattle.inp_reader.specs.declared.phase.Phase.{Phase}
use Rattle.inp_reader.specs.declared.phase.Phase.TheVariants.{Plain, Needed, Handing}
use Rattle.inp_c.specs.declared.kept.Kept.{Kept}
use Rattle.inp_c.specs.declared.kept.Kept.TheVariants.{Device}
use Rattle.inp_c.specs.declared.kept_device.KeptDevice.{KeptDevice}
use Rattle.inp_c.specs.declared.status.TheConstants.{BAD_HANDLE}
use Rattle.inp_c.specs.Status.{argument_status}

-- 1 where the flag of a code is on, else 0; a code above the greatest one has no flag
abbrev pub flag_value : List Bool → ℕ → ℕ → Option ℤ
flag_value flags greatest code = if nat_le code greatest then Some (if is_on_at flags code then pos 1 else pos 0) else None

-- the value of an axis; one whose values belong to slots has no value of its own
abbrev pub axis_value_in : List ℤ → ℕ → Option ℤ
axis_value_in axes code = if nat_le code ABS_MAX && not (is_multi_touch_code code) then Some (slice_index_or axes code (pos 0)) else None

-- the value of a type and a code in a view; other types than keys, switches, LEDs and axes have none
abbrev pub view_value : View → ℕ → ℕ → Option ℤ
view_value view kind code =
    if nat_eq kind EV_KEY then flag_value view.keys KEY_MAX code
    else if nat_eq kind EV_SW then flag_value view.switches SW_MAX code
    else if nat_eq kind EV_LED then flag_value view.leds LED_MAX code
    else if nat_eq kind EV_ABS then axis_value_in view.axes code
    else None

-- a view has this slot, and a slot this axis
abbrev pub has_slot_value : View → ℕ → ℕ → Bool
has_slot_value view slot code = nat_lt slot (slot_count view.cells) && is_slot_code code

-- a call that wants a device, and a type and a code that a view has
abbrev pub value_status : Option Kept → ℕ → ℕ → ℕ
value_status (Some (Device device)) kind code = argument_status (is_some (view_value device.reader.reading.view kind code))
value_status _ kind code = BAD_HANDLE

-- a call that wants a device, and a slot and an axis that a view has
abbrev pub slot_status : Option Kept → ℕ → ℕ → ℕ
slot_status (Some (Device device)) slot code = argument_status (has_slot_value device.reader.reading.view slot code)
slot_status _ slot code = BAD_HANDLE

-- the number of a phase
abbrev pub phase_number : Phase → ℕ
phase_number Plain = 0
phase_number Needed = 1
phase_number Handing = 2

-- the view of the reader of the handle's device has this value
pub record IsViewValue (kept : Option Kept) (kind code : ℕ) (value : ℤ) : Type 0 where
  pub device : KeptDevice
  pub is : kept ≡ Some (Device device)
  pub value_is : view_value device.reader.reading.view kind code ≡ Some value

-- the slot of the view of the reader of the handle's device has this value
pub record IsSlotValue (kept : Option Kept) (slot code : ℕ) (value : ℤ) : Type 0 where
  pub device : KeptDevice
  pub is : kept ≡ Some (Device device)
  pub value_is : value ≡ cell_of device.reader.reading.view.cells slot code

-- the reader of the handle's device has this client, phase and current slot
pub record IsReaderState (kept : Option Kept) (client phase : ℕ) (slot : ℤ) : Type 0 where
  pub device : KeptDevice
  pub is : kept ≡ Some (Device device)
  pub client_is : client ≡ device.reader.reading.client
  pub phase_is : phase ≡ phase_number device.reader.reading.phase
  pub slot_is : slot ≡ device.reader.reading.view.slot

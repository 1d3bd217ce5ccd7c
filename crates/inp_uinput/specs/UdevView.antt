-- What a contract sees of a device made by requests.
use Rattle.std.specs.Prelude.{ℕ, List, Some}
use Rattle.inp_model.specs.Description.{Description}
use Rattle.inp_model.specs.DeviceView.{DeviceView, evdev_view}
use Rattle.inp_model.specs.Evdev.{EvdevView}
use Rattle.inp_feedback.specs.declared.u_entry.UEntry.{UEntry}
use Rattle.inp_feedback.specs.UEntry.{steps_in}
use Rattle.inp_feedback.specs.KeptList.{call_numbers}

-- its description, which never changes, what it keeps, newest first, and how many calls were answered Again
pub record UdevView : Type 0 where
  pub description : Description
  pub kept : List UEntry
  pub agains : ℕ

-- the same with its steps alone
abbrev pub device_of : UdevView → DeviceView
device_of u = record { description = u.description; past = steps_in u.kept; agains = u.agains }

-- What the caller of an evdev sees of a device with its owner. It is the same as of its steps alone, with its
-- feedback calls as the tie, so that no call of an evdev changes them (docs/RULES.md, "Devices made by
-- requests").
abbrev pub owned_view : UdevView → EvdevView
owned_view u = record (evdev_view (device_of u)) { tie = Some (call_numbers u.kept) }

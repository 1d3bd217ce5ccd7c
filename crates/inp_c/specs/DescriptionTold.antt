-- What C is told of what a device is: what it supports, and its numbers.
use Rattle.std.specs.Prelude.{◌≡◌, ℕ, Bool, nat_eq, if◌then◌else◌, List, Option, Some}
use Rattle.inp_model.specs.declared.event.TheConstants.{EV_SYN}
use Rattle.inp_model.specs.Description.{Description, has_kind, supports, ring}
use Rattle.inp_model.specs.Reply.{bitmap_of}
use Rattle.inp_c.specs.declared.kept.Kept.{Kept}
use Rattle.inp_c.specs.declared.kept.Kept.TheVariants.{Device}
use Rattle.inp_c.specs.declared.kept_device.KeptDevice.{KeptDevice}
use Rattle.inp_c.specs.declared.c_limits.CLimits.{CLimits}

-- a code is supported; the codes of EV_SYN are the types here, as the kernel has it
abbrev pub is_supported : Description → ℕ → ℕ → Bool
is_supported d kind code = if nat_eq kind EV_SYN then has_kind d code else supports d kind code

-- the numbers of a description
abbrev pub told_limits : Description → CLimits
told_limits d = record {
  slots = d.slots;
  hint = d.hint;
  log = d.log_limit;
  ring = ring d;
  realtime = d.realtime;
  boottime = d.boottime;
}

-- the words have a bit for each code of a type that the handle's device supports
pub record AreSupportedBits (kept : Option Kept) (kind : ℕ) (words : List ℕ) : Type 0 where
  pub device : KeptDevice
  pub is : kept ≡ Some (Device device)
  pub words_are : words ≡ bitmap_of (is_supported device.udev.description kind)

-- the numbers are those of the handle's device
pub record IsToldLimits (kept : Option Kept) (limits : CLimits) : Type 0 where
  pub device : KeptDevice
  pub is : kept ≡ Some (Device device)
  pub limits_are : limits ≡ told_limits device.udev.description

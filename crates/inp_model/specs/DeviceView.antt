-- What a device is seen as, however it is kept.
use Rattle.std.specs.Prelude.{ℕ, List, reverse, length, None}
use Rattle.std.specs.List.{range_with_len}
use Rattle.inp_model.specs.declared.step.Step.{Step}
use Rattle.inp_model.specs.Description.{Description}
use Rattle.inp_model.specs.Evdev.{EvdevView}

-- its description, which never changes, the steps that it accepted, newest first, and how many calls were
-- answered Again
pub record DeviceView : Type 0 where
  pub description : Description
  pub past : List Step
  pub agains : ℕ

-- what the caller of a device sees: all of its history, and that each place is its own
abbrev pub evdev_view : DeviceView → EvdevView
evdev_view d = record {
  description = d.description;
  seen = reverse d.past;
  own = range_with_len 0 (length d.past);
  agains = d.agains;
  turns = None;
  tie = None;
}

-- How the slots are kept.
use Rattle.std.specs.Prelude.{◌≤◌, ◌-◌, pos, length}
use Rattle.inp_model.specs.declared.limits.TheConstants.{SLOTS_MAX}
use Rattle.inp_slots.specs.declared.slots.Slots.TheInside.{Inside}
use Rattle.inp_slots.specs.Slots.{SlotValues}

abbrev pub values : Inside → SlotValues
values s = record { slots = s.slots.items; staged = pos s.staged; announced = pos s.announced; at_frame = pos s.at_frame }

-- each slot that is named is one that the device has, and 0 where it has no slots
pub record IsSlots (s : Inside) : Type 0 where
  pub count : length s.slots.items ≤ SLOTS_MAX
  pub staged : s.staged ≤ length s.slots.items - 1
  pub announced : s.announced ≤ length s.slots.items - 1
  pub at_frame : s.at_frame ≤ length s.slots.items - 1

-- What a multi-touch event changes of the slots.
use Rattle.std.specs.Prelude.{ℕ, ◌-◌, ℤ, pos, int_lt, Bool, ◌&&◌, not, if◌then◌else◌, List, [], length, slice_set, slice_index_or, Option, Some, None, unsigned_abs}
use Rattle.std.specs.Ordering.{int_eq}
use Rattle.inp_model.specs.declared.multi_touch.TheConstants.{ABS_MT_TOUCH_MAJOR}
use Rattle.inp_model.specs.Defuzz.{defuzz}
use Rattle.inp_slots.specs.Slots.{SlotValues}

-- there is a slot of this number
abbrev pub is_slot_there : SlotValues → ℤ → Bool
is_slot_there s slot = not (int_lt slot (pos 0)) && int_lt slot (pos (length s.slots))

-- the naming of a slot stages it, if there is one of this number
abbrev pub slot_named : SlotValues → ℤ → SlotValues
slot_named s slot = if is_slot_there s slot then record s { staged = slot } else s

-- the value that a slot has on an axis
abbrev pub on_axis : List ℤ → ℕ → ℤ
on_axis slot code = slice_index_or slot (code - ABS_MT_TOUCH_MAJOR) (pos 0)

-- the value that a slot takes, as far as the fuzz allows
abbrev pub taken : List ℤ → ℕ → ℤ → ℤ → ℤ
taken slot code value fuzz = defuzz value (on_axis slot code) fuzz

-- a slot with another value on an axis
abbrev pub with_value : List ℤ → ℕ → ℤ → List ℤ
with_value slot code value = slice_set slot (code - ABS_MT_TOUCH_MAJOR) value

-- the value that a slot takes, where it is another one than it has
abbrev pub change : List ℤ → ℕ → ℤ → ℤ → Option ℤ
change slot code value fuzz =
    if int_eq (on_axis slot code) (taken slot code value fuzz) then None else Some (taken slot code value fuzz)

-- the values of the staged slot
abbrev pub staged_slot : SlotValues → List ℤ
staged_slot s = slice_index_or s.slots (unsigned_abs s.staged) []

-- the staged slot takes a value
abbrev pub moved : SlotValues → ℕ → ℤ → ℤ → SlotValues
moved s code value fuzz = record s { slots = slice_set s.slots (unsigned_abs s.staged) (with_value (staged_slot s) code (taken (staged_slot s) code value fuzz)) }

-- the staged slot is the announced one
abbrev pub is_announced : SlotValues → Bool
is_announced s = int_eq s.staged s.announced

-- The values of all slots, as a list: slot by slot, each slot's by ascending codes (docs/READER.md, "Views").
use Rattle.std.specs.Prelude.{◌≡◌, ◌≤◌, ℕ, ◌+◌, ◌-◌, ◌*◌, ◌/◌, ℤ, pos, int_lt, Bool, ◌&&◌, not, if◌then◌else◌, List, length, map, flat_map, slice_set, slice_index_or, unsigned_abs}
use Rattle.std.specs.List.{range_with_len}
use Rattle.inp_model.specs.declared.limits.TheConstants.{SLOTS_MAX}
use Rattle.inp_model.specs.declared.multi_touch.TheConstants.{ABS_MT_TOUCH_MAJOR, SLOT_VALUES}
use Rattle.inp_model.specs.State.{first_cell}

-- the values of a slot without a contact
abbrev pub first_row : List ℤ
first_row = map first_cell (range_with_len ABS_MT_TOUCH_MAJOR SLOT_VALUES)

-- so many slots without a contact
unfoldable pub first_cells : ℕ → List ℤ
first_cells slots = flat_map (λ slot. first_row) (range_with_len 0 slots)

-- how many slots there are
abbrev pub slot_count : List ℤ → ℕ
slot_count cells = length cells / SLOT_VALUES

-- all values of each slot, of no more slots than a device can have
pub record AreWholeSlots (cells : List ℤ) : Type 0 where
  pub whole : length cells ≡ SLOT_VALUES * slot_count cells
  pub few : slot_count cells ≤ SLOTS_MAX

-- there is a slot of this number
abbrev pub has_slot : List ℤ → ℤ → Bool
has_slot cells slot = not (int_lt slot (pos 0)) && int_lt slot (pos (slot_count cells))

-- where the value of a slot on an axis stands
abbrev pub cell_index : ℤ → ℕ → ℕ
cell_index slot code = SLOT_VALUES * unsigned_abs slot + (code - ABS_MT_TOUCH_MAJOR)

-- the value of a slot on an axis
abbrev pub cell_of : List ℤ → ℕ → ℕ → ℤ
cell_of cells slot code = slice_index_or cells (cell_index (pos slot) code) (pos 0)

-- a slot takes a value on an axis, if there is a slot of this number
abbrev pub with_cell : List ℤ → ℤ → ℕ → ℤ → List ℤ
with_cell cells slot code value = if has_slot cells slot then slice_set cells (cell_index slot code) value else cells

-- A slot as the list of its fourteen values.
use Rattle.std.specs.Prelude.{ℤ, pos, List, [], ◌∷◌, slice_index_or}
use Rattle.inp_slots.specs.declared.slot.Slot.TheInside.{Inside}

-- the values by ascending codes
abbrev pub values : Inside → List ℤ
values s =
    s.touch_major ∷ s.touch_minor ∷ s.width_major ∷ s.width_minor ∷ s.orientation ∷ s.position_x ∷ s.position_y
    ∷ s.tool_type ∷ s.blob_id ∷ s.tracking_id ∷ s.pressure ∷ s.distance ∷ s.tool_x ∷ s.tool_y ∷ []

-- the slot with these values
abbrev pub slot_of : List ℤ → Inside
slot_of v = record {
  touch_major = slice_index_or v 0 (pos 0);
  touch_minor = slice_index_or v 1 (pos 0);
  width_major = slice_index_or v 2 (pos 0);
  width_minor = slice_index_or v 3 (pos 0);
  orientation = slice_index_or v 4 (pos 0);
  position_x = slice_index_or v 5 (pos 0);
  position_y = slice_index_or v 6 (pos 0);
  tool_type = slice_index_or v 7 (pos 0);
  blob_id = slice_index_or v 8 (pos 0);
  tracking_id = slice_index_or v 9 (pos 0);
  pressure = slice_index_or v 10 (pos 0);
  distance = slice_index_or v 11 (pos 0);
  tool_x = slice_index_or v 12 (pos 0);
  tool_y = slice_index_or v 13 (pos 0);
}

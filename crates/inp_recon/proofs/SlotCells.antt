-- The values of all slots as one list: where each stands, and what it becomes.
use Rattle.std.proofs.Common.{◌≡◌, ◌<◌, ◌≤◌, ℕ, zero, suc, ◌+◌, ◌-◌, ◌*◌, ℤ, pos, negsuc, true, false, ◌&&◌}
use Rattle.std.proofs.Common.{if◌then◌else◌, nat_eq, nat_lt, nat_le, List, length, get_or, refl, arith}
use Rattle.std.proofs.Common.{add-zero, zero-add, inl, inr}
use Rattle.std.specs.List.{flat_map, range_with_len}
use Rattle.std.specs.Ordering.{int_eq}
use Rattle.std.proofs.lemmas.Bool.{cases_Bool, eqb-true, leb-true, lt-ltb, le-ltb, cases_lt, and_right}
use Rattle.std.proofs.lemmas.Bool.Decides.{Decides-int_eq, nat_tests}
use Rattle.std.proofs.lemmas.List.{get_or_append_left, get_or-append_right, get_or-set_same, get_or-set_other}
use Rattle.std.proofs.lemmas.List.FromFn.{length-map-range_with_len, get_or-map-range_with_len}
use Rattle.inp_model.specs.declared.multi_touch.TheConstants.{ABS_MT_TOUCH_MAJOR, ABS_MT_TOOL_Y}
use Rattle.inp_model.specs.RawItem.{RawItem}
use Rattle.inp_model.specs.Description.{Description, is_slot_code}
use Rattle.inp_model.specs.State.{cell}
use Rattle.inp_model.specs.Reply.{row, rows}
use Rattle.inp_recon.specs.Cells.{has_slot, cell_index, with_cell}
use Rattle.inp_recon.proofs.Each.{and-left, and-right}

-- ---- the table of all values

rows-at : (d : Description) (r : List RawItem) (a n j k : ℕ) → j < n → k < 14
    → get_or (flat_map (row d r) (range_with_len a n)) (14 * j + k) (pos 0) ≡ cell d r (pos (a + j)) (48 + k)
rows-at d r a zero j k h l = absurd (omega arith)
rows-at d r a (suc n) zero k h l =
    let first : length (row d r a) ≡ 14 =
    length-map-range_with_len (λ code. cell d r (pos a) code) ABS_MT_TOUCH_MAJOR 14 in
    let place : 14 * 0 + k ≡ k = omega arith in
    let inside : k < length (row d r a) = omega (arith, first) in
    rw (
      place,
      get_or_append_left,
      get_or-map-range_with_len (λ code. cell d r (pos a) code) ABS_MT_TOUCH_MAJOR 14 k (48 + k)
          (pos 0) l refl,
      add-zero,
    )
rows-at d r a (suc n) (suc j) k h l =
    let first : length (row d r a) ≡ 14 =
    length-map-range_with_len (λ code. cell d r (pos a) code) ABS_MT_TOUCH_MAJOR 14 in
    let place : 14 * suc j + k - 14 ≡ 14 * j + k = omega arith in
    let same : a + suc j ≡ a + 1 + j = omega arith in
    let beyond : 14 ≤ 14 * suc j + k = omega arith in
    rw (get_or-append_right _ _ 14 _ _ first beyond, place, same) (rows-at d r (a + 1) n j k (omega arith) l)

pub slot_code-bounds : (code : ℕ) → is_slot_code code ≡ true → (48 ≤ code) × (code ≤ 61)
slot_code-bounds code h = (
  leb-true ABS_MT_TOUCH_MAJOR code (and-left _ _ h),
  leb-true code ABS_MT_TOOL_Y (and-right (nat_le ABS_MT_TOUCH_MAJOR code) _ h),
)

-- a value of the table
pub rows-cell : (d : Description) (r : List RawItem) (slot code : ℕ) → slot < d.slots
    → is_slot_code code ≡ true
    → get_or (rows d r) (cell_index (pos slot) code) (pos 0) ≡ cell d r (pos slot) code
rows-cell d r slot code h is =
    let bounds = slot_code-bounds code is in
    let place : 48 + (code - 48) ≡ code = omega (arith, bounds.0) in
    rw (zero-add, place) at (rows-at d r 0 d.slots slot (code - 48) h (omega (arith, bounds.0, bounds.1)))

-- ---- a slot takes a value

has_slot-pos : (cells : List ℤ) (slots j : ℕ) → length cells ≡ 14 * slots
    → has_slot cells (pos j) ≡ nat_lt j slots
has_slot-pos cells slots j long = grind (arith, nat_tests)

same-pos : (j i : ℕ) → int_eq (pos j) (pos i) ≡ nat_eq j i
same-pos j i = grind (arith, nat_tests, Decides-int_eq)

other_index : (j i c m : ℕ) → 48 ≤ c → c ≤ 61 → 48 ≤ m → m ≤ 61 → (nat_eq c m && nat_eq j i) ≡ false
    → 14 * i + (m - 48) ≡ 14 * j + (c - 48) → ⊥
other_index j i c m lc hc lm hm h e = grind (arith, nat_tests)

pub get-with_cell : (cells : List ℤ) (slots : ℕ) (at : ℤ) (c : ℕ) (value : ℤ) (slot code : ℕ)
    → length cells ≡ 14 * slots → slot < slots → is_slot_code c ≡ true → is_slot_code code ≡ true
    → get_or (with_cell cells at c value) (cell_index (pos slot) code) (pos 0)
    ≡ (if nat_eq c code && int_eq at (pos slot) then value
    else get_or cells (cell_index (pos slot) code) (pos 0))
get-with_cell cells slots (negsuc j) c value slot code long within is_c is_code =
    rw (and_right (nat_eq c code) false refl)
get-with_cell cells slots (pos j) c value slot code long within is_c is_code =
    let bounds = slot_code-bounds code is_code in
    let c_bounds = slot_code-bounds c is_c in
    let index : ℕ = cell_index (pos slot) code in
    rw (has_slot-pos cells slots j long, same-pos) (elim (cases_lt j slots) [
      | inl below ↦ elim (cases_Bool (nat_eq c code && nat_eq j slot)) [
        | inl h ↦
            rw (
              lt-ltb j slots below,
              h,
              eqb-true c code (and-left _ _ h),
              eqb-true j slot (and-right (nat_eq c code) _ h),
            )
            (get_or-set_same cells index value (pos 0) (omega (arith, bounds.0, bounds.1)))
        | inr h ↦
            rw (lt-ltb j slots below, h)
            (get_or-set_other cells (cell_index (pos j) c) index value (pos 0)
            (λ e. other_index j slot c code c_bounds.0 c_bounds.1 bounds.0 bounds.1 h e))
      ]
      | inr above ↦ rw (le-ltb j slots above) (absent above)
    ])
  where
    absent : slots ≤ j
        → get_or cells (cell_index (pos slot) code) (pos 0)
        ≡ (if nat_eq c code && nat_eq j slot then value
        else get_or cells (cell_index (pos slot) code) (pos 0))
    absent above = grind (arith, nat_tests)

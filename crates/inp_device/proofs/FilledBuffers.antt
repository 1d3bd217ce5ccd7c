-- Filling a buffer from its front, one value after another.
use Rattle.std.proofs.Common.{◌≡◌, ℕ, zero, suc, ◌+◌, ◌*◌, ◌/◌, ◌%◌, ◌<◌, true, ℤ, pos, List, [], ◌∷◌, length}
use Rattle.std.proofs.Common.{map, drop, set, get_or, refl, sym, ◌∙◌, arith}
use Rattle.std.specs.List.{range_with_len, flat_map}
use Rattle.std.proofs.Math.Seq.{set-append_seam}
use Rattle.std.proofs.lemmas.List.{append_assoc, drop_more, ext_get_or, map-append}
use Rattle.std.proofs.lemmas.List.FromFn.{length-map-range_with_len, get_or-map-range_with_len}
use Rattle.std.proofs.lemmas.List.FromFn.{map-range_with_len_more}
use Rattle.std.proofs.lemmas.Bool.Decides.{nat_tests}
use Rattle.inp_model.specs.declared.multi_touch.TheConstants.{ABS_MT_TOUCH_MAJOR}
use Rattle.inp_model.specs.RawItem.{RawItem}
use Rattle.inp_model.specs.Description.{Description, is_slot_code}
use Rattle.inp_model.specs.State.{cell}
use Rattle.inp_model.specs.Reply.{written, column, row, rows}
use Rattle.inp_slots.specs.Slots.{SlotValues, SlotsStandFor, slot_value}
use Rattle.inp_model.proofs.Injection.{range-append}
use Rattle.inp_device.proofs.WordLists.{map-same}

-- the first places have these values, and nothing behind was touched
abbrev pub filled : (ℕ → ℤ) → ℕ → List ℤ → List ℤ
filled value n buffer = written (map value (range_with_len 0 n)) buffer

-- the next value is set just behind the filled places, so these are one more
pub fill_more : (value : ℕ → ℤ) (n : ℕ) (buffer : List ℤ) → n < length buffer
    → set (filled value n buffer) n (value n) ≡ filled value (n + 1) buffer
fill_more value n buffer h =
    let front = map value (range_with_len 0 n) in
    let long : length front ≡ n = length-map-range_with_len value 0 n in
    let more = map-range_with_len_more value 0 n n (omega arith) in
    let longer : length (map value (range_with_len 0 (n + 1))) ≡ n + 1 =
    length-map-range_with_len value 0 (n + 1) in
    rw (
      longer,
      more,
      append_assoc front (value n ∷ []) (drop (n + 1) buffer),
      ← set-append_seam front (get_or buffer n (pos 0)) (drop (n + 1) buffer) (value n),
      long,
      ← drop_more buffer n (pos 0) h,
      ← long,
    )

-- One value of each slot

-- the values that are kept of the slots, on one axis
abbrev pub kept_column : SlotValues → ℕ → ℕ → ℤ
kept_column s code slot = slot_value s slot code

-- there are as many places as slots, and the values kept of a slot are those of the raw events
pub column-kept : (d : Description) (r : List RawItem) (s : SlotValues) (count code : ℕ) (buffer : List ℤ)
    → SlotsStandFor d r s → count ≡ length s.slots → is_slot_code code ≡ true
    → filled (kept_column s code) count buffer ≡ written (column d r code) buffer
column-kept d r s count code buffer stands is good =
    rw (
      is,
      stands.count,
      map-same (pos 0) d.slots (kept_column s code) (λ slot. cell d r (pos slot) code)
          (λ slot within. stands.values slot code within good),
    )

-- All values of all slots

-- the slot and the code of a place
abbrev pub slot_at : ℕ → ℕ
slot_at k = k / 14

abbrev pub code_at : ℕ → ℕ
code_at k = ABS_MT_TOUCH_MAJOR + k % 14

abbrev pub kept_row : SlotValues → ℕ → ℤ
kept_row s k = slot_value s (slot_at k) (code_at k)

abbrev cell_at : Description → List RawItem → ℕ → ℤ
cell_at d r k = cell d r (pos (slot_at k)) (code_at k)

row-cells : (d : Description) (r : List RawItem) (q : ℕ)
    → row d r q ≡ map (cell_at d r) (range_with_len (14 * q) 14)
row-cells d r q =
    let one : ℕ → ℤ = λ code. cell d r (pos q) code in
    ext_get_or (pos 0) (row d r q) (map (cell_at d r) (range_with_len (14 * q) 14))
    (length-map-range_with_len one ABS_MT_TOUCH_MAJOR 14
    ∙ sym (length-map-range_with_len (cell_at d r) (14 * q) 14))
    (λ i l.
    let within : i < 14 = omega (arith, length-map-range_with_len one ABS_MT_TOUCH_MAJOR 14) in
    let slot : slot_at (14 * q + i) ≡ q = omega (arith, within) in
    let code : code_at (14 * q + i) ≡ ABS_MT_TOUCH_MAJOR + i = omega (arith, within) in
    rw (
      get_or-map-range_with_len one ABS_MT_TOUCH_MAJOR 14 i (ABS_MT_TOUCH_MAJOR + i) (pos 0) within refl,
      ← slot,
      ← code,
    )
    (sym (get_or-map-range_with_len (cell_at d r) (14 * q) 14 i (14 * q + i) (pos 0) within refl)))

rows-from : (d : Description) (r : List RawItem) (q n : ℕ)
    → flat_map (row d r) (range_with_len q n) ≡ map (cell_at d r) (range_with_len (14 * q) (14 * n))
rows-from d r q zero = refl
rows-from d r q (suc n) =
    let f = cell_at d r in
    let next : 14 * (q + 1) ≡ 14 * q + 14 = omega arith in
    let all : 14 + 14 * n ≡ 14 * suc n = omega arith in
    cc (
      row-cells d r q,
      rows-from d r (q + 1) n,
      next,
      map-append f (range_with_len (14 * q) 14) (range_with_len (14 * q + 14) (14 * n)),
      range-append (14 * q) 14 (14 * n),
      all,
    )

-- a place within the slots has a slot and a code of one
pub code_at-good : (k : ℕ) → is_slot_code (code_at k) ≡ true
code_at-good k = grind (arith, nat_tests)

-- there are 14 places for each slot, and the values kept of it are those of the raw events
pub rows-kept : (d : Description) (r : List RawItem) (s : SlotValues) (count : ℕ) (buffer : List ℤ)
    → SlotsStandFor d r s → count ≡ length s.slots
    → filled (kept_row s) (14 * count) buffer ≡ written (rows d r) buffer
rows-kept d r s count buffer stands is =
    rw (
      is,
      stands.count,
      map-same (pos 0) (14 * d.slots) (kept_row s) (cell_at d r)
          (λ k within. stands.values (slot_at k) (code_at k) (omega (arith, within)) (code_at-good k)),
      ← rows-from d r 0 d.slots,
    )

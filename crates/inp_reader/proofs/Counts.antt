-- How many synthesised events there are at most.
use Rattle.std.proofs.Common.{◌≡◌, ℕ, zero, suc, ◌+◌, ◌-◌, ◌*◌, ◌<◌, ◌≤◌, ℤ, Bool, true, false, cond, int_eq}
use Rattle.std.proofs.Common.{List, [], ◌∷◌, ◌++◌, length, map, refl, sym, ap, ◌∙◌, arith, length-append}
use Rattle.std.proofs.Common.{le_trans, mul-le-mul_left, pos, zero-add, not}
use Rattle.std.specs.List.{range_with_len, filter}
use Rattle.std.proofs.lemmas.List.{length-map}
use Rattle.std.proofs.lemmas.List.Elements.{filter-append}
use Rattle.std.proofs.lemmas.List.FromFn.{length-range_with_len}
use Rattle.std.proofs.lemmas.List.Sums.{length-filter, count_by-le-length}
use Rattle.inp_model.proofs.Injection.{range-append}
use Rattle.inp_model.specs.Event.{slot_event}
use Rattle.std.proofs.lemmas.Bool.{false_from_ne_true, cond_both, true_from_ne_false, true≢false}
use Rattle.inp_model.specs.declared.event.TheConstants.{EV_KEY, EV_SW, EV_LED, EV_ABS}
use Rattle.inp_model.specs.declared.event.Event.{Event}
use Rattle.inp_recon.specs.declared.view.View.{View}
use Rattle.inp_recon.specs.View.{IsSizedFor, view_after_events}
use Rattle.inp_recon.specs.Cells.{slot_count}
use Rattle.inp_recon.proofs.Sizes.{IsSizedFor-after_events}
use Rattle.inp_reader.specs.Synthesis.{where_below, with_report, to_slot, in_slots, bit_event, bit_changes}
use Rattle.inp_reader.specs.Synthesis.{bits_differ_at, value_at, differs_at, axis_event, axis_changes}
use Rattle.inp_reader.specs.Synthesis.{class_changes, is_replaced, lift, lifts, changes_in, is_changed}
use Rattle.inp_reader.specs.Synthesis.{cell_changes, slot_changes, synth}
use Rattle.inp_reader.specs.Laws.{AreOfOneDevice}
use Rattle.inp_reader.proofs.SynthesisedEvents.{report, where_below-more}
use Rattle.inp_reader.proofs.Classes.{tells_ints, slots-of, changes_in-places}
use Rattle.std.specs.Prelude.{slice_index_or}
use Rattle.inp_bits.specs.Bits.{bits_differ}
use Rattle.inp_model.specs.Description.{Description, supports}
use Rattle.inp_recon.specs.Synchronised.{has_axis}
use Rattle.inp_reader.specs.RoomyEvents.{code_total}
use Rattle.inp_reader.specs.Spare.{IsSpare}

-- ---- how many numbers pass a test

-- the numbers below a greater bound are those below the first, and more
where_below-add : (n more : ℕ) (test : ℕ → Bool)
    → where_below (n + more) test ≡ where_below n test ++ filter test (range_with_len n more)
where_below-add n more test = rw (range-append, filter-append, zero-add)

length-passing : (test : ℕ → Bool) (first n : ℕ) → length (filter test (range_with_len first n)) ≤ n
length-passing test first n =
    omega (
      arith,
      length-filter test (range_with_len first n),
      count_by-le-length test
          (range_with_len first n),
      length-range_with_len first n,
    )

-- so many more numbers
length-where_below_add : (n more : ℕ) (test : ℕ → Bool)
    → length (where_below (n + more) test) ≤ length (where_below n test) + more
length-where_below_add n more test =
    omega (
      arith,
      ap length (where_below-add n more test),
      length-append (where_below n test)
          (filter test (range_with_len n more)),
      length-passing test n more,
    )

length-where_below : (n : ℕ) (test : ℕ → Bool) → length (where_below n test) ≤ n
length-where_below n test = length-passing test 0 n

-- below a greater bound no fewer pass
pub length-where_below_least : (n m : ℕ) (test : ℕ → Bool) → n ≤ m
    → length (where_below n test) ≤ length (where_below m test)
length-where_below_least n m test le =
    let e : n + (m - n) ≡ m = omega (arith, le) in
    omega (
      arith,
      ap (λ (k : ℕ). length (where_below k test)) e,
      ap length
          (where_below-add n (m - n) test),
      length-append (where_below n test)
          (filter test (range_with_len n (m - n))),
    )

-- fewer pass a test that only those pass that pass another one
pub length-where_below_fewer : (n : ℕ) (a b : ℕ → Bool) → ((k : ℕ) → k < n → a k ≡ true → b k ≡ true)
    → length (where_below n a) ≤ length (where_below n b)
length-where_below_fewer zero a b h = omega arith
length-where_below_fewer (suc n) a b h =
    let e : suc n ≡ n + 1 = omega arith in
    omega (
      arith,
      ap (λ (k : ℕ). length (where_below k a)) e,
      ap (λ (k : ℕ). length (where_below k b)) e,
      ap length (where_below-more n a),
      ap length (where_below-more n b),
      length-append (where_below n a) (cond (a n) (n ∷ []) []),
      length-append (where_below n b) (cond (b n) (n ∷ []) []),
      last (a n) (b n) (h n (omega arith)),
      length-where_below_fewer n a b (λ k lt. h k (omega (arith, lt))),
    )
  where
    last : (x y : Bool) → (x ≡ true → y ≡ true) → length (cond x (n ∷ []) []) ≤ length (cond y (n ∷ []) [])
    last true true h = omega arith
    last true false h = absurd (let bad : false ≡ true = h refl in cc)
    last false y h = omega arith

-- ---- keys, LEDs, switches and axes

-- the changes of all classes, one class after the other
pub length-classes : (old new : View) → length (class_changes old new)
    ≡ length (bit_changes EV_KEY 768 old.keys new.keys) + length
    (bit_changes EV_LED 64 old.leds new.leds) + length
    (bit_changes EV_SW 64 old.switches new.switches) + length (axis_changes old.axes new.axes)
length-classes old new =
    let a = bit_changes EV_KEY 768 old.keys new.keys in
    let b = bit_changes EV_LED 64 old.leds new.leds in
    let c = bit_changes EV_SW 64 old.switches new.switches in
    let d = axis_changes old.axes new.axes in
    omega (arith, length-append (a ++ b ++ c) d, length-append (a ++ b) c, length-append a b)

length-bit_changes : (kind count : ℕ) (old new : List Bool) → length (bit_changes kind count old new) ≤ count
length-bit_changes kind count old new =
    omega (
      arith,
      length-map (where_below count (bits_differ_at old new)) (bit_event kind new),
      length-where_below count (bits_differ_at old new),
    )

-- where no number of a range passes, none is kept
filter_none : (p : ℕ → Bool) (a n : ℕ) → ((k : ℕ) → a ≤ k → k < a + n → p k ≡ false)
    → filter p (range_with_len a n) ≡ []
filter_none p a zero h = refl
filter_none p a (suc n) h =
    rw (h a (omega arith) (omega arith)) (filter_none p (a + 1) n (λ k l m. h k (omega arith) (omega arith)))

-- of a range of axes without its middle
length-axis_changes_by : (first same last : ℕ) (old new : List ℤ)
    → ((k : ℕ) → first ≤ k → k < first + same → differs_at old new k ≡ false)
    → length
    (map (λ code. axis_event new code code) (where_below (first + same + last) (differs_at old new)))
    ≤ first + last
length-axis_changes_by first same last old new h =
    let test : ℕ → Bool = differs_at old new in
    omega (
      arith,
      length-map (where_below (first + same + last) test) (λ code. axis_event new code code),
      length-where_below_add (first + same) last test,
      ap length (where_below-add first same test),
      length-append (where_below first test) (filter test (range_with_len first same)),
      ap length (filter_none test first same h),
      length-where_below first test,
    )

length-axis_changes : (old new : List ℤ)
    → ((code : ℕ) → 47 ≤ code → code ≤ 61 → value_at old code ≡ value_at new code)
    → length (axis_changes old new) ≤ 49
length-axis_changes old new h =
    length-axis_changes_by 47 15 2 old new
    (λ k l m. false_from_ne_true (differs_at old new k)
    (λ t. tells_ints.apart (value_at old k) (value_at new k) t (h k l (omega (arith, m)))))

-- ---- slots

length-to_slot : (from to : ℤ) → length (to_slot from to) ≤ 1
length-to_slot from to =
    cond_both (int_eq from to) [] (slot_event to ∷ []) (λ (es : List Event). length es ≤ 1) (λ _. omega arith)
    (λ _. omega arith)

length-in_slots : (most : ℕ) (f : ℕ → List Event) (slots : List ℕ) (current : ℤ)
    → ((k : ℕ) → length (f k) ≤ most) → length (in_slots f slots current) ≤ (most + 1) * length slots
length-in_slots most f [] current h = omega arith
length-in_slots most f (slot ∷ slots) current h =
    omega (
      arith,
      length-append (to_slot current (pos slot) ++ f slot) (in_slots f slots (pos slot)),
      length-append (to_slot current (pos slot)) (f slot),
      length-to_slot current (pos slot),
      h slot,
      length-in_slots most f slots (pos slot) h,
    )

length-walk : (slots most : ℕ) (f : ℕ → List Event) (test : ℕ → Bool) (cells : List ℤ) (current : ℤ)
    → length cells ≡ 14 * slots → ((k : ℕ) → length (f k) ≤ most)
    → length (in_slots f (where_below (slot_count cells) test) current) ≤ (most + 1) * slots
length-walk slots most f test cells current l h =
    le_trans (length-in_slots most f (where_below (slot_count cells) test) current h) (
    mul-le-mul_left (most + 1)
    (omega (arith, slots-of slots cells l, length-where_below (slot_count cells) test))
    )

length-lifts : (slots : ℕ) (old new : View) → length old.cells ≡ 14 * slots
    → length (lifts old new) ≤ 2 * slots
length-lifts slots old new l =
    length-walk slots 1 (λ slot. lift ∷ []) (is_replaced old new) old.cells old.slot l (λ k. omega arith)

length-changes_in : (old new : View) (slot : ℕ) → length (changes_in old new slot) ≤ 14
length-changes_in old new slot =
    let test : ℕ → Bool = λ k. differs_at old.cells new.cells (14 * slot + k) in
    omega (
      arith,
      ap length (changes_in-places old new slot),
      length-map (where_below 14 test) (λ k. axis_event new.cells (14 * slot + k) (48 + k)),
      length-where_below 14 test,
    )

length-cell_changes : (slots : ℕ) (old new : View) → length old.cells ≡ 14 * slots
    → length (cell_changes old new) ≤ 15 * slots
length-cell_changes slots old new l =
    length-walk slots 14 (changes_in old new) (is_changed old new) old.cells old.slot l
    (λ k. length-changes_in old new k)

length-slot_changes : (slots : ℕ) (old new : View) → length old.cells ≡ 14 * slots
    → length (slot_changes old new) ≤ 15 * slots + 1
length-slot_changes slots old new l =
    let events : List Event = cell_changes old new in
    let slot : ℤ = (view_after_events old events).slot in
    omega (
      arith,
      length-append events (to_slot slot new.slot),
      length-cell_changes slots old new l,
      length-to_slot slot new.slot,
    )

-- ---- all of them

length-with_report_most : (es : List Event) → length (with_report es) ≤ length es + 1
length-with_report_most [] = omega arith
length-with_report_most (e ∷ es) = omega (arith, length-append (e ∷ es) (report ∷ []))

-- where so many axes change
length-class_changes : (most : ℕ) (old new : View) → length (axis_changes old.axes new.axes) ≤ most
    → length (class_changes old new) ≤ 896 + most
length-class_changes most old new few =
    omega (
      arith,
      length-classes old new,
      length-bit_changes EV_KEY 768 old.keys new.keys,
      length-bit_changes EV_LED 64 old.leds new.leds,
      length-bit_changes EV_SW 64 old.switches new.switches,
      few,
    )

length-groups : (slots most : ℕ) (first classes cells : List Event) → length first ≤ 2 * slots
    → length classes ≤ most → length cells ≤ 15 * slots + 1
    → length (with_report first ++ with_report (classes ++ cells)) ≤ most + 3 + 17 * slots
length-groups slots most first classes cells h l m =
    omega (
      arith,
      length-append (with_report first) (with_report (classes ++ cells)),
      length-with_report_most first,
      length-with_report_most (classes ++ cells),
      length-append classes cells,
      h,
      l,
      m,
    )

-- one for each of 945 codes at most, 17 for each slot, one for the current slot, and two reports
pub length-synth : (slots : ℕ) (old new : View) → AreOfOneDevice slots old new
    → length (synth old new) ≤ 948 + 17 * slots
unfolding synth
length-synth slots old new h =
    let mid : View = view_after_events old (lifts old new) in
    let sized : IsSizedFor slots mid = IsSizedFor-after_events slots old (lifts old new) h.old_sized in
    length-groups slots 945 (lifts old new) (class_changes old new) (slot_changes mid new)
    (length-lifts slots old new h.old_sized.cells)
    (length-class_changes 49 old new (length-axis_changes old.axes new.axes h.axes))
    (length-slot_changes slots mid new sized.cells)

-- the same where nothing is known of the axes whose values belong to slots
pub length-synth_sized : (slots : ℕ) (old new : View) → IsSizedFor slots old
    → length (synth old new) ≤ 963 + 17 * slots
unfolding synth
length-synth_sized slots old new h =
    let mid : View = view_after_events old (lifts old new) in
    let sized : IsSizedFor slots mid = IsSizedFor-after_events slots old (lifts old new) h in
    length-groups slots 960 (lifts old new) (class_changes old new) (slot_changes mid new)
    (length-lifts slots old new h.cells)
    (length-class_changes 64 old new
    (omega (
      arith,
      length-map (where_below 64 (differs_at old.axes new.axes))
          (λ code. axis_event new.axes code code),
      length-where_below 64 (differs_at old.axes new.axes),
    )))
    (length-slot_changes slots mid new sized.cells)

-- ---- of a device, as many as it has codes

-- of a type no more codes change than the device has
bits_few : (d : Description) (kind count : ℕ) (old new : List Bool)
    → ((code : ℕ) → supports d kind code ≡ false → slice_index_or old code false ≡ false)
    → ((code : ℕ) → supports d kind code ≡ false → slice_index_or new code false ≡ false)
    → length (bit_changes kind count old new) ≤ code_total d kind count
bits_few d kind count old new off_old off_new =
    omega (
      arith,
      length-map (where_below count (bits_differ_at old new)) (bit_event kind new),
      length-where_below_fewer count (bits_differ_at old new) (supports d kind) had,
    )
  where
    had : (k : ℕ) → k < count → bits_differ_at old new k ≡ true → supports d kind k ≡ true
    had k lt differ =
        true_from_ne_false (supports d kind k)
        (λ is. true≢false (sym differ ∙ (λ i. bits_differ (off_old k is i) (off_new k is i))))

axes_few : (d : Description) (old new : View) → IsSpare d old → IsSpare d new
    → length (axis_changes old.axes new.axes) ≤ code_total d EV_ABS 64
axes_few d old new a b =
    omega (
      arith,
      length-map (where_below 64 (differs_at old.axes new.axes))
          (λ code. axis_event new.axes code code),
      length-where_below_fewer 64 (differs_at old.axes new.axes) (supports d EV_ABS) had,
    )
  where
    had : (k : ℕ) → k < 64 → differs_at old.axes new.axes k ≡ true → supports d EV_ABS k ≡ true
    had k lt differ = true_from_ne_false (supports d EV_ABS k) (λ is.
        let none : has_axis d k ≡ false = rw is in
        true≢false (sym differ ∙ (λ i. not (int_eq (a.axes k none i) (b.axes k none i)))))

-- of all types
pub classes_few : (d : Description) (old new : View) → IsSpare d old → IsSpare d new
    → length (class_changes old new)
    ≤ code_total d EV_KEY 768 + code_total d EV_LED 64 + code_total d EV_SW 64 + code_total d EV_ABS 64
classes_few d old new a b =
    omega (
      arith,
      length-classes old new,
      bits_few d EV_KEY 768 old.keys new.keys a.key_codes b.key_codes,
      bits_few d EV_LED 64 old.leds new.leds a.led_codes b.led_codes,
      bits_few d EV_SW 64 old.switches new.switches a.switch_codes b.switch_codes,
      axes_few d old new a b,
    )

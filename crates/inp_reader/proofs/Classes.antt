-- The synthesised events of keys, LEDs, switches, axes and slots lead from one view to another, and each
-- changes the view.
use Rattle.std.proofs.Common.{◌≡◌, ℕ, ◌<◌, ◌≤◌, ℤ, pos, Bool, true, false, not, leb, eqb, int_eq, List, ◌++◌}
use Rattle.std.proofs.Common.{length, map, get_or, set, refl, sym, ap, ◌∙◌, arith, inl, inr, zero, suc, ◌+◌}
use Rattle.std.proofs.Common.{◌*◌, negsuc, int_lt, cond, ◌&&◌, [], ◌∷◌, take, drop, add-one, length-append}
use Rattle.std.proofs.Common.{length-drop}
use Rattle.std.proofs.lemmas.Bool.{lt-ltb, lt-leb, ne_eqb, not_from_false, and_left, and_right, not-true}
use Rattle.std.proofs.lemmas.Bool.{not-false, cases_lt, false≢true, and_from, le-ltb, or_parts, true≢false}
use Rattle.std.proofs.lemmas.Bool.{cases_Bool}
use Rattle.std.proofs.lemmas.Bool.Decides.{Decides-int_eq, not_from_Decides}
use Rattle.inp_bits.specs.Bits.{bits_differ}
use Rattle.inp_model.specs.declared.event.TheConstants.{EV_KEY, EV_ABS, EV_SW, EV_LED}
use Rattle.inp_model.specs.declared.event.Event.{Event}
use Rattle.inp_model.specs.Description.{is_multi_touch_code, is_slot_code}
use Rattle.inp_recon.specs.declared.view.View.{View}
use Rattle.inp_recon.specs.View.{view_after_event, view_after_events, with_value_at, keys_after_event}
use Rattle.inp_recon.specs.View.{axes_after_event, slot_after_event, cells_after_event}
use Rattle.inp_reader.specs.Synthesis.{where_below, bit_value, bit_event, bit_changes, bits_differ_at}
use Rattle.inp_reader.specs.Synthesis.{value_at, differs_at, axis_event, class_changes, to_slot, in_slots}
use Rattle.inp_reader.specs.Synthesis.{cell_event, cells_differ, tracking_id, is_replaced, lift, lifts}
use Rattle.inp_reader.specs.Synthesis.{changes_in, is_changed, cell_changes}
use Rattle.inp_reader.specs.Laws.{EachChanges, AreOfOneDevice}
use Rattle.inp_recon.proofs.Each.{Each}
use Rattle.inp_reader.proofs.Puts.{Each-where_below, Tells, mixed-all, puts-below, EachPutChanges-below}
use Rattle.inp_reader.proofs.Puts.{differ_at, SetsPart, leads-puts, EachChanges-puts, leads-behind}
use Rattle.inp_reader.proofs.Puts.{EachChanges-behind, mixed}
use Rattle.std.specs.List.{range_with_len, filter, list_any}
use Rattle.std.proofs.lemmas.List.{length-set, length-take-le, get_or-set_same, get_or-set_other}
use Rattle.inp_model.specs.Event.{slot_event}
use Rattle.inp_recon.specs.Cells.{slot_count, cell_index, cell_of, has_slot}
use Rattle.inp_reader.proofs.SynthesisedEvents.{where_below-skip, where_below-next, in_slots-more, last_slot}
use Rattle.inp_reader.proofs.SynthesisedEvents.{last_slot-more, map-filter_from, any-from}
use Rattle.inp_reader.proofs.UnsetSlotAxes.{multi_touch}
use Rattle.inp_recon.proofs.FaithfulReads.{slot_code}

-- ---- the tests tell whether two values differ

differ-same : (x y : Bool) → bits_differ x y ≡ false → x ≡ y
differ-same true y h = sym (not-false y h)
differ-same false y h = sym h

differ-apart : (x y : Bool) → bits_differ x y ≡ true → x ≡ y → ⊥
differ-apart true y h e = false≢true (sym (not-true y h) ∙ sym e)
differ-apart false y h e = false≢true (e ∙ h)

tells_bits : Tells bits_differ
tells_bits = record { same = differ-same; apart = differ-apart }

abbrev pub ints_differ : ℤ → ℤ → Bool
ints_differ x y = not (int_eq x y)

-- whether two numbers are the same is decided, so the test is right both ways
pub tells_ints : Tells ints_differ
tells_ints = record {
  same = λ x y h. (Decides-int_eq x y).0 (not-false (int_eq x y) h);
  apart = λ x y h. not_from_Decides (int_eq x y) (Decides-int_eq x y) (not-true (int_eq x y) h);
}

-- ---- one part of a view after the events of the indices at which it differs

pub record LeadsTheView (v w : View) (es : List Event) : Type 0 where
  -- the events take the one view to the other
  pub to : view_after_events v es ≡ w
  -- and each of them but a report changes the view that it is taken into
  pub changes : EachChanges v es

part-changes : {X : Type 0} (d : X) (new old : List X) (event : ℕ → Event) (count : ℕ) (P : ℕ → Type 0)
    (with_part : List X → View) (differ : X → X → Bool) → Tells differ
    → SetsPart d new (λ k. k) event count P with_part
    → Each P (where_below count (differ_at d differ old new (λ k. k))) → length old ≡ count
    → length new ≡ count
    → LeadsTheView (with_part old) (with_part new)
    (map event (where_below count (differ_at d differ old new (λ k. k))))
part-changes d new old event count P with_part differ tells sets each l m =
    let ks : List ℕ = where_below count (differ_at d differ old new (λ k. k)) in
    let within : (k : ℕ) → k < count → k < length new = λ k h. omega (arith, h, m) in
    record {
      to =
          leads-puts sets ks old each l
          ∙ ap with_part (puts-below d new old (λ k. k) differ tells count (λ k. refl) within (l ∙ sym m)
          ∙ mixed-all count new old (omega (arith, m)) (omega (arith, l)));
      changes =
          EachChanges-puts sets ks old each l
          (EachPutChanges-below d new old (λ k. k) differ tells count (λ k. refl) within (l ∙ sym m));
    }

-- one group behind another
pub LeadsTheView-behind : {u v w : View} {es later : List Event} → LeadsTheView u v es
    → LeadsTheView v w later → LeadsTheView u w (es ++ later)
LeadsTheView-behind {u} {v} {w} {es} {later} h m =
    record {
      to = leads-behind u v es later h.to ∙ m.to;
      changes = EachChanges-behind u v es later h.to h.changes m.changes;
    }

-- ---- keys, LEDs and switches

-- the events of one kind set flags of the view, each its own, and nothing else
leads-flags : (kind count : ℕ) (old new : List Bool) (flags_of : View → List Bool)
    (with_flags : List Bool → View) → ((xs : List Bool) → flags_of (with_flags xs) ≡ xs)
    → ((b : Bool) (xs : List Bool) (k : ℕ) → k < count
    → view_after_event (with_flags xs) (record { kind = kind; code = k; value = bit_value b })
    ≡ with_flags (set xs k b))
    → length old ≡ count → length new ≡ count
    → LeadsTheView (with_flags old) (with_flags new) (bit_changes kind count old new)
leads-flags kind count old new flags_of with_flags part sets l m =
    part-changes false new old (bit_event kind new) count (λ k. k < count) with_flags bits_differ tells_bits
    (record { part_of = flags_of; part = part; sets = λ k xs h long. sets (get_or new k false) xs k h })
    (Each-where_below (λ k. k < count) count (bits_differ_at old new) (λ k h t. h)) l m

flag-set : (count : ℕ) (b : Bool) (xs : List Bool) (k : ℕ) → k < count
    → with_value_at count xs k (not (int_eq (bit_value b) (pos 0))) ≡ set xs k b
flag-set count true xs k h = rw lt-ltb
flag-set count false xs k h = rw lt-ltb

key-set : (b : Bool) (keys : List Bool) (k : ℕ) → k < 768
    → keys_after_event keys (record { kind = EV_KEY; code = k; value = bit_value b }) ≡ set keys k b
key-set true keys k h = flag-set 768 true keys k h
key-set false keys k h = flag-set 768 false keys k h

-- ---- axes

-- an axis with a value of its own
record IsPlain (code : ℕ) : Type 0 where
  within : code < 64
  not_multi_touch : is_multi_touch_code code ≡ false
  not_slot : eqb code 47 ≡ false
  no_slot_value : is_slot_code code ≡ false

IsPlain-below : (code : ℕ) → code < 47 → IsPlain code
IsPlain-below code h = record {
  within = omega (arith, h);
  not_multi_touch = and_left (leb 47 code) (leb code 61) (lt-leb 47 code h);
  not_slot = ne_eqb code 47 (λ e. omega (arith, h, e));
  no_slot_value = and_left (leb 48 code) (leb code 61) (lt-leb 48 code (omega (arith, h)));
}

IsPlain-above : (code : ℕ) → 61 < code → code < 64 → IsPlain code
IsPlain-above code h within = record {
  within = within;
  not_multi_touch = and_right (leb 47 code) (leb code 61) (lt-leb code 61 h);
  not_slot = ne_eqb code 47 (λ e. omega (arith, h, e));
  no_slot_value = and_right (leb 48 code) (leb code 61) (lt-leb code 61 h);
}

axes-set : (axes : List ℤ) (k : ℕ) (x : ℤ) → IsPlain k
    → axes_after_event axes (record { kind = EV_ABS; code = k; value = x }) ≡ set axes k x
axes-set axes k x h = rw (not_from_false (is_multi_touch_code k) h.not_multi_touch, lt-ltb k 64 h.within)

slot-stays : (slot : ℤ) (k : ℕ) (x : ℤ) → IsPlain k
    → slot_after_event slot (record { kind = EV_ABS; code = k; value = x }) ≡ slot
slot-stays slot k x h = rw h.not_slot

cells-stay : (cells : List ℤ) (slot : ℤ) (k : ℕ) (x : ℤ) → IsPlain k
    → cells_after_event cells slot (record { kind = EV_ABS; code = k; value = x }) ≡ cells
cells-stay cells slot k x h = rw h.no_slot_value

axes-alone : (v : View) (a b : List ℤ) (s : ℤ) (c : List ℤ) → a ≡ b → s ≡ v.slot → c ≡ v.cells
    → record v { axes = a; slot = s; cells = c } ≡ record v { axes = b }
axes-alone v a b s c ea es ec = rw (ea, es, ec)

sets-axes : (v : View) (new : List ℤ) (count : ℕ)
    → SetsPart (pos 0) new (λ k. k) (λ k. axis_event new k k) count IsPlain (λ xs. record v { axes = xs })
unfolding view_after_event
sets-axes v new count = record {
  part_of = λ w. w.axes;
  part = λ xs. refl;
  sets = λ k xs h l. let x : ℤ =
      get_or new k (pos 0) in
      axes-alone v _ (set xs k x) _ _ (axes-set xs k x h) (slot-stays v.slot k x h)
      (cells-stay v.cells v.slot k x h);
}

-- the axes that differ are plain ones
differing-plain : (old new : List ℤ)
    → ((code : ℕ) → 47 ≤ code → code ≤ 61 → value_at old code ≡ value_at new code) → (k : ℕ) → k < 64
    → differs_at old new k ≡ true → IsPlain k
differing-plain old new same k h t =
    elim (cases_lt k 47) [
      | inl below ↦ IsPlain-below k below
      | inr from ↦ elim (cases_lt 61 k) [
        | inl above ↦ IsPlain-above k above h
        | inr to ↦ absurd (tells_ints.apart (value_at old k) (value_at new k) t (same k from to))
      ]
    ]

leads-axes : (v : View) (old new : List ℤ) (count : ℕ) → count ≤ 64
    → ((code : ℕ) → 47 ≤ code → code ≤ 61 → value_at old code ≡ value_at new code) → length old ≡ count
    → length new ≡ count
    → LeadsTheView (record v { axes = old }) (record v { axes = new })
    (map (λ code. axis_event new code code) (where_below count (differs_at old new)))
leads-axes v old new count few same l m =
    part-changes (pos 0) new old (λ k. axis_event new k k) count IsPlain
    (λ xs. record v { axes = xs }) ints_differ tells_ints (sets-axes v new count) (
    Each-where_below IsPlain count (differs_at old new)
    (λ k h t. differing-plain old new same k (omega (arith, h, few)) t)
    ) l m

-- ---- all classes

-- keys, LEDs, switches and axes one after another: the events of each set their own part alone
pub leads-classes : (slots : ℕ) (old new : View) (slot : ℤ) (cells : List ℤ) → AreOfOneDevice slots old new
    → LeadsTheView (record old { slot = slot; cells = cells }) (record new { slot = slot; cells = cells })
    (class_changes old new)
unfolding view_after_event
leads-classes slots old new slot cells h =
    let v0 : View = record old { slot = slot; cells = cells } in
    let v1 : View = record v0 { keys = new.keys } in
    let v2 : View = record v1 { leds = new.leds } in
    let v3 : View = record v2 { switches = new.switches } in
    let keys : LeadsTheView v0 v1 (bit_changes EV_KEY 768 old.keys new.keys) =
    leads-flags EV_KEY 768 old.keys new.keys (λ w. w.keys) (λ xs. record v0 { keys = xs }) (λ xs. refl)
    (λ b xs k lt. ap (λ (ks : List Bool). record v0 { keys = ks })
    (key-set b xs k lt)) h.old_sized.keys h.new_sized.keys in
    let leds : LeadsTheView v1 v2 (bit_changes EV_LED 64 old.leds new.leds) =
    leads-flags EV_LED 64 old.leds new.leds (λ w. w.leds) (λ xs. record v1 { leds = xs }) (λ xs. refl)
    (λ b xs k lt. ap (λ (bits : List Bool). record v1 { leds = bits })
    (flag-set 64 b xs k lt)) h.old_sized.leds h.new_sized.leds in
    let switches : LeadsTheView v2 v3 (bit_changes EV_SW 64 old.switches new.switches) =
    leads-flags EV_SW 64 old.switches new.switches (λ w. w.switches) (λ xs. record v2 { switches = xs })
    (λ xs. refl)
    (λ b xs k lt. ap (λ (bits : List Bool). record v2 { switches = bits })
    (flag-set 64 b xs k lt)) h.old_sized.switches h.new_sized.switches in
    let axes = leads-axes v3 old.axes new.axes 64 (omega arith) h.axes h.old_sized.axes h.new_sized.axes in
    LeadsTheView-behind
    (LeadsTheView-behind (LeadsTheView-behind keys leds) switches) axes

-- a view with this current slot and these values
abbrev pub with_slots : View → ℤ → List ℤ → View
with_slots v slot cells = record v { slot = slot; cells = cells }

-- ---- an event that makes a slot the current one

after-slot_event : (v : View) (z : ℤ) → view_after_event v (slot_event z) ≡ record v { slot = z }
unfolding view_after_event
after-slot_event v z = refl

LeadsTheView-to_slot_by : (v : View) (cells : List ℤ) (from to : ℤ) (same : Bool) → int_eq from to ≡ same
    → LeadsTheView (with_slots v from cells) (with_slots v to cells) (cond same [] (slot_event to ∷ []))
unfolding view_after_events
LeadsTheView-to_slot_by v cells from to true h =
    record { to = rw ((Decides-int_eq from to).0 h); changes = tt }
LeadsTheView-to_slot_by v cells from to false h = record {
  to = after-slot_event (with_slots v from cells) to;
  changes = (
    λ plain same. not_from_Decides (int_eq from to) (Decides-int_eq from to) h
        (sym (ap (λ (w : View). w.slot) (sym (after-slot_event (with_slots v from cells) to) ∙ same))),
    tt,
  );
}

-- an event sets the current slot; where it is the current one already, there is no event
pub LeadsTheView-to_slot : (v : View) (cells : List ℤ) (from to : ℤ)
    → LeadsTheView (with_slots v from cells) (with_slots v to cells) (to_slot from to)
LeadsTheView-to_slot v cells from to = LeadsTheView-to_slot_by v cells from to (int_eq from to) refl

-- ---- an event on a value of a slot

-- a value of a slot that there is
record IsCell (slots slot k : ℕ) : Type 0 where
  there : slot < slots
  within : k < 14

-- how many slots these values are of
pub slots-of : (slots : ℕ) (cells : List ℤ) → length cells ≡ 14 * slots → slot_count cells ≡ slots
slots-of slots cells h = omega (arith, h)

axes-kept : (axes : List ℤ) (k : ℕ) (x : ℤ) → k < 14
    → axes_after_event axes (record { kind = EV_ABS; code = 48 + k; value = x }) ≡ axes
axes-kept axes k x h = let touch = multi_touch (48 + k) (omega arith) (omega (arith, h)) in rw touch

slot-kept : (slot : ℤ) (k : ℕ) (x : ℤ)
    → slot_after_event slot (record { kind = EV_ABS; code = 48 + k; value = x }) ≡ slot
slot-kept slot k x = rw (ne_eqb (48 + k) 47 (λ e. omega (arith, e)))

cell_place : (slot k : ℕ) → cell_index (pos slot) (48 + k) ≡ 14 * slot + k
cell_place slot k = omega arith

has_slot-below : (slots : ℕ) (cells : List ℤ) (slot : ℕ) → slot < slots → length cells ≡ 14 * slots
    → has_slot cells (pos slot) ≡ true
has_slot-below slots cells slot h l =
    and_from (not (int_lt (pos slot) (pos 0))) (int_lt (pos slot) (pos (slot_count cells)))
    (not_from_false (int_lt (pos slot) (pos 0)) (le-ltb slot 0 (omega arith)))
    (lt-ltb slot (slot_count cells) (omega (arith, h, slots-of slots cells l)))

cell-set : (slots : ℕ) (cells : List ℤ) (slot k : ℕ) (x : ℤ) → IsCell slots slot k → length cells ≡ 14 * slots
    → cells_after_event cells (pos slot) (record { kind = EV_ABS; code = 48 + k; value = x })
    ≡ set cells (14 * slot + k) x
cell-set slots cells slot k x h l =
    rw (slot_code k h.within, has_slot-below slots cells slot h.there l, cell_place slot k)

cells-alone : (v : View) (a : List ℤ) (s : ℤ) (b c : List ℤ) (slot : ℤ) → a ≡ v.axes → s ≡ slot → b ≡ c
    → record v { axes = a; slot = s; cells = b } ≡ with_slots v slot c
cells-alone v a s b c slot ea es ec = rw (ea, es, ec)

after-cell_event : (slots : ℕ) (v : View) (cells : List ℤ) (slot k : ℕ) (x : ℤ) → IsCell slots slot k
    → length cells ≡ 14 * slots
    → view_after_event (with_slots v (pos slot) cells) (record { kind = EV_ABS; code = 48 + k; value = x })
    ≡ with_slots v (pos slot) (set cells (14 * slot + k) x)
unfolding view_after_event
after-cell_event slots v cells slot k x h l =
    cells-alone v _ _ _ _ (pos slot) (axes-kept v.axes k x h.within) (slot-kept (pos slot) k x)
    (cell-set slots cells slot k x h l)

-- ---- a walk over slots, from one list of values to the next

module _ (v : View) (f : ℕ → List Event) (test : ℕ → Bool) (cells : ℕ → List ℤ) where
  -- the events of the slots below n that pass the test lead from the first values to those at n
  abbrev IsWalkedTo : ℤ → ℕ → Type 0
  IsWalkedTo start n =
      LeadsTheView (with_slots v start (cells 0))
      (with_slots v (last_slot (where_below n test) start) (cells n)) (in_slots f (where_below n test) start)

  walk-more : (n : ℕ) (start : ℤ) (b : Bool) → test n ≡ b → IsWalkedTo start n
      → (test n ≡ true
      → LeadsTheView (with_slots v (pos n) (cells n)) (with_slots v (pos n) (cells (n + 1))) (f n))
      → (test n ≡ false → cells n ≡ cells (n + 1)) → IsWalkedTo start (n + 1)
  walk-more n start true t before acts skips =
      let slots : List ℕ = where_below n test in
      rw (where_below-next test n t)
      (rw (in_slots-more f slots n start)
      (rw (last_slot-more slots n start)
      (LeadsTheView-behind before
      (LeadsTheView-behind (LeadsTheView-to_slot v (cells n) (last_slot slots start) (pos n)) (acts t)))))
  walk-more n start false t before acts skips = rw (where_below-skip test n t, ← skips t) before

  pub LeadsTheView-walk : (n : ℕ) (start : ℤ)
      → ((k : ℕ) → k < n → test k ≡ true
      → LeadsTheView (with_slots v (pos k) (cells k)) (with_slots v (pos k) (cells (k + 1))) (f k))
      → ((k : ℕ) → k < n → test k ≡ false → cells k ≡ cells (k + 1)) → IsWalkedTo start n
  unfolding view_after_events
  LeadsTheView-walk zero start acts skips = record { to = refl; changes = tt }
  LeadsTheView-walk (suc n) start acts skips =
      let before =
      LeadsTheView-walk n start (λ k h. acts k (omega (arith, h))) (λ k h. skips k (omega (arith, h))) in
      rw (add-one n) at (walk-more n start (test n) refl before (acts n (omega arith))
      (skips n (omega arith)))

-- ---- the values that differ

length-mixed : (slots n : ℕ) (new old : List ℤ) → n ≤ 14 * slots → length old ≡ 14 * slots
    → length new ≡ 14 * slots → length (mixed n new old) ≡ 14 * slots
length-mixed slots n new old h l m =
    omega (
      arith,
      h,
      l,
      m,
      length-append (take n new) (drop n old),
      length-take-le n new (omega (arith, h, m)),
      length-drop n old,
    )

-- where no value of a slot differs there is nothing to set
filter-none : (test : ℕ → Bool) (ks : List ℕ) → list_any test ks ≡ false → filter test ks ≡ []
filter-none test [] h = refl
filter-none test (k ∷ ks) h = let both =
    or_parts (test k) (list_any test ks) h in rw both.0 (filter-none test ks both.1)

-- The values of a slot, from its first up to one behind, of lists that hold the values of so many slots.
module _ (slots slot count : ℕ) (new old : List ℤ) (h : slot < slots) (few : count ≤ 14)
    (l : length old ≡ 14 * slots) (m : length new ≡ 14 * slots) (first last : ℕ) (e : first ≡ 14 * slot + 0)
    (f : last ≡ 14 * slot + count) where
  step : (k : ℕ) → 14 * slot + (k + 1) ≡ 14 * slot + k + 1
  step k = omega arith

  within : (k : ℕ) → k < count → 14 * slot + k < length new
  within k j = omega (arith, h, few, m, j)

  sets-cells : (v : View)
      → SetsPart (pos 0) new (λ k. 14 * slot + k) (λ k. axis_event new (14 * slot + k) (48 + k)) (14 * slots)
      (λ k. k < count) (with_slots v (pos slot))
  sets-cells v = record {
    part_of = λ w. w.cells;
    part = λ xs. refl;
    sets = λ k xs below long. after-cell_event slots v xs slot k (get_or new (14 * slot + k) (pos 0))
        (record { there = h; within = omega (arith, below, few) }) long;
  }

  -- those that differ are set
  LeadsTheView-slot : (v : View)
      → LeadsTheView (with_slots v (pos slot) (mixed first new old))
      (with_slots v (pos slot) (mixed last new old))
      (map (λ k. axis_event new (14 * slot + k) (48 + k))
      (where_below count (λ k. differs_at old new (14 * slot + k))))
  LeadsTheView-slot v =
      let test : ℕ → Bool = λ k. differs_at old new (14 * slot + k) in
      let ks : List ℕ = where_below count test in
      let each : Each (λ k. k < count) ks = Each-where_below (λ k. k < count) count test (λ k j t. j) in
      let start : List ℤ = mixed (14 * slot + 0) new old in
      let long : length start ≡ 14 * slots =
      length-mixed slots (14 * slot + 0) new old (omega (arith, h)) l m in
      rw (e, f) (record {
        to =
            rw (
              leads-puts (sets-cells v) ks start each long,
              puts-below (pos 0) new old
                  (λ k. 14 * slot + k) ints_differ tells_ints count step within (l ∙ sym m),
            );
        changes =
            EachChanges-puts (sets-cells v) ks start each long
            (EachPutChanges-below (pos 0) new old
            (λ k. 14 * slot + k) ints_differ tells_ints count step within (l ∙ sym m));
      })

  -- where none differs there is nothing to set
  unchanged : list_any (λ k. differs_at old new (14 * slot + k)) (range_with_len 0 count) ≡ false
      → mixed first new old ≡ mixed last new old
  unchanged none =
      rw (e, f)
      (rw (filter-none (λ k. differs_at old new (14 * slot + k)) (range_with_len 0 count) none) at (puts-below
      (pos 0) new old (λ k. 14 * slot + k) ints_differ tells_ints count step within (l ∙ sym m)))

-- what differs in a slot, by the places of its values
cell_of-place : (cells : List ℤ) (slot k : ℕ)
    → cell_of cells slot (48 + k) ≡ get_or cells (14 * slot + k) (pos 0)
cell_of-place cells slot k = rw cell_place

differ-place : (old new : List ℤ) (slot k : ℕ)
    → cells_differ old new slot (48 + k) ≡ differs_at old new (14 * slot + k)
differ-place old new slot k = rw (cell_of-place, cell_of-place)

-- a slot's value on axis 48 + k is kept at place 14 * slot + k, so the same values differ
pub changes_in-places : (old new : View) (slot : ℕ)
    → changes_in old new slot ≡ map (λ k. axis_event new.cells (14 * slot + k) (48 + k))
    (where_below 14 (λ k. differs_at old.cells new.cells (14 * slot + k)))
changes_in-places old new slot =
    map-filter_from (cell_event new.cells slot) (λ k. axis_event new.cells (14 * slot + k) (48 + k))
    (cells_differ old.cells new.cells slot) (λ k. differs_at old.cells new.cells (14 * slot + k)) 48 0 14
    (λ k. rw cell_of-place) (differ-place old.cells new.cells slot)

is_changed-places : (old new : View) (slot : ℕ)
    → is_changed old new slot ≡ list_any (λ k. differs_at old.cells new.cells (14 * slot + k))
    (range_with_len 0 14)
is_changed-places old new slot =
    any-from (cells_differ old.cells new.cells slot)
    (λ k. differs_at old.cells new.cells (14 * slot + k)) 48 0 14 (differ-place old.cells new.cells slot)

-- all slots
LeadsTheView-cells_by : (slots n : ℕ) (v old new : View) (start : ℤ) → n ≤ slots
    → length old.cells ≡ 14 * slots → length new.cells ≡ 14 * slots
    → LeadsTheView (with_slots v start old.cells)
    (with_slots v (last_slot (where_below n (is_changed old new)) start) (mixed (14 * n) new.cells old.cells))
    (in_slots (changes_in old new) (where_below n (is_changed old new)) start)
LeadsTheView-cells_by slots n v old new start few l m =
    LeadsTheView-walk v (changes_in old new) (is_changed old new)
    (λ k. mixed (14 * k) new.cells old.cells) n start
    (λ k h t. rw changes_in-places
    (LeadsTheView-slot slots k 14 new.cells old.cells (omega (arith, h, few)) (omega arith) l m (14 * k)
    (14 * (k + 1)) (omega arith) (omega arith) v))
    (λ k h t. unchanged slots k 14 new.cells old.cells (omega (arith, h, few)) (omega arith) l m (14 * k)
    (14 * (k + 1)) (omega arith) (omega arith) (sym (is_changed-places old new k) ∙ t))

-- slot by slot the values that differ are set, and those of slots further on are still the old ones
pub LeadsTheView-cells : (slots : ℕ) (v old new : View) → length old.cells ≡ 14 * slots
    → length new.cells ≡ 14 * slots
    → LeadsTheView (with_slots v old.slot old.cells)
    (with_slots v (last_slot (where_below slots (is_changed old new)) old.slot) new.cells)
    (cell_changes old new)
LeadsTheView-cells slots v old new l m =
    rw (slots-of slots old.cells l) (
    rw (mixed-all (14 * slots) new.cells old.cells (omega (arith, m)) (omega (arith, l))) at (
    LeadsTheView-cells_by slots slots v old new old.slot (omega arith) l m
    )
    )

-- ---- contacts that end

-- the values once the contacts of these slots ended
abbrev pub ended : List ℕ → List ℤ → List ℤ
ended [] cells = cells
ended (slot ∷ slots) cells = ended slots (set cells (14 * slot + 9) (negsuc 0))

ended-more : (slots : List ℕ) (slot : ℕ) (cells : List ℤ)
    → ended (slots ++ slot ∷ []) cells ≡ set (ended slots cells) (14 * slot + 9) (negsuc 0)
ended-more [] slot cells = refl
ended-more (s ∷ slots) slot cells = ended-more slots slot (set cells (14 * s + 9) (negsuc 0))

-- the end of a contact sets a value at a place that there is, so there are as many as before
pub length-ended : (slots : List ℕ) (cells : List ℤ) → length (ended slots cells) ≡ length cells
length-ended [] cells = refl
length-ended (slot ∷ slots) cells =
    length-ended slots (set cells (14 * slot + 9) (negsuc 0)) ∙ length-set cells (14 * slot + 9) (negsuc 0)

-- the contacts of slots further on stay
ended-next : (n : ℕ) (test : ℕ → Bool) (cells : List ℤ) → test n ≡ true
    → ended (where_below (n + 1) test) cells ≡ set (ended (where_below n test) cells) (14 * n + 9) (negsuc 0)
ended-next n test cells t = rw where_below-next (ended-more (where_below n test) n cells)

ended-later : (n : ℕ) (test : ℕ → Bool) (cells : List ℤ) (m : ℕ) → n ≤ m
    → get_or (ended (where_below n test) cells) (14 * m + 9) (pos 0) ≡ get_or cells (14 * m + 9) (pos 0)
ended-later zero test cells m h = refl
ended-later (suc n) test cells m h =
    let contact : List ℤ → ℤ = λ xs. get_or xs (14 * m + 9) (pos 0) in
    let step : contact (ended (where_below (n + 1) test) cells) ≡ contact (ended (where_below n test) cells) =
    elim (cases_Bool (test n)) [
      | inl t ↦ ap contact (ended-next n test cells t)
          ∙ get_or-set_other (ended (where_below n test) cells) (14 * n + 9) (14 * m + 9) (negsuc 0) (pos 0)
          (λ e. omega (arith, h, e))
      | inr t ↦ rw where_below-skip
    ] in
    rw (← step, add-one) at (ended-later n test cells m (omega (arith, h)))

had-contact : (a b c : Bool) → (not a && b && c) ≡ true → a ≡ false
had-contact true b c h = absurd (true≢false (sym h))
had-contact false b c h = refl

-- the end of a contact, where there is one
LeadsTheView-lift : (slots : ℕ) (v : View) (cells : List ℤ) (slot : ℕ) → slot < slots
    → length cells ≡ 14 * slots → int_lt (get_or cells (14 * slot + 9) (pos 0)) (pos 0) ≡ false
    → LeadsTheView (with_slots v (pos slot) cells)
    (with_slots v (pos slot) (set cells (14 * slot + 9) (negsuc 0))) (lift ∷ [])
unfolding view_after_events
LeadsTheView-lift slots v cells slot h l contact =
    let after : view_after_event (with_slots v (pos slot) cells) lift
    ≡ with_slots v (pos slot) (set cells (14 * slot + 9) (negsuc 0)) =
    after-cell_event slots v cells slot 9 (negsuc 0) (record { there = h; within = omega arith }) l in
    record {
      to = after;
      changes = (
        λ plain same. true≢false (
            ap (λ (z : ℤ). int_lt z (pos 0))
            (sym (get_or-set_same cells (14 * slot + 9) (negsuc 0) (pos 0) (omega (arith, h, l)))
            ∙ ap (λ (w : View). get_or w.cells (14 * slot + 9) (pos 0)) (sym after ∙ same)) ∙ contact
            ),
        tt,
      );
    }

LeadsTheView-lifts_by : (slots n : ℕ) (v old new : View) (start : ℤ) → n ≤ slots
    → length old.cells ≡ 14 * slots
    → LeadsTheView (with_slots v start old.cells)
    (with_slots v (last_slot (where_below n (is_replaced old new)) start)
    (ended (where_below n (is_replaced old new)) old.cells))
    (in_slots (λ slot. lift ∷ []) (where_below n (is_replaced old new)) start)
LeadsTheView-lifts_by slots n v old new start few l =
    let test : ℕ → Bool = is_replaced old new in
    LeadsTheView-walk v (λ slot. lift ∷ []) test (λ k. ended (where_below k test) old.cells) n start (
    λ k h t.
    let cells : List ℤ = ended (where_below k test) old.cells in
    let contact : int_lt (get_or cells (14 * k + 9) (pos 0)) (pos 0) ≡ false =
    rw (ended-later k test old.cells k (omega arith))
    (had-contact (int_lt (tracking_id old k) (pos 0)) _ _ t) in
    rw ended-next
    (LeadsTheView-lift slots v cells k (omega (arith, h, few))
    (length-ended (where_below k test) old.cells ∙ l) contact)
    ) (λ k h t. rw (← where_below-skip))

-- slot by slot the tracking id becomes -1, and it was not negative: each event changes the view
pub LeadsTheView-lifts : (slots : ℕ) (v old new : View) → length old.cells ≡ 14 * slots
    → LeadsTheView (with_slots v old.slot old.cells)
    (with_slots v (last_slot (where_below slots (is_replaced old new)) old.slot)
    (ended (where_below slots (is_replaced old new)) old.cells)) (lifts old new)
LeadsTheView-lifts slots v old new l =
    rw (slots-of slots old.cells l) (LeadsTheView-lifts_by slots slots v old new old.slot (omega arith) l)

-- The current slot and a value of a slot: what is passed for a raw event leads from those before to those
-- behind.
use Rattle.std.proofs.Common.{◌≡◌, ℕ, ℤ, Bool, true, false, ◌&&◌, not, if◌then◌else◌, nat_eq, List, [], ◌∷◌}
use Rattle.std.proofs.Common.{◌++◌, refl, sym, ◌∙◌, Option, Some, None, option_to_list, option_map, is_some}
use Rattle.std.proofs.Common.{arith, inl, inr}
use Rattle.std.specs.Ordering.{int_eq}
use Rattle.std.proofs.Math.Bool.{and-true}
use Rattle.std.proofs.lemmas.Bool.{cases_Bool, cond_both, eqb-true, and_right}
use Rattle.std.proofs.lemmas.Bool.Decides.{Decides-int_eq, nat_tests}
use Rattle.inp_model.specs.declared.event.TheConstants.{EV_ABS}
use Rattle.inp_model.specs.declared.multi_touch.TheConstants.{ABS_MT_SLOT}
use Rattle.inp_model.proofs.MultiTouchCodes.{slot_code-multi_touch, slot_code-not_slot, single_touch-no_name}
use Rattle.inp_model.proofs.MultiTouchCodes.{single_touch-no_value, name-of}
use Rattle.inp_model.specs.declared.event.Event.{Event}
use Rattle.inp_model.specs.Description.{Description, supports, is_slot_code}
use Rattle.inp_model.specs.Event.{is_multi_touch, is_slot_value, slot_event}
use Rattle.inp_model.specs.RawItem.{RawItem, Occurred}
use Rattle.inp_model.specs.State.{staged, cell}
use Rattle.inp_model.specs.Passed.{moved_to, passes_as, announced, passed}
use Rattle.inp_recon.specs.View.{slot_after_event}
use Rattle.inp_recon.proofs.Each.{Each-append, and-left, and-right}
use Rattle.inp_recon.proofs.Over.{over, over-append, over-idle, IsIdle}
use Rattle.inp_recon.proofs.QueuedValues.{UnviewedIdle}
use Rattle.inp_recon.proofs.Cuts.{LeadsOn, value_each}
use Rattle.inp_recon.proofs.EventKinds.{event, is_event, unviewed-other}

-- the current slot, and the value of one slot on one axis
abbrev pub SlotCell : Type 0
SlotCell = ℤ × ℤ

pub both : (a b x y : ℤ) → a ≡ b → x ≡ y → let u : SlotCell = (a, x) in let w : SlotCell = (b, y) in u ≡ w
both a b x y h k = rw (h, k)

-- the event sets the value of this slot on this axis, while the current slot is this one
abbrev pub sets_cell : ℤ → ℕ → ℤ → Event → Bool
sets_cell slot code current e = is_slot_value e && (nat_eq e.code code && int_eq current slot)

-- both after an event
abbrev pub cell_then : ℤ → ℕ → SlotCell → Event → SlotCell
cell_then slot code v e = (slot_after_event v.0 e, if sets_cell slot code v.0 e then e.value else v.1)

-- an event that is neither
pub single_touch-idle : (slot : ℤ) (code : ℕ) (e : Event) → is_multi_touch e ≡ false
    → IsIdle (cell_then slot code) e
single_touch-idle slot code e h v = rw (single_touch-no_name e h, single_touch-no_value e h)

pub kind-idle : (slot : ℤ) (code : ℕ) (e : Event) → nat_eq e.kind EV_ABS ≡ false
    → IsIdle (cell_then slot code) e
kind-idle slot code e h = single_touch-idle slot code e (rw h)

pub cell-unviewed : (slot : ℤ) (code : ℕ) → UnviewedIdle (cell_then slot code)
cell-unviewed slot code e h = kind-idle slot code e (unviewed-other e.kind EV_ABS refl h)

-- ---- a device with slots

module _ (d : Description) (some : nat_eq d.slots 0 ≡ false) (slot : ℤ) (code : ℕ)
    (is_cell : is_slot_code code ≡ true) where
  abbrev t : SlotCell → Event → SlotCell
  t = cell_then slot code

  -- the slot announced last, and the value now
  abbrev pub cell_now : List RawItem → SlotCell
  cell_now r = (announced d r, cell d r slot code)

  not_on : (e : Event) → is_slot_value e ≡ false → (nat_eq e.kind EV_ABS && nat_eq e.code code) ≡ false
  not_on e h = grind (arith, nat_tests)

  -- an event that is no value of a slot changes neither
  other_now : (r : List RawItem) (e : Event) → is_slot_value e ≡ false
      → cell_now (Occurred e ∷ r) ≡ cell_now r
  unfolding announced cell
  other_now r e h = rw (h, and_right (supports d EV_ABS code) _ (not_on e h))

  -- the naming of a slot is not passed
  slot_unpassed : (r : List RawItem) (value : ℤ) → passed d r (event EV_ABS ABS_MT_SLOT value) ≡ []
  slot_unpassed r value = grind arith

  -- an event that is no value of a slot: nothing that is passed for it changes either
  other-passes : (r : List RawItem) (e : Event) → is_slot_value e ≡ false
      → over t (cell_now r) (passed d r e) ≡ cell_now (Occurred e ∷ r)
  other-passes r e h = rw (other_now r e h) (elim (cases_Bool (is_multi_touch e)) [
    -- the slot's name, as the only multi-touch axis that is no value
    | inl k ↦
        (let named : e ≡ event EV_ABS ABS_MT_SLOT e.value =
        is_event e EV_ABS ABS_MT_SLOT (eqb-true e.kind EV_ABS (and-left _ _ k)) (name-of e k h) in
        rw (named, slot_unpassed r e.value))
    | inr k ↦
        over-idle t (cell_now r) (passed d r e)
        (Each-append (IsIdle t) _ _ (rw h tt)
        (value_each (IsIdle t) e (λ v. single_touch-idle slot code (record e { value = v }) k)
        (passes_as d r e)))
  ])

  -- a value of a slot
  module _ (r : List RawItem) (c : ℕ) (value : ℤ) (is_value : is_slot_code c ≡ true) where
    abbrev touch : Event
    touch = event EV_ABS c value

    abbrev old : ℤ
    old = cell d r (staged d r) c

    abbrev new : ℤ
    new = cell d (Occurred touch ∷ r) (staged d r) c

    abbrev was : ℤ
    was = cell d r slot code

    abbrev named : Bool → List Event
    named b = if b && not (int_eq (staged d r) (announced d r)) then slot_event (staged d r) ∷ [] else []

    -- it is passed where it moves the value of the staged slot
    passes_is : passes_as d r touch ≡ (if supports d EV_ABS c then moved_to old new else None)
    passes_is = rw (slot_code-multi_touch c is_value, slot_code-not_slot c is_value, some)

    abbrev all_named : Option ℤ → List Event
    all_named o = named (is_some o) ++ option_to_list (option_map (λ v. event EV_ABS c v) o)

    passed_is : passed d r touch ≡ all_named (passes_as d r touch)
    passed_is = rw is_value

    announced_is : announced d (Occurred touch ∷ r)
        ≡ (if is_some (passes_as d r touch) then staged d r else announced d r)
    unfolding announced
    announced_is = rw is_value

    -- it is about our cell
    abbrev mine : Bool
    mine = nat_eq c code && int_eq (staged d r) slot

    cell_mine : nat_eq c code ≡ true → int_eq (staged d r) slot ≡ true
        → cell d (Occurred touch ∷ r) slot code ≡ new
    cell_mine h k = rw (eqb-true c code h, (Decides-int_eq (staged d r) slot).0 k)

    was_mine : nat_eq c code ≡ true → int_eq (staged d r) slot ≡ true → old ≡ was
    was_mine h k = rw (eqb-true c code h, (Decides-int_eq (staged d r) slot).0 k)

    -- the value of our cell behind it
    cell_is : cell d (Occurred touch ∷ r) slot code ≡ (if mine && supports d EV_ABS c then new else was)
    unfolding cell
    cell_is = grind (arith, nat_tests, Decides-int_eq, cell_mine)

    names_first : over t (cell_now r) (named true) ≡ (let v : SlotCell = (staged d r, was) in v)
    names_first = grind (arith, Decides-int_eq)

    -- it is not passed: the values stay
    unpassed : passes_as d r touch ≡ None → (mine && supports d EV_ABS c ≡ true → new ≡ was)
        → over t (cell_now r) (passed d r touch) ≡ cell_now (Occurred touch ∷ r)
    unpassed p stays =
        rw (passed_is, announced_is, cell_is, p)
        (both _ _ _ _ refl
        (sym (cond_both (mine && supports d EV_ABS c) new was (λ z. z ≡ was) stays (λ _. refl))))

    value-passes : over t (cell_now r) (passed d r touch) ≡ cell_now (Occurred touch ∷ r)
    value-passes = by (supports d EV_ABS c) refl (int_eq old new) refl
      where
        passes : (has : Bool) → supports d EV_ABS c ≡ has
            → passes_as d r touch ≡ (if has then moved_to old new else None)
        passes has h = rw (passes_is, h)

        by : (has : Bool) → supports d EV_ABS c ≡ has → (same : Bool) → int_eq old new ≡ same
            → over t (cell_now r) (passed d r touch) ≡ cell_now (Occurred touch ∷ r)
        by false h same k = unpassed (passes false h) (λ m. absurd (cc (m, and_right mine _ h)))
        by true h true k =
            unpassed (rw (passes true h, k))
            (λ m. let ours : mine ≡ true = and-left _ _ m in sym ((Decides-int_eq old new).0 k)
            ∙ was_mine (and-left _ _ ours) (and-right (nat_eq c code) _ ours))
        -- the staged slot is announced, and the value is ours or another one
        by true h false k =
            let p : passes_as d r touch ≡ Some new = rw (passes true h, k) in
            rw (
              passed_is,
              announced_is,
              cell_is,
              p,
              over-append t (cell_now r) (named true) (event EV_ABS c new ∷ []),
              names_first,
              slot_code-not_slot c is_value,
              is_value,
              h,
              and-true mine,
            )

  pub cell-passes : LeadsOn d t cell_now
  cell-passes r e = elim (cases_Bool (is_slot_value e)) [
    | inl h ↦
        (let is : e ≡ event EV_ABS e.code e.value =
        is_event e EV_ABS e.code (eqb-true e.kind EV_ABS (and-left _ _ h)) refl in
        rw is (value-passes r e.code e.value (and-right (nat_eq e.kind EV_ABS) (is_slot_code e.code) h)))
    | inr h ↦ other-passes r e h
  ]

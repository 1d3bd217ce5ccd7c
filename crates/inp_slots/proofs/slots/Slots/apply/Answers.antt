use Rattle.std.proofs.Common.{◌≡◌, List, ◌∷◌, ℕ, true, false, ℤ, Some, None, length, nat_eq, sym, ap, subst}
use Rattle.std.proofs.Common.{◌∙◌, arith, rules, to_z, of_z, w32, FitsSigned}
use Rattle.std.proofs.lemmas.Bool.Decides.{nat_tests}
use Rattle.std.proofs.lemmas.Int.{to_z-of_z}
use Rattle.std.specs.Prelude.{vec_len}
use Rattle.inp_model.specs.declared.event.TheConstants.{EV_ABS}
use Rattle.inp_model.specs.declared.multi_touch.TheConstants.{ABS_MT_SLOT}
use Rattle.inp_model.specs.declared.axis_info.AxisInfo.{AxisInfo}
use Rattle.inp_model.specs.RawItem.{RawItem, Occurred}
use Rattle.inp_model.specs.Description.{Description, supports, is_slot_code, is_multi_touch_code}
use Rattle.inp_slots.specs.Slots.{SlotValues, SlotsStandFor, touch}
use Rattle.inp_slots.specs.Changes.{slot_named, is_slot_there, staged_slot}
use Rattle.inp_slots.proofs.Touches.{Before, unsupported-stands, name-stands, value-stands-without_slots}
use Rattle.inp_slots.proofs.Touches.{given-passes, passed-stands, kept-stands, passed-flags, kept-flags}
use Rattle.inp_slots.proofs.slots.Slots.apply.Goals as goal

slot_code_by : (code : ℕ) → is_multi_touch_code code ≡ true → (code ≡ ABS_MT_SLOT → ⊥)
    → is_slot_code code ≡ true
slot_code_by code h k = grind (arith, nat_tests)

none_by : (n : ℕ) → nat_eq n 0 ≡ true → n ≡ 0
none_by n h = grind (arith, nat_tests)

abbrev kept : ℤ → ℤ
kept z = to_z w32 (of_z w32 z)

-- what is known before the value is moved
as_before : (d : Description) (r : List RawItem) (s : SlotValues) (code : ℕ) → supports d EV_ABS code ≡ true
    → is_slot_code code ≡ true → is_slot_there s s.staged ≡ true → length (staged_slot s) ≡ 14
    → SlotsStandFor d r s → Before d r s code
as_before d r s code u k there len h =
    record { supported = u; slot_code = k; there = there; len = len; stands = h }

pub returns-then-not-supports-clause-stands : goal.returns-then-not-supports-clause-stands
returns-then-not-supports-clause-stands c =
    let u : supports c.args.caps.now EV_ABS c.args.code ≡ false =
    sym c.supports.ensures.supported ∙ c.if-not-supports.true in
    λ r h. unsupported-stands c.args.caps.now r c.args.self.now c.args.code c.args.value u h

pub returns-then-code-eq-ABS_MT_SLOT-clause-stands : goal.returns-then-code-eq-ABS_MT_SLOT-clause-stands
returns-then-code-eq-ABS_MT_SLOT-clause-stands c =
    let u : supports c.args.caps.now EV_ABS c.args.code ≡ true =
    sym c.supports.ensures.supported ∙ c.if-not-supports.false in
    let p : c.args.code ≡ ABS_MT_SLOT = c.if-code-eq-ABS_MT_SLOT.true in
    let new : c.stage.new.self ≡ slot_named c.args.self.now c.args.value =
    c.stage.ensures ∙ ap (slot_named c.args.self.now) (to_z-of_z w32 c.args.value c.ranges.value) in
    λ r h. subst (SlotsStandFor c.args.caps.now (Occurred (touch c.args.code c.args.value) ∷ r)) (sym new)
    (rw p
    (name-stands c.args.caps.now r c.args.self.now c.args.value (rw p at u) h))

pub returns-then-is_empty-clause-stands : goal.returns-then-is_empty-clause-stands
returns-then-is_empty-clause-stands c =
    let u : supports c.args.caps.now EV_ABS c.args.code ≡ true =
    sym c.supports.ensures.supported ∙ c.if-not-supports.false in
    let k = slot_code_by c.args.code c.requires.multi_touch c.if-code-eq-ABS_MT_SLOT.false in
    let len : length c.self.inside.slots.items ≡ vec_len c.self.inside.slots = search rules in
    let none : nat_eq (length c.self.inside.slots.items) 0 ≡ true =
    rw (len, ← c.is_empty.ensures) c.if-is_empty.true in
    let count : length c.self.inside.slots.items ≡ c.args.caps.now.slots =
    rw (← c.self.view_is) at c.requires.count in
    let zero_is = none_by (length c.self.inside.slots.items) none in
    let together : c.self.inside.staged ≡ c.self.inside.announced =
    omega (arith, zero_is, c.self.invariant) in
    let same : c.args.self.now.staged ≡ c.args.self.now.announced =
    simp (← c.self.view_is, together, c.self.view_is) in
    λ r h. value-stands-without_slots c.args.caps.now r c.args.self.now c.args.code c.args.value
    (rw count at none) k u same h

pub move_value-requires-clause-code : goal.move_value-requires-clause-code
move_value-requires-clause-code c =
    slot_code_by c.args.code c.requires.multi_touch c.if-code-eq-ABS_MT_SLOT.false

pub returns-in-Some : goal.returns-in-Some
returns-in-Some c =
    let u : supports c.args.caps.now EV_ABS c.args.code ≡ true =
    sym c.supports.ensures.supported ∙ c.if-not-supports.false in
    let k = slot_code_by c.args.code c.requires.multi_touch c.if-code-eq-ABS_MT_SLOT.false in
    let v = to_z-of_z w32 c.args.value c.ranges.value in
    let fits : FitsSigned w32 c.axis.result.fuzz = search rules in
    let f = to_z-of_z w32 c.axis.result.fuzz fits ∙ ap (λ (i : AxisInfo). i.fuzz) c.axis.ensures.axis in
    let taken_fits : FitsSigned w32 c.in-Some.taken = search rules in
    let before = λ (r : List RawItem) (h : SlotsStandFor c.args.caps.now r c.args.self.now).
    as_before c.args.caps.now r c.args.self.now c.args.code u k c.move_value.ensures.staged
    c.move_value.ensures.len h in
    let given = λ (r : List RawItem) (h : SlotsStandFor c.args.caps.now r c.args.self.now).
    given-passes c.args.caps.now r c.args.self.now c.args.code c.args.value (kept c.args.value)
    (kept c.axis.result.fuzz) (Some c.in-Some.taken) v f c.in-Some.ensures.change (before r h) in
    record {
      stands = λ r h.
          passed-stands c.args.caps.now r c.args.self.now c.args.code c.args.value (kept c.args.value)
          (kept c.axis.result.fuzz) c.in-Some.taken c.move_value.new.self c.announce.new.self v f
          c.move_value.ensures.slots c.announce.ensures.slots (given r h) (before r h);
      disposition = λ r h.
          passed-flags c.args.caps.now r c.args.self.now c.args.code c.args.value (kept c.args.value)
          (kept c.axis.result.fuzz) c.in-Some.taken c.move_value.new.self _
          c.move_value.ensures.slots c.announce.ensures.disposition (given r h) (before r h);
      value = λ r h. to_z-of_z w32 c.in-Some.taken taken_fits ∙ sym (rw (given r h));
      count = search rules;
      at_frame = search rules;
    }

pub returns-in-None : goal.returns-in-None
returns-in-None c =
    let u : supports c.args.caps.now EV_ABS c.args.code ≡ true =
    sym c.supports.ensures.supported ∙ c.if-not-supports.false in
    let k = slot_code_by c.args.code c.requires.multi_touch c.if-code-eq-ABS_MT_SLOT.false in
    let v = to_z-of_z w32 c.args.value c.ranges.value in
    let fits : FitsSigned w32 c.axis.result.fuzz = search rules in
    let f = to_z-of_z w32 c.axis.result.fuzz fits ∙ ap (λ (i : AxisInfo). i.fuzz) c.axis.ensures.axis in
    let before = λ (r : List RawItem) (h : SlotsStandFor c.args.caps.now r c.args.self.now).
    as_before c.args.caps.now r c.args.self.now c.args.code u k c.move_value.ensures.staged
    c.move_value.ensures.len h in
    let given = λ (r : List RawItem) (h : SlotsStandFor c.args.caps.now r c.args.self.now).
    given-passes c.args.caps.now r c.args.self.now c.args.code c.args.value (kept c.args.value)
    (kept c.axis.result.fuzz) None v f c.in-None.ensures.change (before r h) in
    record {
      stands = λ r h.
          kept-stands c.args.caps.now r c.args.self.now c.args.code c.args.value (kept c.args.value)
          (kept c.axis.result.fuzz) c.move_value.new.self v f c.move_value.ensures.slots
          (given r h) (before r h);
      disposition = λ r h. c.empty-in-None.ensures tt
          ∙ kept-flags c.args.caps.now r c.args.self.now c.args.code c.args.value (given r h) (before r h);
      value = λ r h. v ∙ sym (rw (given r h));
      count = search rules;
      at_frame = search rules;
    }

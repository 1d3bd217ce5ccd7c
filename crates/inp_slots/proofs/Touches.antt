-- What stands for the events after a multi-touch event.
use Rattle.std.proofs.Common.{◌≡◌, ℕ, ◌<◌, ◌-◌, Bool, true, false, ◌&&◌, not, if◌then◌else◌, nat_eq, ℤ, pos}
use Rattle.std.proofs.Common.{negsuc, int_lt, List, [], ◌∷◌, length, get_or, refl, sym, ap, subst, ◌∙◌, arith}
use Rattle.std.proofs.Common.{inl, inr, Option, Some, None}
use Rattle.std.proofs.lemmas.List.{get_or-set_same, get_or-set_other, length-set}
use Rattle.std.proofs.lemmas.Bool.{cases_eq}
use Rattle.std.proofs.lemmas.Bool.Decides.{nat_tests}
use Rattle.std.specs.Prelude.{unsigned_abs}
use Rattle.std.specs.Ordering.{int_eq}
use Rattle.inp_model.specs.declared.event.TheConstants.{EV_ABS}
use Rattle.inp_model.specs.declared.multi_touch.TheConstants.{ABS_MT_SLOT, ABS_MT_TOUCH_MAJOR}
use Rattle.inp_model.specs.declared.event.Event.{Event}
use Rattle.inp_model.specs.RawItem.{RawItem, Occurred}
use Rattle.inp_model.specs.Description.{Description, supports, info, is_slot_code}
use Rattle.inp_model.specs.State.{staged, cell, is_slot}
use Rattle.inp_model.specs.Passed.{announced, passes_as, cell_after}
use Rattle.inp_caps.specs.Disposition.{flags_after}
use Rattle.inp_slots.specs.Slots.{SlotValues, SlotsStandFor, slot_value, touch}
use Rattle.inp_slots.specs.Changes.{is_slot_there, slot_named, on_axis, taken, with_value, change}
use Rattle.inp_slots.specs.Changes.{staged_slot, moved, is_announced}
use Rattle.inp_slots.proofs.Steps.{on_code, off_code, off_all, staged-stays, staged-slot_named, cell-stays}
use Rattle.inp_slots.proofs.Steps.{cell-not_staged, cell-moves, announced-not_passed, announced-passed}
use Rattle.inp_slots.proofs.Passes.{passes-unsupported, passes-name, passes-without_slots, passes-value}
use Rattle.inp_slots.proofs.Passes.{flags-value}

-- ---- a code that is not supported

pub unsupported-stands : (d : Description) (r : List RawItem) (s : SlotValues) (code : ℕ) (value : ℤ)
    → supports d EV_ABS code ≡ false → SlotsStandFor d r s
    → SlotsStandFor d (Occurred (touch code value) ∷ r) s
unsupported-stands d r s code value u h =
    let e : Event = touch code value in
    record {
      count = h.count;
      staged = h.staged ∙ sym (staged-stays d r e (off_all d code value ABS_MT_SLOT u));
      announced = h.announced ∙ sym (announced-not_passed d r e (passes-unsupported d r code value u));
      values = λ slot other l k. h.values slot other l k
          ∙ sym (cell-stays d r e (pos slot) other (off_all d code value other u));
    }

-- ---- the naming of a slot

slot_code_other : (code : ℕ) → is_slot_code code ≡ true → code ≡ ABS_MT_SLOT → ⊥
slot_code_other code h p = absurd (grind (arith, nat_tests))

record_if : (b : Bool) (s : SlotValues) (slot : ℤ)
    → (if b then record s { staged = slot } else s) ≡ record s { staged = if b then slot else s.staged }
record_if true s slot = refl
record_if false s slot = refl

pub name-stands : (d : Description) (r : List RawItem) (s : SlotValues) (value : ℤ)
    → supports d EV_ABS ABS_MT_SLOT ≡ true → SlotsStandFor d r s
    → SlotsStandFor d (Occurred (touch ABS_MT_SLOT value) ∷ r) (slot_named s value)
name-stands d r s value u h =
    let e : Event = touch ABS_MT_SLOT value in
    let there : is_slot_there s value ≡ is_slot d value = rw h.count in
    let after : (if is_slot_there s value then value else s.staged) ≡ staged d (Occurred e ∷ r) =
    rw (there, h.staged) (sym (staged-slot_named d r e (on_code d ABS_MT_SLOT value u))) in
    subst (SlotsStandFor d (Occurred e ∷ r)) (sym (record_if (is_slot_there s value) s value))
    (record {
      count = h.count;
      staged = after;
      announced = h.announced ∙ sym (announced-not_passed d r e (passes-name d r value u));
      values = λ slot code l k. h.values slot code l k
          ∙ sym (cell-stays d r e (pos slot) code
          (off_code d ABS_MT_SLOT value code (slot_code_other code k)));
    })

-- ---- a value without slots

none_below : (n k : ℕ) → nat_eq n 0 ≡ true → k < n → ⊥
none_below n k h l = absurd (grind (arith, nat_tests))

pub value-stands-without_slots : (d : Description) (r : List RawItem) (s : SlotValues) (code : ℕ) (value : ℤ)
    → nat_eq d.slots 0 ≡ true → is_slot_code code ≡ true → supports d EV_ABS code ≡ true
    → s.staged ≡ s.announced → SlotsStandFor d r s → SlotsStandFor d (Occurred (touch code value) ∷ r) s
value-stands-without_slots d r s code value z k u same h =
    let e : Event = touch code value in
    record {
      count = h.count;
      staged =
          h.staged
          ∙ sym
          (staged-stays d r e (off_code d code value ABS_MT_SLOT (λ p. slot_code_other code k (sym p))));
      announced =
          sym same ∙ h.staged
          ∙ sym (announced-passed d r e value k (passes-without_slots d r code value u k z));
      values = λ slot other l q. absurd (none_below d.slots slot z l);
    }

-- ---- a value of the staged slot

place_by : (z : ℤ) (n : ℕ) → (not (int_lt z (pos 0)) && int_lt z (pos n)) ≡ true
    → (pos (unsigned_abs z) ≡ z) × (unsigned_abs z < n)
place_by (pos k) n h = (refl, grind (arith, nat_tests))
place_by (negsuc k) n h = absurd (cc h)

-- what stands beside the move of the staged slot
pub record Before (d : Description) (r : List RawItem) (s : SlotValues) (code : ℕ) : Type 0 where
  pub supported : supports d EV_ABS code ≡ true
  pub slot_code : is_slot_code code ≡ true
  pub there : is_slot_there s s.staged ≡ true
  pub len : length (staged_slot s) ≡ 14
  pub stands : SlotsStandFor d r s

-- the value that the staged slot has
before_is : (d : Description) (r : List RawItem) (s : SlotValues) (code : ℕ) → Before d r s code
    → on_axis (staged_slot s) code ≡ cell d r (staged d r) code
before_is d r s code b =
    let p = place_by s.staged (length s.slots) b.there in
    let l : unsigned_abs s.staged < d.slots = omega (arith, p, b.stands.count) in
    rw (b.stands.values (unsigned_abs s.staged) code l b.slot_code, p.0, b.stands.staged)

-- the value that it takes
after_is : (d : Description) (r : List RawItem) (s : SlotValues) (code : ℕ) (value : ℤ) → Before d r s code
    → taken (staged_slot s) code value (info d code).fuzz ≡ cell_after d r (touch code value)
after_is d r s code value b =
    rw (before_is d r s code b)
    (sym (cell-moves d r (touch code value) (staged d r) code (on_code d code value b.supported) refl))

change_same : (a b x y : ℤ) → a ≡ x → b ≡ y
    → (if int_eq a b then None else Some b) ≡ (if int_eq x y then None else Some y)
change_same a b x y p q = cc

some_slots : (n k : ℕ) → k < n → nat_eq n 0 ≡ false
some_slots n k h = grind (arith, nat_tests)

-- the value under which it is passed
change-passes : (d : Description) (r : List RawItem) (s : SlotValues) (code : ℕ) (value : ℤ)
    → Before d r s code
    → change (staged_slot s) code value (info d code).fuzz ≡ passes_as d r (touch code value)
change-passes d r s code value b =
    let p = place_by s.staged (length s.slots) b.there in
    let l : unsigned_abs s.staged < d.slots = omega (arith, p, b.stands.count) in
    change_same (on_axis (staged_slot s) code) (taken (staged_slot s) code value (info d code).fuzz)
    (cell d r (staged d r) code) (cell_after d r (touch code value)) (before_is d r s code b)
    (after_is d r s code value b)
    ∙ sym (passes-value d r code value b.supported b.slot_code (some_slots d.slots (unsigned_abs s.staged) l))

axis_place : (code : ℕ) → is_slot_code code ≡ true → code - ABS_MT_TOUCH_MAJOR < 14
axis_place code h = grind (arith, nat_tests)

axes_differ : (code other : ℕ) → is_slot_code code ≡ true → is_slot_code other ≡ true → (other ≡ code → ⊥)
    → other - ABS_MT_TOUCH_MAJOR ≡ code - ABS_MT_TOUCH_MAJOR → ⊥
axes_differ code other h k n p = absurd (grind (arith, nat_tests))

-- the values of all slots after the move
values_after : (d : Description) (r : List RawItem) (s : SlotValues) (code : ℕ) (value : ℤ)
    → Before d r s code → (slot other : ℕ) → slot < d.slots → is_slot_code other ≡ true
    → slot_value (moved s code value (info d code).fuzz) slot other
    ≡ cell d (Occurred (touch code value) ∷ r) (pos slot) other
values_after d r s code value b slot other l q =
    let e : Event = touch code value in
    let k : ℕ = unsigned_abs s.staged in
    let p = place_by s.staged (length s.slots) b.there in
    let now : staged d r ≡ pos k = sym b.stands.staged ∙ sym p.0 in
    let after : ℤ = taken (staged_slot s) code value (info d code).fuzz in
    let new : List ℤ = with_value (staged_slot s) code after in
    elim (cases_eq slot k) [
      | inl same ↦ rw same
          (ap (λ (xs : List ℤ). get_or xs (other - ABS_MT_TOUCH_MAJOR) (pos 0))
          (get_or-set_same s.slots k new [] p.1)
          ∙ elim (cases_eq other code) [
            | inl alike ↦ rw alike
                (get_or-set_same (staged_slot s) (code - ABS_MT_TOUCH_MAJOR) after (pos 0)
                (rw b.len (axis_place code b.slot_code))
                ∙ after_is d r s code value b ∙ ap (λ (z : ℤ). cell d (Occurred e ∷ r) z code) now)
            | inr differs ↦ get_or-set_other (staged_slot s) (code - ABS_MT_TOUCH_MAJOR)
                (other - ABS_MT_TOUCH_MAJOR) after (pos 0) (axes_differ code other b.slot_code q differs)
                ∙ b.stands.values k other (rw b.stands.count at p.1) q
                ∙ sym (cell-stays d r e (pos k) other (off_code d code value other differs))
          ])
      | inr apart ↦ rw (get_or-set_other s.slots k slot new [] apart, b.stands.values slot other l q)
          (sym (cell-not_staged d r e (pos slot) other (λ x. apart (sym (ap unsigned_abs (sym now ∙ x))))))
    ]

-- the whole, by the slot announced after it
moved-stands : (d : Description) (r : List RawItem) (s : SlotValues) (code : ℕ) (value told : ℤ)
    → Before d r s code → told ≡ announced d (Occurred (touch code value) ∷ r)
    → SlotsStandFor d (Occurred (touch code value) ∷ r)
    (record (moved s code value (info d code).fuzz) { announced = told })
moved-stands d r s code value told b t =
    let e : Event = touch code value in
    record {
      count =
          length-set s.slots (unsigned_abs s.staged)
          (with_value (staged_slot s) code (taken (staged_slot s) code value (info d code).fuzz))
          ∙ b.stands.count;
      staged =
          b.stands.staged
          ∙ sym
          (staged-stays d r e
          (off_code d code value ABS_MT_SLOT (λ p. slot_code_other code b.slot_code (sym p))));
      announced = t;
      values = values_after d r s code value b;
    }

-- ---- the same of what the calls gave: v and f are the value and the fuzz, m is the slots after the move

same_change : (slot : List ℤ) (code : ℕ) (v w f g : ℤ) → v ≡ w → f ≡ g
    → change slot code v f ≡ change slot code w g
same_change slot code v w f g p q = rw (p, q)

same_moved : (s : SlotValues) (code : ℕ) (v w f g : ℤ) → v ≡ w → f ≡ g → moved s code v f ≡ moved s code w g
same_moved s code v w f g p q = rw (p, q)

pub given-passes : (d : Description) (r : List RawItem) (s : SlotValues) (code : ℕ) (value v f : ℤ)
    (given : Option ℤ) → v ≡ value → f ≡ (info d code).fuzz → given ≡ change (staged_slot s) code v f
    → Before d r s code → passes_as d r (touch code value) ≡ given
given-passes d r s code value v f given p q g b =
    sym (g ∙ same_change (staged_slot s) code v value f (info d code).fuzz p q
    ∙ change-passes d r s code value b)

-- it is passed, and the staged slot is announced
pub passed-stands : (d : Description) (r : List RawItem) (s : SlotValues) (code : ℕ) (value v f given : ℤ)
    (m n : SlotValues) → v ≡ value → f ≡ (info d code).fuzz → m ≡ moved s code v f
    → n ≡ record m { announced = m.staged } → passes_as d r (touch code value) ≡ Some given
    → Before d r s code → SlotsStandFor d (Occurred (touch code value) ∷ r) n
passed-stands d r s code value v f given m n p q w z g b =
    let e : Event = touch code value in
    let to : n ≡ record (moved s code value (info d code).fuzz) { announced = s.staged } =
    z ∙ ap (λ (x : SlotValues). record x { announced = x.staged }) (w
    ∙ same_moved s code v value f (info d code).fuzz p q) in
    subst (SlotsStandFor d (Occurred e ∷ r)) (sym to)
    (moved-stands d r s code value s.staged b (b.stands.staged
    ∙ sym (announced-passed d r e given b.slot_code g)))

-- it is not passed
pub kept-stands : (d : Description) (r : List RawItem) (s : SlotValues) (code : ℕ) (value v f : ℤ)
    (m : SlotValues) → v ≡ value → f ≡ (info d code).fuzz → m ≡ moved s code v f
    → passes_as d r (touch code value) ≡ None → Before d r s code
    → SlotsStandFor d (Occurred (touch code value) ∷ r) m
kept-stands d r s code value v f m p q w g b =
    let e : Event = touch code value in
    subst (SlotsStandFor d (Occurred e ∷ r)) (sym (w ∙ same_moved s code v value f (info d code).fuzz p q))
    (moved-stands d r s code value s.announced b (b.stands.announced ∙ sym (announced-not_passed d r e g)))

abbrev told_flags : Bool → ℕ
told_flags same = if same then 1 else 5

same_flags : (a b x y : ℤ) → a ≡ x → b ≡ y → told_flags (int_eq a b) ≡ told_flags (int_eq x y)
same_flags a b x y p q = rw (p, q)

pub passed-flags : (d : Description) (r : List RawItem) (s : SlotValues) (code : ℕ) (value v f given : ℤ)
    (m : SlotValues) (flags : ℕ) → m ≡ moved s code v f → flags ≡ (if is_announced m then 1 else 5)
    → passes_as d r (touch code value) ≡ Some given → Before d r s code
    → flags ≡ flags_after d r (touch code value)
passed-flags d r s code value v f given m flags w z g b =
    rw (z, w, same_flags s.staged s.announced (staged d r) (announced d r) b.stands.staged b.stands.announced)
    (sym (flags-value d r code value (Some given) b.slot_code g))

pub kept-flags : (d : Description) (r : List RawItem) (s : SlotValues) (code : ℕ) (value : ℤ)
    → passes_as d r (touch code value) ≡ None → Before d r s code → 0 ≡ flags_after d r (touch code value)
kept-flags d r s code value g b = sym (flags-value d r code value None b.slot_code g)

-- What an event leaves of the staged slot, the announced slot and each value, by the codes that it is on.
use Rattle.std.proofs.Common.{◌≡◌, ℕ, Bool, true, false, ◌&&◌, if◌then◌else◌, nat_eq, ℤ, List, ◌∷◌, refl}
use Rattle.std.proofs.Common.{arith, inl, inr, Option, Some, None}
use Rattle.std.proofs.lemmas.Bool.{cases_eq, and_left}
use Rattle.std.proofs.lemmas.Bool.Decides.{nat_tests, Decides-int_eq}
use Rattle.std.specs.Prelude.{is_some}
use Rattle.std.specs.Ordering.{int_eq}
use Rattle.inp_model.specs.declared.event.TheConstants.{EV_ABS}
use Rattle.inp_model.specs.declared.multi_touch.TheConstants.{ABS_MT_SLOT}
use Rattle.inp_model.specs.declared.event.Event.{Event}
use Rattle.inp_model.specs.RawItem.{RawItem, Occurred}
use Rattle.inp_model.specs.Description.{Description, supports, info}
use Rattle.inp_model.specs.Event.{is_on, is_slot_value}
use Rattle.inp_model.specs.Defuzz.{defuzz}
use Rattle.inp_model.specs.State.{staged, cell, is_slot}
use Rattle.inp_model.specs.Passed.{announced, passes_as, passes_slot_value}
use Rattle.inp_slots.specs.Slots.{touch}

-- ---- tests

no_first : {X : Type 0} → (a b : Bool) (x y : X) → a ≡ false → (if a && b then x else y) ≡ y
no_first true b x y h = absurd (cc h)
no_first false b x y h = refl

no_second : {X : Type 0} → (a b : Bool) (x y : X) → b ≡ false → (if a && b then x else y) ≡ y
no_second true true x y h = absurd (cc h)
no_second true false x y h = refl
no_second false b x y h = refl

yes_first : {X : Type 0} → (a b : Bool) (x y : X) → a ≡ true
    → (if a && b then x else y) ≡ (if b then x else y)
yes_first true b x y h = refl
yes_first false b x y h = absurd (cc h)

yes_both : {X : Type 0} → (a b : Bool) (x y : X) → a ≡ true → b ≡ true → (if a && b then x else y) ≡ x
yes_both true true x y h k = refl
yes_both true false x y h k = absurd (cc k)
yes_both false b x y h k = absurd (cc h)

differs_by : (a b : ℤ) (t : Bool) → int_eq a b ≡ t → (a ≡ b → ⊥) → int_eq a b ≡ false
differs_by a b true p h = absurd (h ((Decides-int_eq a b).0 p))
differs_by a b false p h = p

pub int_other : (a b : ℤ) → (a ≡ b → ⊥) → int_eq a b ≡ false
int_other a b h = differs_by a b (int_eq a b) refl h

pub int_same : (a b : ℤ) → a ≡ b → int_eq a b ≡ true
int_same a b h = (Decides-int_eq a b).1 h

-- ---- which codes a multi-touch event is on

-- not on another one
pub off_code : (d : Description) (code : ℕ) (value : ℤ) (other : ℕ) → (other ≡ code → ⊥)
    → is_on d EV_ABS other (touch code value) ≡ false
off_code d code value other h = grind (arith, nat_tests)

-- on its own, where it is supported
pub on_code : (d : Description) (code : ℕ) (value : ℤ) → supports d EV_ABS code ≡ true
    → is_on d EV_ABS code (touch code value) ≡ true
on_code d code value h = grind (arith, nat_tests)

-- not on any, where its own is not supported
pub off_all : (d : Description) (code : ℕ) (value : ℤ) (other : ℕ) → supports d EV_ABS code ≡ false
    → is_on d EV_ABS other (touch code value) ≡ false
off_all d code value other h =
    elim (cases_eq other code) [
      | inl same ↦ and_left (supports d EV_ABS other) (nat_eq code other) (rw same h)
      | inr differs ↦ off_code d code value other differs
    ]

-- ---- the staged slot

pub staged-stays : (d : Description) (r : List RawItem) (e : Event) → is_on d EV_ABS ABS_MT_SLOT e ≡ false
    → staged d (Occurred e ∷ r) ≡ staged d r
unfolding staged
staged-stays d r e h = no_first (is_on d EV_ABS ABS_MT_SLOT e) (is_slot d e.value) e.value (staged d r) h

pub staged-slot_named : (d : Description) (r : List RawItem) (e : Event) → is_on d EV_ABS ABS_MT_SLOT e ≡ true
    → staged d (Occurred e ∷ r) ≡ (if is_slot d e.value then e.value else staged d r)
unfolding staged
staged-slot_named d r e h =
    yes_first (is_on d EV_ABS ABS_MT_SLOT e) (is_slot d e.value) e.value (staged d r) h

-- ---- the values

pub cell-stays : (d : Description) (r : List RawItem) (e : Event) (slot : ℤ) (code : ℕ)
    → is_on d EV_ABS code e ≡ false → cell d (Occurred e ∷ r) slot code ≡ cell d r slot code
unfolding cell
cell-stays d r e slot code h =
    no_first (is_on d EV_ABS code e) (int_eq (staged d r) slot)
    (defuzz e.value (cell d r slot code) (info d code).fuzz) (cell d r slot code) h

pub cell-not_staged : (d : Description) (r : List RawItem) (e : Event) (slot : ℤ) (code : ℕ)
    → (staged d r ≡ slot → ⊥) → cell d (Occurred e ∷ r) slot code ≡ cell d r slot code
unfolding cell
cell-not_staged d r e slot code h =
    no_second (is_on d EV_ABS code e) (int_eq (staged d r) slot)
    (defuzz e.value (cell d r slot code) (info d code).fuzz) (cell d r slot code)
    (int_other (staged d r) slot h)

pub cell-moves : (d : Description) (r : List RawItem) (e : Event) (slot : ℤ) (code : ℕ)
    → is_on d EV_ABS code e ≡ true → staged d r ≡ slot
    → cell d (Occurred e ∷ r) slot code ≡ defuzz e.value (cell d r slot code) (info d code).fuzz
unfolding cell
cell-moves d r e slot code h k =
    yes_both (is_on d EV_ABS code e) (int_eq (staged d r) slot)
    (defuzz e.value (cell d r slot code) (info d code).fuzz) (cell d r slot code) h
    (int_same (staged d r) slot k)

-- ---- the announced slot

pub announced-stays : (d : Description) (r : List RawItem) (e : Event) → passes_slot_value d r e ≡ false
    → announced d (Occurred e ∷ r) ≡ announced d r
unfolding announced
announced-stays d r e h = rw h

pub announced-tells : (d : Description) (r : List RawItem) (e : Event) → passes_slot_value d r e ≡ true
    → announced d (Occurred e ∷ r) ≡ staged d r
unfolding announced
announced-tells d r e h = rw h

tells_nothing : (b : Bool) (given : Option ℤ) → given ≡ None → (b && is_some given) ≡ false
tells_nothing b (Some v) h = absurd (cc h)
tells_nothing true None h = refl
tells_nothing false None h = refl

-- an event that is not passed tells no slot
pub announced-not_passed : (d : Description) (r : List RawItem) (e : Event) → passes_as d r e ≡ None
    → announced d (Occurred e ∷ r) ≡ announced d r
announced-not_passed d r e h = announced-stays d r e (tells_nothing (is_slot_value e) (passes_as d r e) h)

tells : (b : Bool) (given : Option ℤ) (v : ℤ) → b ≡ true → given ≡ Some v → (b && is_some given) ≡ true
tells true (Some w) v h k = refl
tells true None v h k = absurd (cc k)
tells false given v h k = absurd (cc h)

-- a value of a slot that is passed tells the staged one
pub announced-passed : (d : Description) (r : List RawItem) (e : Event) (value : ℤ) → is_slot_value e ≡ true
    → passes_as d r e ≡ Some value → announced d (Occurred e ∷ r) ≡ staged d r
announced-passed d r e value h k = announced-tells d r e (tells (is_slot_value e) (passes_as d r e) value h k)

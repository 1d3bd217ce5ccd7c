-- Which codes are multi-touch ones, name a slot, or are values of one.
use Rattle.std.proofs.Common.{◌≡◌, ℕ, true, false, ◌&&◌, nat_eq, arith}
use Rattle.std.proofs.lemmas.Bool.Decides.{nat_tests}
use Rattle.inp_model.specs.declared.event.TheConstants.{EV_ABS}
use Rattle.inp_model.specs.declared.multi_touch.TheConstants.{ABS_MT_SLOT}
use Rattle.inp_model.specs.declared.event.Event.{Event}
use Rattle.inp_model.specs.Description.{is_slot_code, is_multi_touch_code}
use Rattle.inp_model.specs.Event.{is_multi_touch, is_slot_value}

-- an axis of slots is a multi-touch one, and does not name a slot
pub slot_code-multi_touch : (code : ℕ) → is_slot_code code ≡ true → is_multi_touch_code code ≡ true
slot_code-multi_touch code h = grind (arith, nat_tests)

pub slot_code-not_slot : (code : ℕ) → is_slot_code code ≡ true → nat_eq code ABS_MT_SLOT ≡ false
slot_code-not_slot code h = grind (arith, nat_tests)

-- an event that is not multi-touch is no value of a slot, and names none
pub single_touch-no_value : (e : Event) → is_multi_touch e ≡ false → is_slot_value e ≡ false
single_touch-no_value e h = grind (arith, nat_tests)

pub single_touch-no_name : (e : Event) → is_multi_touch e ≡ false
    → (nat_eq e.kind EV_ABS && nat_eq e.code ABS_MT_SLOT) ≡ false
single_touch-no_name e h = grind (arith, nat_tests)

-- an axis with a value of its own is none of those of slots
pub plain-no_slot_code : (code : ℕ) → is_multi_touch_code code ≡ false → is_slot_code code ≡ false
plain-no_slot_code code h = grind (arith, nat_tests)

-- of the multi-touch axes the one that is no value names the slot
pub name-of : (e : Event) → is_multi_touch e ≡ true → is_slot_value e ≡ false → e.code ≡ ABS_MT_SLOT
name-of e h k = grind (arith, nat_tests)

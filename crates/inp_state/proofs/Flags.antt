-- What becomes of an event that is about no slot, by whether it is passed.
use Rattle.std.proofs.Common.{◌≡◌, Bool, true, false, ◌&&◌, refl, List, is_some}
use Rattle.std.proofs.lemmas.Bool.{and_left}
use Rattle.inp_model.specs.declared.event.Event.{Event}
use Rattle.inp_model.proofs.MultiTouchCodes.{single_touch-no_value}
use Rattle.inp_model.specs.RawItem.{RawItem}
use Rattle.inp_model.specs.Description.{Description}
use Rattle.inp_model.specs.Event.{is_multi_touch, is_slot_value}
use Rattle.inp_model.specs.Passed.{passes_as, is_output, announces}
use Rattle.inp_caps.specs.Disposition.{flags_after}
use Rattle.inp_state.specs.State.{flags_by}

-- no slot is announced before it
pub announces-other : (d : Description) (r : List RawItem) (e : Event) → is_multi_touch e ≡ false
    → announces d r e ≡ false
announces-other d r e h =
    and_left _ _ (and_left (is_slot_value e) (is_some (passes_as d r e)) (single_touch-no_value e h))

either_order : (a b : Bool) → (a && b) ≡ (b && a)
either_order true true = refl
either_order true false = refl
either_order false true = refl
either_order false false = refl

pub flags-other : (d : Description) (r : List RawItem) (e : Event) → is_multi_touch e ≡ false
    → flags_by (is_some (passes_as d r e)) e ≡ flags_after d r e
flags-other d r e h =
    let passed = is_some (passes_as d r e) in
    rw (announces-other d r e h, ← either_order passed (is_output e))

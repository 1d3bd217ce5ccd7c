-- Neither an event that is not multi-touch, nor a description of an axis, nor a frame changes a slot. For
-- whoever keeps slots beside a state.
use Rattle.std.proofs.Common.{◌≡◌, ℕ, true, false, pos, List, ◌∷◌, refl, sym, ◌∙◌, arith}
use Rattle.std.proofs.lemmas.Bool.Decides.{nat_tests}
use Rattle.std.specs.Prelude.{is_some}
use Rattle.inp_model.specs.declared.event.TheConstants.{EV_ABS}
use Rattle.inp_model.specs.declared.multi_touch.TheConstants.{ABS_MT_SLOT}
use Rattle.inp_model.specs.declared.event.Event.{Event}
use Rattle.inp_model.specs.declared.axis_info.AxisInfo.{AxisInfo}
use Rattle.inp_model.proofs.MultiTouchCodes.{slot_code-multi_touch, single_touch-no_value}
use Rattle.inp_model.specs.RawItem.{RawItem, Occurred, Described}
use Rattle.inp_model.specs.Description.{Description, is_multi_touch_code}
use Rattle.inp_model.specs.Event.{is_on, is_multi_touch, is_slot_value}
use Rattle.inp_model.specs.State.{staged, cell}
use Rattle.inp_model.specs.Passed.{passes_as, announced}
use Rattle.inp_slots.specs.Slots.{SlotValues, SlotsStandFor}
use Rattle.inp_slots.proofs.Steps.{staged-stays, announced-stays, cell-stays}
use Rattle.std.proofs.lemmas.Bool.{and_left}

-- it is on no multi-touch code
off_multi_touch : (d : Description) (code : ℕ) (e : Event) → is_multi_touch e ≡ false
    → is_multi_touch_code code ≡ true → is_on d EV_ABS code e ≡ false
off_multi_touch d code e h k = grind (arith, nat_tests)

-- what stood for the events before it stands for them with it
pub SlotsStandFor-other : (d : Description) (r : List RawItem) (s : SlotValues) (e : Event)
    → is_multi_touch e ≡ false → SlotsStandFor d r s → SlotsStandFor d (Occurred e ∷ r) s
SlotsStandFor-other d r s e m h = record {
  count = h.count;
  staged = h.staged ∙ sym (staged-stays d r e (off_multi_touch d ABS_MT_SLOT e m refl));
  announced =
      h.announced
      ∙ sym
      (announced-stays d r e
      (and_left (is_slot_value e) (is_some (passes_as d r e)) (single_touch-no_value e m)));
  values = λ slot code l k. h.values slot code l k
      ∙ sym (cell-stays d r e (pos slot) code (off_multi_touch d code e m (slot_code-multi_touch code k)));
}

-- the same of an axis that is described anew
pub SlotsStandFor-described : (d : Description) (r : List RawItem) (s : SlotValues) (code : ℕ) (i : AxisInfo)
    → SlotsStandFor d r s → SlotsStandFor d (Described code i ∷ r) s
unfolding staged announced cell
SlotsStandFor-described d r s code i h =
    record { count = h.count; staged = h.staged; announced = h.announced; values = h.values }

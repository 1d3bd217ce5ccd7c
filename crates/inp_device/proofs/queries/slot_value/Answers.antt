use Rattle.std.proofs.Common.{subst, sym, ◌∙◌, w32, FitsSigned}
use Rattle.std.proofs.lemmas.Int.{to_z-of_z}
use Rattle.inp_model.specs.Raw.{raw}
use Rattle.inp_slots.specs.Slots.{SlotsStandFor}
use Rattle.inp_device.proofs.queries.slot_value.Goals as goal

-- the kept value of a slot is that of the raw events
pub returns : goal.returns
returns c =
    let fits : FitsSigned w32 c.value.result = record { sfits = c.value.type_inv } in
    record {
      value = λ d past h. to_z-of_z w32 c.value.result fits
          ∙ c.value.ensures.cell d (raw d past)
          (subst (SlotsStandFor d (raw d past)) (sym c.slots.ensures.slots) h.raw_events.slots);
    }

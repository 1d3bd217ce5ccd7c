use Rattle.std.proofs.Common.{reverse, sym, ap, subst, ◌∙◌, w32, FitsSigned}
use Rattle.std.proofs.lemmas.Int.{to_z-of_z}
use Rattle.inp_frames.specs.Core.{CoreStandsFor}
use Rattle.inp_device.specs.declared.present.Present.{Present}
use Rattle.inp_device.specs.Device.{StoringView}
use Rattle.std.specs.Prelude.{pos}
use Rattle.inp_model.specs.Raw.{raw}
use Rattle.inp_model.specs.State.{cell}
use Rattle.inp_device.proofs.device.Device.slot_value.Goals as goal

-- the core behind the pointer stands for the history, so the slot's value is as that says
pub returns : goal.returns
returns c =
    let d = c.self.inside.present.value.caps in
    let past = reverse c.self.inside.steps.items in
    let P : Present → Type 0 = λ p. CoreStandsFor d past p.core in
    let stands = subst P (sym c.deref.ensures) c.self.invariant.stands.core in
    let fits : FitsSigned w32 c.slot_value.result = record { sfits = c.slot_value.type_inv } in
    record {
      value =
          to_z-of_z w32 c.slot_value.result fits ∙ c.slot_value.ensures.value d past stands
          ∙ ap (λ (v : StoringView).
          cell v.description (raw v.description v.past) (pos c.args.slot) c.args.code) c.self.view_is;
    }

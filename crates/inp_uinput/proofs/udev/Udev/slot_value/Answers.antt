use Rattle.std.proofs.Common.{pos, List, ap, sym, ◌∙◌, reverse, w32, FitsSigned}
use Rattle.std.proofs.lemmas.Int.{to_z-of_z}
use Rattle.inp_model.specs.declared.step.Step.{Step}
use Rattle.inp_model.specs.Raw.{raw}
use Rattle.inp_model.specs.State.{cell}
use Rattle.inp_feedback.specs.UEntry.{steps_in}
use Rattle.inp_feedback.proofs.Lists.{steps_in-kept_of}
use Rattle.inp_uinput.specs.UdevView.{UdevView}
use Rattle.inp_uinput.proofs.udev.Udev.slot_value.Goals as goal

-- the steps of the kept list are the device's own past, so the slot's value is as that says
pub returns : goal.returns
returns c =
    let d = c.self.inside.device.description in
    let same = sym (steps_in-kept_of c.self.inside.device.past (reverse c.self.inside.feedbacks.items)) in
    let fits : FitsSigned w32 c.slot_value.result = record { sfits = c.slot_value.type_inv } in
    record {
      value =
          to_z-of_z w32 c.slot_value.result fits
          ∙ c.slot_value.ensures.value
          ∙ ap (λ (p : List Step). cell d (raw d p) (pos c.args.slot) c.args.code) same
          ∙ ap (λ (u : UdevView). cell u.description (raw u.description (steps_in u.kept))
          (pos c.args.slot) c.args.code) c.self.view_is;
    }

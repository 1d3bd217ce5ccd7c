use Rattle.std.proofs.Common.{reverse, sym, subst, ◌∙◌}
use Rattle.inp_frames.specs.Core.{CoreStandsFor}
use Rattle.inp_device.specs.declared.present.Present.{Present}
use Rattle.inp_device.proofs.device.Device.axis.Goals as goal

-- the core behind the pointer stands for the history, so the axis is as that says
pub returns : goal.returns
returns c =
    let past = reverse c.self.inside.steps.items in
    let d = c.deref-2.result.now.caps in
    let P : Present → Type 0 = λ p. CoreStandsFor p.caps past p.core in
    let Q : Present → Type 0 = λ p. CoreStandsFor d past p.core in
    let stands =
    subst Q (c.deref-2.ensures ∙ sym c.deref.ensures)
    (subst P (sym c.deref-2.ensures) c.self.invariant.stands.core) in
    record {
      axis = rw (← c.self.view_is, ← c.deref-2.ensures, ← c.axis.ensures.axis);
    }

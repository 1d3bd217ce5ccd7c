use Rattle.std.proofs.Common.{reverse, sym, subst}
use Rattle.inp_device.specs.declared.present.Present.{Present}
use Rattle.inp_device.specs.Present.{PresentStandsFor}
use Rattle.inp_device.proofs.device.Device.visible.Goals as goal

-- what lies behind the pointer stands for the history, so what can be seen is as that says
pub returns : goal.returns
returns c =
    let d = c.self.inside.present.value.caps in
    let past = reverse c.self.inside.steps.items in
    let P : Present → Type 0 = λ p. PresentStandsFor d past p in
    let stands = subst P (sym c.deref.ensures) c.self.invariant.stands in
    record {
      visible = rw (← c.self.view_is, ← c.visible.ensures.visible);
    }

use Rattle.std.proofs.Common.{reverse, sym, subst}
use Rattle.inp_device.specs.declared.present.Present.{Present}
use Rattle.inp_device.specs.Present.{PresentStandsFor}
use Rattle.inp_device.proofs.device.Device.readable.Goals as goal

-- what lies behind the pointer stands for the history, so who could read is as that says
pub returns : goal.returns
returns c =
    let d = c.self.inside.present.value.caps in
    let past = reverse c.self.inside.steps.items in
    let P : Present → Type 0 = λ p. PresentStandsFor d past p in
    let stands = subst P (sym c.deref.ensures) c.self.invariant.stands in
    record {
      count = rw (← c.self.view_is, ← c.readable.ensures.count d past stands);
      few = c.readable.ensures.few;
      written = rw (← c.self.view_is, ← c.readable.ensures.written d past stands);
    }

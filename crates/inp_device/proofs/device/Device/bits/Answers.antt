use Rattle.std.proofs.Common.{reverse, sym, subst}
use Rattle.inp_frames.specs.Core.{CoreStandsFor}
use Rattle.inp_device.specs.declared.present.Present.{Present}
use Rattle.inp_device.proofs.device.Device.bits.Goals as goal

-- the core behind the pointer stands for the history, so the bits are as that says
pub returns : goal.returns
returns c =
    let d = c.self.inside.present.value.caps in
    let past = reverse c.self.inside.steps.items in
    let P : Present → Type 0 = λ p. CoreStandsFor d past p.core in
    let stands = subst P (sym c.deref.ensures) c.self.invariant.stands.core in
    record {
      bits = rw (← c.self.view_is, ← c.bits.ensures.bits);
    }

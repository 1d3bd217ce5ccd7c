use Rattle.std.proofs.Common.{reverse, refl}
use Rattle.inp_device.proofs.StepParts.{framed}
use Rattle.inp_device.proofs.present.Present.inhibit.Goals as goal

-- the core enters what the inhibition releases, and the handler takes the frames
pub returns : goal.returns
returns c =
    let all =
    framed c.requires.ready refl refl c.done.ensures.done c.begin.ensures.begun c.holder.ensures.holder
    (c.inhibit.ensures.enters (reverse c.args.history.now) c.requires.ready.stands.core)
    c.inhibit.ensures.made refl refl refl refl refl refl refl in
    record { made = all.0; stored = all.1 }

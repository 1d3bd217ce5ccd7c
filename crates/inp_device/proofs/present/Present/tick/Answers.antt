use Rattle.std.proofs.Common.{reverse, refl}
use Rattle.inp_device.proofs.StepParts.{framed}
use Rattle.inp_device.proofs.present.Present.tick.Goals as goal

-- the core enters what the autorepeat makes, and the handler takes the frames
pub returns : goal.returns
returns c =
    let all =
    framed c.requires.ready refl refl c.done.ensures.done c.begin.ensures.begun c.holder.ensures.holder
    (c.tick.ensures.enters (reverse c.args.history.now) c.requires.ready.stands.core) c.tick.ensures.made refl
    refl refl refl refl refl refl in
    record { made = all.0; stored = all.1 }

use Rattle.std.proofs.Common.{reverse, refl}
use Rattle.inp_device.proofs.StepParts.{framed}
use Rattle.inp_device.proofs.present.Present.write.Goals as goal

-- the core enters the client's event, and the handler takes the frame, if one ended
pub returns : goal.returns
returns c =
    let all =
    framed c.requires.ready refl refl c.done.ensures.done c.begin.ensures.begun c.holder.ensures.holder
    (c.inject.ensures.enters_write (reverse c.args.history.now) c.args.client c.requires.ready.stands.core)
    c.inject.ensures.made refl refl refl refl refl refl refl in
    record {
      made = all.0;
      stored = all.1;
      sent = c.inject.ensures.sends (reverse c.args.history.now) c.requires.ready.stands.core;
    }

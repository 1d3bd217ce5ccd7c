use Rattle.std.proofs.Common.{reverse, refl}
use Rattle.inp_device.proofs.StepParts.{made_call, stands_in_core}
use Rattle.inp_device.proofs.Growth.{stored_kept}
use Rattle.inp_device.proofs.present.Present.uninhibit.Goals as goal

-- the core alone changes, and no frame ends
pub returns : goal.returns
returns c = record {
  made = made_call refl c.done.ensures.done
      (stands_in_core c.requires.ready refl refl refl refl refl
      (c.uninhibit.ensures.stands c.args.self.now.caps
      (reverse c.args.history.now) c.requires.ready.stands.core)
      (c.uninhibit.ensures.made c.args.self.now.caps c.requires.ready.stands.made) refl refl refl refl);
  stored = stored_kept c.args.self.now.handler.clients _;
}

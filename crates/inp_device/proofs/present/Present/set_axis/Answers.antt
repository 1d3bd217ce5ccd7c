use Rattle.std.proofs.Common.{reverse, refl}
use Rattle.inp_model.proofs.Allowed.{set_axis_code}
use Rattle.inp_device.proofs.StepParts.{permitted, made_call, stands_in_core}
use Rattle.inp_device.proofs.Growth.{stored_kept}
use Rattle.inp_device.proofs.present.Present.set_axis.Goals as goal

pub describe-requires : goal.describe-requires
describe-requires c =
    record { within = set_axis_code _ _ c.args.client _ c.args.info (permitted c.requires.ready) }

-- the core takes the axis's new description, and no frame ends
pub returns : goal.returns
returns c = record {
  made = made_call refl c.done.ensures.done
      (stands_in_core c.requires.ready refl refl refl refl refl
      (c.describe.ensures.stands c.args.self.now.caps
      (reverse c.args.history.now) c.args.client c.requires.ready.stands.core)
      (c.describe.ensures.made c.args.self.now.caps c.requires.ready.stands.made) refl refl refl refl);
  stored = stored_kept c.args.self.now.handler.clients _;
}

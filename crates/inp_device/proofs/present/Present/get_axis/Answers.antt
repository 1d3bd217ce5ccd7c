use Rattle.std.proofs.Common.{reverse, refl, ap₂}
use Rattle.inp_model.specs.declared.reply.Reply.TheVariants.{Axis}
use Rattle.inp_model.proofs.Allowed.{axis_code}
use Rattle.inp_device.proofs.StepParts.{permitted, at_place, made_alone, called, clients_same, holder_same}
use Rattle.inp_device.proofs.Growth.{stored_kept}
use Rattle.inp_device.proofs.present.Present.get_axis.Goals as goal

pub axis-requires : goal.axis-requires
axis-requires c = record { within = axis_code _ _ c.args.client _ (permitted c.requires.ready) }

-- the reply has the axis as the core keeps it, and no client changes
pub returns : goal.returns
returns c =
    let ready = c.requires.ready in
    record {
      made =
          made_alone refl
          (ap₂ Axis (at_place ready) (c.axis.ensures.axis (reverse c.args.history.now) ready.stands.core))
          (called ready refl refl refl refl refl refl refl refl (clients_same ready refl)
          (holder_same ready refl));
      stored = stored_kept c.args.self.now.handler.clients _;
    }

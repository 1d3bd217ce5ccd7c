use Rattle.std.proofs.Common.{refl, ap₂, ◌∙◌}
use Rattle.inp_model.specs.declared.reply.Reply.TheVariants.{Discarded}
use Rattle.inp_client.proofs.OnClock.{on_take}
use Rattle.inp_device.proofs.Calls.{clients_after-discard}
use Rattle.inp_device.proofs.StepParts.{at_place, clients_called, named_there, named_visible, made_alone}
use Rattle.inp_device.proofs.StepParts.{called, holder_same}
use Rattle.inp_device.proofs.Growth.{stored_taken}
use Rattle.inp_device.proofs.present.Present.discard.Goals as goal

pub discard-removed-requires : goal.discard-removed-requires
discard-removed-requires c = record { «open» = named_there c.requires.ready refl }

-- all that can be seen is taken out of the client's queue, and the reply says how many
pub returns : goal.returns
returns c =
    let ready = c.requires.ready in
    let count = c.discard-removed.ensures.count ∙ named_visible ready refl in
    record {
      made = made_alone refl (ap₂ Discarded (at_place ready) count)
          (called ready refl refl refl refl refl refl refl refl
          (clients_called ready c.args.client _ _
          (on_take c.args.self.now.caps c.discard-removed.result) c.discard-removed.ensures.rest
          (clients_after-discard _ _ c.args.client c.discard-removed.result count))
          (holder_same ready refl));
      stored =
          stored_taken c.discard-removed.result c.args.self.now.handler.clients c.discard-removed.new.self _
          c.discard-removed.ensures.rings;
    }

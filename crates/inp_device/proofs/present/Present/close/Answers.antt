use Rattle.std.proofs.Common.{reverse, refl, sym, ap, ◌∙◌}
use Rattle.inp_handles.specs.Handles.{HandleState, holder_without}
use Rattle.inp_client.specs.Clients.{without_client}
use Rattle.inp_client.specs.Read.{clients_on}
use Rattle.inp_client.proofs.OnClock.{without_client-on}
use Rattle.inp_device.proofs.Calls.{clients_after-close}
use Rattle.inp_device.proofs.StandsAfterStep.{holder-close}
use Rattle.inp_device.proofs.StepParts.{made_call, called, named_there}
use Rattle.inp_device.proofs.Growth.{stored_closed}
use Rattle.inp_device.proofs.present.Present.close.Goals as goal

pub close-requires : goal.close-requires
close-requires c = record { «open» = named_there c.requires.ready refl }

-- the client is left out, it gives up its grab, and its cells go with its ring
pub returns : goal.returns
returns c =
    let ready = c.requires.ready in
    let old = c.args.self.now in
    record {
      made = made_call refl c.done.ensures.done
          (called ready refl refl refl refl refl refl refl refl
          (ap (clients_on old.caps) c.close.ensures.closed
          ∙ without_client-on old.caps c.args.client old.handler.clients.list
          ∙ ap (without_client c.args.client) ready.stands.handler.clients
          ∙ sym (clients_after-close old.caps (reverse c.args.history.now) c.args.client))
          (ap (λ (h : HandleState). h.holder) c.release.ensures.holder
          ∙ ap (holder_without c.args.client) ready.stands.holder
          ∙ holder-close (reverse c.args.history.now) c.args.client));
      stored = stored_closed old.handler.clients c.close.new.self _ c.close.ensures.rings;
    }

use Rattle.std.proofs.Common.{reverse, refl, ap, ◌∙◌}
use Rattle.inp_handles.specs.Handles.{HandleState, holder_without}
use Rattle.inp_client.specs.Client.{after_revoke}
use Rattle.inp_device.proofs.Calls.{clients_after-revoke}
use Rattle.inp_device.proofs.StandsAfterStep.{holder-revoke}
use Rattle.inp_device.proofs.StepParts.{clients_called, made_call, called, named_there}
use Rattle.inp_device.proofs.Growth.{stored_rings}
use Rattle.inp_device.proofs.present.Present.revoke.Goals as goal

pub revoke-requires : goal.revoke-requires
revoke-requires c = record { «open» = named_there c.requires.ready refl }

-- the client is marked and gives up its grab, and no ring changes
pub returns : goal.returns
returns c =
    let ready = c.requires.ready in
    record {
      made = made_call refl c.done.ensures.done
          (called ready refl refl refl refl refl refl refl refl
          (clients_called ready c.args.client _ after_revoke (λ v. refl) c.revoke.ensures.revoked
          (clients_after-revoke c.args.self.now.caps _ c.args.client))
          (ap (λ (h : HandleState). h.holder) c.release.ensures.holder
          ∙ ap (holder_without c.args.client) ready.stands.holder
          ∙ holder-revoke (reverse c.args.history.now) c.args.client));
      stored = stored_rings c.args.self.now.handler.clients c.revoke.new.self _ c.revoke.ensures.numbers;
    }

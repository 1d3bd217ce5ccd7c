use Rattle.std.proofs.Common.{refl}
use Rattle.inp_model.proofs.Allowed.{mask_kind, mask_word}
use Rattle.inp_client.specs.Client.{after_mask}
use Rattle.inp_device.proofs.Calls.{clients_after-mask}
use Rattle.inp_device.proofs.StepParts.{permitted, clients_called, made_call, called, named_there}
use Rattle.inp_device.proofs.StepParts.{holder_same}
use Rattle.inp_device.proofs.Growth.{stored_rings}
use Rattle.inp_device.proofs.present.Present.set_mask.Goals as goal

pub set_mask-requires-clause-open : goal.set_mask-requires-clause-open
set_mask-requires-clause-open c = named_there c.requires.ready refl

pub set_mask-requires-clause-kind : goal.set_mask-requires-clause-kind
set_mask-requires-clause-kind c = mask_kind _ _ _ _ _ _ (permitted c.requires.ready)

pub set_mask-requires-clause-word : goal.set_mask-requires-clause-word
set_mask-requires-clause-word c = mask_word _ _ _ _ _ _ (permitted c.requires.ready)

-- the word of the client's mask is set, and no ring changes
pub returns : goal.returns
returns c =
    let ready = c.requires.ready in
    record {
      made = made_call refl c.done.ensures.done
          (called ready refl refl refl refl refl refl refl refl
          (clients_called ready c.args.client _ (after_mask c.args.kind c.args.word c.args.bits)
          (λ v. refl) c.set_mask.ensures.set
          (clients_after-mask c.args.self.now.caps _ c.args.client c.args.kind c.args.word c.args.bits
          (mask_word _ _ _ _ _ _ (permitted ready))))
          (holder_same ready refl));
      stored = stored_rings c.args.self.now.handler.clients c.set_mask.new.self _ c.set_mask.ensures.numbers;
    }

use Rattle.std.proofs.Common.{reverse, refl, ap₂}
use Rattle.inp_model.specs.declared.reply.Reply.TheVariants.{Bits}
use Rattle.inp_model.specs.Step.{Codes}
use Rattle.inp_client.proofs.OnClock.{on_flush}
use Rattle.inp_device.proofs.Calls.{clients_after-query}
use Rattle.inp_device.proofs.StepParts.{at_place, clients_called, IsQuery, query, kind_has_bits, kind_not_syn}
use Rattle.inp_device.proofs.StepParts.{named_there, made_alone, called, accepted-bits, holder_same}
use Rattle.inp_device.proofs.Growth.{stored_flushed}
use Rattle.inp_device.proofs.present.Present.get_bits.Goals as goal

pub bits-words-requires : goal.bits-words-requires
bits-words-requires c = record { kind = kind_has_bits c.args.step c.args.client c.args.kind c.requires.asks }

pub flush-requires-clause-open : goal.flush-requires-clause-open
flush-requires-clause-open c = named_there c.requires.ready c.requires.asks.named

pub flush-requires-clause-not_syn : goal.flush-requires-clause-not_syn
flush-requires-clause-not_syn c = kind_not_syn c.args.step c.args.client c.args.kind c.requires.asks

-- the reply has the bits of the kind, and the client's events of that kind are flushed
pub returns : goal.returns
returns c =
    let ready = c.requires.ready in
    let d = c.args.self.now.caps in
    let past = reverse c.args.history.now in
    let asks : IsQuery c.args.step = query c.args.step c.args.client c.args.kind c.requires.asks in
    record {
      made = made_alone (accepted-bits d past c.args.step c.args.client c.args.kind c.requires.asks)
          (ap₂ Bits (at_place ready) (c.bits-words.ensures.bits d past ready.stands.core))
          (called ready asks.events asks.opening asks.ending refl refl refl refl refl
          (clients_called ready c.args.client _ _ (on_flush d (Codes c.args.kind)) c.flush.ensures.flushed
          (clients_after-query d past c.args.step c.args.client
          (Codes c.args.kind) c.requires.asks.named c.requires.asks.whole))
          (holder_same ready asks.grab));
      stored = stored_flushed c.args.self.now.handler.clients c.flush.new.self _ c.flush.ensures.rings;
    }

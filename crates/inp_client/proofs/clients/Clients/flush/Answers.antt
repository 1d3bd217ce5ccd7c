use Rattle.inp_model.specs.Step.{Codes}
use Rattle.inp_client.proofs.OneClient.{call_open, call_held, kept_after_call, list_after_call}
use Rattle.inp_client.proofs.OneClient.{flushed_after_call, timed_flush, call_on}
use Rattle.inp_client.proofs.clients.Clients.flush.Goals as goal

-- a client that is open by the view is open by what is kept
pub key_of-key-requires-clause-open : goal.key_of-key-requires-clause-open
key_of-key-requires-clause-open c =
    rw c.deref.ensures.value (call_open c.self.inside _ _ c.self.view_is c.requires.«open»)

pub flush-requires-clause-held : goal.flush-requires-clause-held
flush-requires-clause-held c =
    call_held
    (call_on c.self.invariant c.deref.ensures.value c.key_of-key.ensures.location c.index_mut.ensures.value)

-- one ring alone changed, and each cell that left it lost a holder
pub invariant_of-self : goal.invariant_of-self
invariant_of-self c =
    kept_after_call
    (call_on c.self.invariant c.deref.ensures.value c.key_of-key.ensures.location c.index_mut.ensures.value)
    c.flush.ensures.flushed (timed_flush (Codes c.args.kind))

-- the client's queue lost what the query of the kind tells, and the others stay
pub returns : goal.returns
returns c =
    let on =
    call_on c.self.invariant c.deref.ensures.value c.key_of-key.ensures.location c.index_mut.ensures.value in
    record {
      flushed =
          rw (← c.self.view_is)
          (list_after_call on c.flush.ensures.flushed (timed_flush (Codes c.args.kind)));
      rings =
          rw (← c.self.view_is)
          (flushed_after_call on c.flush.ensures.flushed (timed_flush (Codes c.args.kind))
          (Codes c.args.kind) c.flush.ensures.left);
    }

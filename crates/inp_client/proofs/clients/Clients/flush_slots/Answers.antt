use Rattle.inp_model.specs.Step.{Slots}
use Rattle.inp_client.proofs.OneClient.{call_open, call_held, kept_after_call, list_after_call}
use Rattle.inp_client.proofs.OneClient.{flushed_after_call, timed_flush, call_on}
use Rattle.inp_client.proofs.clients.Clients.flush_slots.Goals as goal

-- a client that is open by the view is open by what is kept
pub key_of-key-requires-clause-open : goal.key_of-key-requires-clause-open
key_of-key-requires-clause-open c =
    rw c.deref.ensures.value (call_open c.self.inside _ _ c.self.view_is c.requires.«open»)

-- each cell of the client's ring has that ring as a holder
pub flush_slots-requires : goal.flush_slots-requires
flush_slots-requires c =
    record {
      held =
          call_held
          (call_on c.self.invariant c.deref.ensures.value c.key_of-key.ensures.location
          c.index_mut.ensures.value);
    }

-- one ring alone changed, and each cell that left it lost a holder
pub invariant_of-self : goal.invariant_of-self
invariant_of-self c =
    kept_after_call
    (call_on c.self.invariant c.deref.ensures.value c.key_of-key.ensures.location c.index_mut.ensures.value)
    c.flush_slots.ensures.flushed (timed_flush Slots)

-- the client's queue lost what the query of slots tells, and the others stay
pub returns : goal.returns
returns c =
    let on =
    call_on c.self.invariant c.deref.ensures.value c.key_of-key.ensures.location c.index_mut.ensures.value in
    record {
      flushed = rw (← c.self.view_is) (list_after_call on c.flush_slots.ensures.flushed (timed_flush Slots));
      rings =
          rw (← c.self.view_is)
          (flushed_after_call on c.flush_slots.ensures.flushed
          (timed_flush Slots) Slots c.flush_slots.ensures.left);
    }

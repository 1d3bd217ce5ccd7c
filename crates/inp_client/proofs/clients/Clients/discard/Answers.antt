use Rattle.std.proofs.Common.{drop}
use Rattle.inp_client.proofs.OneClient.{call_open, call_held, call_events, kept_after_call, list_after_call}
use Rattle.inp_client.proofs.OneClient.{ring_after_call, timed_take, call_on}
use Rattle.inp_client.proofs.clients.Clients.discard.Goals as goal

-- a client that is open by the view is open by what is kept
pub key_of-key-requires-clause-open : goal.key_of-key-requires-clause-open
key_of-key-requires-clause-open c =
    rw c.deref.ensures.value (call_open c.self.inside _ _ c.self.view_is c.requires.«open»)

pub discard-requires : goal.discard-requires
discard-requires c =
    record {
      held =
          call_held
          (call_on c.self.invariant c.deref.ensures.value c.key_of-key.ensures.location
          c.index_mut.ensures.value);
    }

-- one ring alone changed, and each cell that left it lost a holder
pub invariant_of-self : goal.invariant_of-self
invariant_of-self c =
    kept_after_call
    (call_on c.self.invariant c.deref.ensures.value c.key_of-key.ensures.location c.index_mut.ensures.value)
    c.discard.ensures.rest (timed_take c.discard.result)

-- the client's queue lost its first events, and the others stay
pub returns-clause-rest : goal.returns-clause-rest
returns-clause-rest c =
    rw (← c.self.view_is)
    (list_after_call
    (call_on c.self.invariant c.deref.ensures.value c.key_of-key.ensures.location c.index_mut.ensures.value)
    c.discard.ensures.rest (timed_take c.discard.result))

-- as many events went as could be seen of the client's queue
pub returns-clause-count : goal.returns-clause-count
returns-clause-count c =
    rw (
      ← c.self.view_is,
      call_events
          (call_on c.self.invariant c.deref.ensures.value c.key_of-key.ensures.location
          c.index_mut.ensures.value),
    )
    c.discard.ensures.count

-- the client's ring lost its first numbers, and the other rings stay
pub returns-clause-rings : goal.returns-clause-rings
returns-clause-rings c =
    rw (← c.self.view_is)
    (ring_after_call
    (call_on c.self.invariant c.deref.ensures.value c.key_of-key.ensures.location c.index_mut.ensures.value)
    c.discard.ensures.rest (timed_take c.discard.result) (drop c.discard.result) c.discard.ensures.left)

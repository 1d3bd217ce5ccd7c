use Rattle.std.proofs.Common.{drop}
use Rattle.std.proofs.Common.{map}
use Rattle.std.proofs.lemmas.List.{take-map}
use Rattle.inp_model.specs.Description.{offset}
use Rattle.inp_ring.specs.Store.{cell_taken}
use Rattle.inp_ring.specs.Ring.{cell_at}
use Rattle.inp_client.proofs.OneClient.{call_open, call_held, call_timed, call_events, call_read}
use Rattle.inp_client.proofs.OneClient.{kept_after_call, list_after_call, ring_after_call, timed_take}
use Rattle.inp_client.proofs.OneClient.{call_on}
use Rattle.inp_client.proofs.clients.Clients.take.Goals as goal

-- a client that is open by the view is open by what is kept
pub key_of-key-requires-clause-open : goal.key_of-key-requires-clause-open
key_of-key-requires-clause-open c =
    rw c.deref.ensures.value (call_open c.self.inside _ _ c.self.view_is c.requires.«open»)

pub take-requires-clause-moments : goal.take-requires-clause-moments
take-requires-clause-moments c =
    call_timed
    (call_on c.self.invariant c.deref.ensures.value c.key_of-key.ensures.location c.index_mut.ensures.value)

pub take-requires-clause-held : goal.take-requires-clause-held
take-requires-clause-held c =
    call_held
    (call_on c.self.invariant c.deref.ensures.value c.key_of-key.ensures.location c.index_mut.ensures.value)

-- one ring alone changed, and each cell that left it lost a holder
pub invariant_of-self : goal.invariant_of-self
invariant_of-self c =
    kept_after_call
    (call_on c.self.invariant c.deref.ensures.value c.key_of-key.ensures.location c.index_mut.ensures.value)
    c.take.ensures.rest (timed_take c.take.result)

-- the client's queue lost the events that were read, and the others stay
pub returns-clause-rest : goal.returns-clause-rest
returns-clause-rest c =
    rw (← c.self.view_is)
    (list_after_call
    (call_on c.self.invariant c.deref.ensures.value c.key_of-key.ensures.location c.index_mut.ensures.value)
    c.take.ensures.rest (timed_take c.take.result))

-- as many events are read as can be seen, up to the count
pub returns-clause-count : goal.returns-clause-count
returns-clause-count c =
    rw (
      ← c.self.view_is,
      call_events
          (call_on c.self.invariant c.deref.ensures.value c.key_of-key.ensures.location
          c.index_mut.ensures.value),
    )
    c.take.ensures.count

-- the first cells of the client's ring are written as it reads them on its clock
pub returns-clause-taken : goal.returns-clause-taken
returns-clause-taken c =
    rw (
      ← c.self.view_is,
      call_read
          (call_on c.self.invariant c.deref.ensures.value c.key_of-key.ensures.location
          c.index_mut.ensures.value)
          c.args.caps.now,
      c.take.ensures.taken,
      ← take-map (cell_taken (offset c.args.caps.now c.index_mut.result.now.clock)) c.take.result
          (map (cell_at c.self.inside.store) c.index_mut.result.now.ring.events),
    )

-- the client's ring lost its first numbers, and the other rings stay
pub returns-clause-rings : goal.returns-clause-rings
returns-clause-rings c =
    rw (← c.self.view_is)
    (ring_after_call
    (call_on c.self.invariant c.deref.ensures.value c.key_of-key.ensures.location c.index_mut.ensures.value)
    c.take.ensures.rest (timed_take c.take.result) (drop c.take.result) c.take.ensures.left)

use Rattle.inp_client.proofs.OneClient.{call_open, call_held, call_events, call_on}
use Rattle.inp_client.proofs.clients.Clients.visible.Goals as goal

-- a client that is open by the view is open by what is kept
pub key_of-key-requires-clause-open : goal.key_of-key-requires-clause-open
key_of-key-requires-clause-open c =
    rw c.deref.ensures.value (call_open c.self.inside _ _ c.self.view_is c.requires.«open»)

-- each cell of the client's ring has that ring as a holder
pub visible-requires : goal.visible-requires
visible-requires c =
    record {
      held =
          call_held
          (call_on c.self.invariant c.deref.ensures.value c.key_of-key.ensures.location c.index.ensures);
    }

-- the client under the key has the number, so the queue is its own
pub returns : goal.returns
returns c =
    record {
      visible =
          rw (
            ← c.self.view_is,
            call_events
                (call_on c.self.invariant c.deref.ensures.value c.key_of-key.ensures.location
                c.index.ensures),
          )
          c.visible.ensures.visible;
    }

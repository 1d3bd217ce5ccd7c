use Rattle.inp_client.proofs.OneClient.{call_open, call_revoked, call_on}
use Rattle.inp_client.proofs.clients.Clients.is_revoked.Goals as goal

-- a client that is open by the view is open by what is kept
pub key_of-key-requires-clause-open : goal.key_of-key-requires-clause-open
key_of-key-requires-clause-open c =
    rw c.deref.ensures.value (call_open c.self.inside _ _ c.self.view_is c.requires.«open»)

-- the client under the key has the number, so it is the one that was revoked or not
pub returns : goal.returns
returns c =
    record {
      revoked =
          rw (
            ← c.self.view_is,
            call_revoked
                (call_on c.self.invariant c.deref.ensures.value c.key_of-key.ensures.location
                c.index.ensures),
          )
          c.is_revoked.ensures.revoked;
    }

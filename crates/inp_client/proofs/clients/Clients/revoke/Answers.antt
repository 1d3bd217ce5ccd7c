use Rattle.inp_client.proofs.OneClient.{call_open, kept_after_call, list_after_call, rings_after_call}
use Rattle.inp_client.proofs.OneClient.{written_revoke, call_on}
use Rattle.inp_client.proofs.clients.Clients.revoke.Goals as goal

-- a client that is open by the view is open by what is kept
pub key_of-key-requires-clause-open : goal.key_of-key-requires-clause-open
key_of-key-requires-clause-open c =
    rw c.deref.ensures.value (call_open c.self.inside _ _ c.self.view_is c.requires.«open»)

-- one client alone changed, and its ring and the store stay
pub invariant_of-self : goal.invariant_of-self
invariant_of-self c =
    let w =
    written_revoke c.self.inside.store c.index_mut.result.now c.revoke.new.self c.revoke.ensures.revoked in
    kept_after_call
    (call_on c.self.invariant c.deref.ensures.value c.key_of-key.ensures.location c.index_mut.ensures.value)
    w (λ _ fit. fit)

-- the client is revoked, and all rings stay
pub returns : goal.returns
returns c =
    let on =
    call_on c.self.invariant c.deref.ensures.value c.key_of-key.ensures.location c.index_mut.ensures.value in
    let w =
    written_revoke c.self.inside.store c.index_mut.result.now c.revoke.new.self c.revoke.ensures.revoked in
    record {
      revoked = rw (← c.self.view_is) (list_after_call on w (λ _ fit. fit));
      numbers = rw (← c.self.view_is) (rings_after_call on w (λ _ fit. fit) (rw c.revoke.ensures.revoked));
    }

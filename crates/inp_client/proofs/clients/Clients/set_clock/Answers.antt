use Rattle.inp_client.proofs.OneClient.{call_open, call_held, call_spare, kept_after_call, list_after_call}
use Rattle.inp_client.proofs.OneClient.{clock_after_call, stored_on_clock, timed_clock, call_on}
use Rattle.inp_client.proofs.clients.Clients.set_clock.Goals as goal

-- a client that is open by the view is open by what is kept
pub key_of-key-requires-clause-open : goal.key_of-key-requires-clause-open
key_of-key-requires-clause-open c =
    rw c.deref.ensures.value (call_open c.self.inside _ _ c.self.view_is c.requires.«open»)

pub set_clock-requires-clause-room : goal.set_clock-requires-clause-room
set_clock-requires-clause-room c =
    call_spare
    (call_on c.self.invariant c.deref.ensures.value c.key_of-key.ensures.location c.index_mut.ensures.value)

pub set_clock-requires-clause-held : goal.set_clock-requires-clause-held
set_clock-requires-clause-held c =
    call_held
    (call_on c.self.invariant c.deref.ensures.value c.key_of-key.ensures.location c.index_mut.ensures.value)

-- one client alone changed, and the store has what its ring has now
pub invariant_of-self : goal.invariant_of-self
invariant_of-self c =
    kept_after_call
    (call_on c.self.invariant c.deref.ensures.value c.key_of-key.ensures.location c.index_mut.ensures.value)
    c.set_clock.ensures.set (timed_clock c.args.clock c.args.now c.args.place c.requires.moment)

-- the client has the clock, and a number is new only where it lost its queue
pub returns : goal.returns
returns c =
    let on =
    call_on c.self.invariant c.deref.ensures.value c.key_of-key.ensures.location c.index_mut.ensures.value in
    let fit = timed_clock c.args.clock c.args.now c.args.place c.requires.moment in
    record {
      set = rw (← c.self.view_is) (list_after_call on c.set_clock.ensures.set fit);
      once =
          rw (← c.self.view_is)
          (clock_after_call on c.set_clock.ensures.set fit c.args.clock c.set_clock.ensures.stored);
      stored =
          rw (← c.self.view_is)
          (stored_on_clock on c.set_clock.ensures.set fit c.args.clock c.set_clock.ensures.stored);
    }

use Rattle.inp_client.proofs.Offers.{IsOfferedTo}
use Rattle.inp_client.proofs.frame.offer_events.Given as goal

abbrev pub invariant-loop-event : goal.invariant-loop-event
invariant-loop-event l =
    IsOfferedTo l.frame l.locations l.initial.slab l.slab l.initial.store l.store l.event-index

use Rattle.inp_client.specs.Offered.{IsEnteredTo}
use Rattle.inp_client.proofs.frame.enter_each.Given as goal

abbrev pub invariant-loop-location : goal.invariant-loop-location
invariant-loop-location l =
    IsEnteredTo l.location-index l.cell l.holder l.number l.locations l.initial.slab l.slab l.initial.store
    l.store l.taken

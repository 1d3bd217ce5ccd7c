use Rattle.inp_client.proofs.Runs.{IsAppendedTo}
use Rattle.inp_client.proofs.frame.append_each.Given as goal

abbrev pub invariant-loop-location : goal.invariant-loop-location
invariant-loop-location l = IsAppendedTo l.location-index l.holder l.numbers l.locations l.initial.slab l.slab

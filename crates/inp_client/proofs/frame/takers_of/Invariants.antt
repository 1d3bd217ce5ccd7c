use Rattle.std.proofs.Common.{◌≡◌, ◌≤◌, take}
use Rattle.std.specs.Prelude.{All}
use Rattle.inp_client.specs.Locations.{clients_in}
use Rattle.inp_client.specs.Offered.{TakesFrame, takers_in}
use Rattle.inp_client.proofs.frame.takers_of.Given as goal

abbrev pub invariant-loop-location : goal.invariant-loop-location
invariant-loop-location l =
    (l.takers ≡ takers_in l.holder (take l.location-index (clients_in l.locations l.slab)))
    × ((l.takers ≤ l.location-index)
    × All (TakesFrame l.holder l.count) (take l.location-index (clients_in l.locations l.slab)))

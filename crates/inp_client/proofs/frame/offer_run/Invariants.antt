use Rattle.std.proofs.Common.{◌≡◌, ◌+◌, length, map, take}
use Rattle.inp_client.specs.Client.{cell_of_event}
use Rattle.inp_client.proofs.Runs.{AreAdded}
use Rattle.inp_client.proofs.frame.offer_run.Given as goal

abbrev pub invariant-loop-at : goal.invariant-loop-at
invariant-loop-at g l =
    AreAdded l.initial.store l.store
    (map (cell_of_event l.frame.moment l.frame.place) (take l.at l.frame.events.now)) l.takers
    (take l.at l.numbers)
    × (l.store.spare + l.at ≡ l.initial.store.spare) × (length l.numbers ≡ g.row.N)

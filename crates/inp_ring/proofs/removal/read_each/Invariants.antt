use Rattle.std.proofs.Common.{◌≡◌, ◌+◌, ◌++◌, map, take, drop}
use Rattle.inp_ring.specs.Store.{cell_taken}
use Rattle.inp_ring.specs.Ring.{queue_in}
use Rattle.inp_ring.proofs.Releases.{IsLetGo}
use Rattle.inp_ring.proofs.removal.read_each.Given as goal

abbrev pub invariant-loop-at : goal.invariant-loop-at
invariant-loop-at l =
    IsLetGo l.initial.store l.numbers l.store l.at
    × (l.out
    ≡ (take l.from l.initial.out ++ map (cell_taken l.offset)
    (take l.at (queue_in l.initial.store l.numbers))) ++ drop (l.from + l.at) l.initial.out)

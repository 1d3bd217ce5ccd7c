use Rattle.std.proofs.Common.{◌≡◌, ◌≤◌, length, take}
use Rattle.inp_model.specs.Queue.{visible}
use Rattle.inp_ring.specs.Store.{event_of_cell}
use Rattle.inp_ring.specs.Ring.{queue_in}
use Rattle.inp_ring.proofs.ring.Ring.visible.Given as goal

abbrev pub invariant-loop-count : goal.invariant-loop-count
invariant-loop-count l =
    (l.count ≤ length l.self.numbers)
    × (visible event_of_cell (queue_in l.store l.self.numbers)
    ≡ visible event_of_cell (take l.count (queue_in l.store l.self.numbers)))

abbrev pub decreases-loop-count : goal.decreases-loop-count
decreases-loop-count l = l.count

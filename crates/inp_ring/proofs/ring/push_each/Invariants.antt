use Rattle.std.proofs.Common.{◌≡◌, ◌++◌, take}
use Rattle.circular_buffer.specs.Buffer.{buffer}
use Rattle.inp_ring.proofs.ring.push_each.Given as goal

abbrev pub invariant-loop-number : goal.invariant-loop-number
invariant-loop-number l =
    l.held ≡ buffer (l.initial.held.items ++ take l.number-index l.numbers) l.initial.held.capacity

use Rattle.inp_ring.proofs.Rings.{ring_rest, queue_rest}
use Rattle.inp_ring.proofs.ring.Ring.take.Goals as goal

pub invariant_of-self : goal.invariant_of-self
invariant_of-self c =
    ring_rest c.self.inside.numbers _ c.min-taken.result c.self.invariant c.read_front.ensures.rest

pub returns-clause-left : goal.returns-clause-left
returns-clause-left c =
    rw (← c.self.view_is)
    (queue_rest c.args.store.now c.read_front.new.store c.self.inside.numbers.items
    c.read_front.new.numbers.items c.min-taken.result
    (rw c.read_front.ensures.rest) c.read_front.ensures.moved)

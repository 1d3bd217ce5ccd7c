use Rattle.inp_ring.proofs.Rings.{ring_rest, queue_rest}
use Rattle.inp_ring.proofs.ring.Ring.discard.Goals as goal

pub invariant_of-self : goal.invariant_of-self
invariant_of-self c =
    ring_rest c.self.inside.numbers _ c.visible-removed.result c.self.invariant c.release_front.ensures.rest

pub returns-clause-left : goal.returns-clause-left
returns-clause-left c =
    rw (← c.self.view_is)
    (queue_rest c.args.store.now c.release_front.new.store c.self.inside.numbers.items
    c.release_front.new.numbers.items c.visible-removed.result
    (rw c.release_front.ensures.rest) c.release_front.ensures.moved)

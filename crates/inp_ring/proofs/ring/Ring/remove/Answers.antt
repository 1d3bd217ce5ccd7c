use Rattle.inp_model.specs.Step.{is_part_of}
use Rattle.inp_ring.specs.Class.{query_of_class}
use Rattle.inp_ring.proofs.Rings.{ring_flush, queue_flush}
use Rattle.inp_ring.proofs.Walks.{event_at}
use Rattle.inp_ring.proofs.ring.Ring.remove.Goals as goal

pub invariant_of-self : goal.invariant_of-self
invariant_of-self c =
    ring_flush c.self.inside.numbers _ (event_at c.args.store.now)
    (is_part_of (query_of_class c.args.class)) c.self.invariant c.remove_class.ensures.rest

pub returns-clause-removed : goal.returns-clause-removed
returns-clause-removed c =
    rw (← c.self.view_is)
    (queue_flush c.args.store.now c.remove_class.new.store c.self.inside.numbers.items
    c.remove_class.new.numbers.items (is_part_of (query_of_class c.args.class))
    (rw c.remove_class.ensures.rest) c.remove_class.ensures.moved)

pub returns-clause-stay : goal.returns-clause-stay
returns-clause-stay c = rw (← c.self.view_is, c.remove_class.ensures.rest)

use Rattle.inp_ring.proofs.Rings.{ring_push_all}
use Rattle.inp_ring.proofs.ring.Ring.append_all.Goals as goal

pub invariant_of-self : goal.invariant_of-self
invariant_of-self c =
    ring_push_all c.self.inside.numbers _ c.args.numbers.now c.fill_from_slice.result c.self.invariant
    (rw (← c.self.view_is) at c.requires.room)
    (rw (← c.self.view_is) at c.requires.different) c.fill_from_slice.ensures.count
    c.fill_from_slice.ensures.items

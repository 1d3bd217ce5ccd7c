use Rattle.inp_ring.proofs.Rings.{ring_push}
use Rattle.inp_ring.proofs.ring.Ring.append.Goals as goal

pub invariant_of-self : goal.invariant_of-self
invariant_of-self c =
    ring_push c.self.inside.numbers _ c.args.number c.self.invariant
    (rw (← c.self.view_is) at c.requires.room)
    (rw (← c.self.view_is) at c.requires.absent) c.push_back.ensures.items

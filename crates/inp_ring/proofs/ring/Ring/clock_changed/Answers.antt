use Rattle.inp_ring.proofs.Rings.{ring_one}
use Rattle.inp_ring.proofs.ring.Ring.clock_changed.Goals as goal

pub invariant_of-self : goal.invariant_of-self
invariant_of-self c =
    ring_one c.self.inside.numbers _ c.self.invariant c.replace_all.ensures.one c.replace_all.ensures.capacity

use Rattle.inp_ring.proofs.Moves.{entry_same}
use Rattle.std.proofs.Common.{Bool, inr, subst}
use Rattle.std.specs.Bool.{OnFalse}
use Rattle.inp_ring.specs.Ring.{HoldsAllButOne}
use Rattle.inp_ring.proofs.Rings.{ring_one, lost_all}
use Rattle.inp_ring.proofs.ring.Ring.make_room.Goals as goal

pub invariant_of-self : goal.invariant_of-self
invariant_of-self c =
    ring_one c.self.inside.numbers _ c.self.invariant c.replace_all.ensures.one c.replace_all.ensures.capacity

pub returns-clause-absent : goal.returns-clause-absent
returns-clause-absent c =
    c.replace_all.ensures.fresh c.args.number c.requires.there (rw (← c.self.view_is) at c.requires.absent)

pub returns-clause-same : goal.returns-clause-same
returns-clause-same c =
    let absent = rw (← c.self.view_is) at c.requires.absent in
    entry_same c.args.number c.replace_all.ensures.moved c.requires.there absent
    (c.replace_all.ensures.fresh c.args.number c.requires.there absent)

pub returns-clause-lost : goal.returns-clause-lost
returns-clause-lost c =
    let P : Bool → Type 0 = λ b. OnFalse b (HoldsAllButOne c.args.self.now) in
    inr (lost_all c.replace_all.new.store c.args.self.now _
    (subst P c.if-has_room.false c.has_room.ensures.full) c.replace_all.ensures.one
    c.replace_all.ensures.alone)

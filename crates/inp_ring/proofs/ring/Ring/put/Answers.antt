use Rattle.std.proofs.Common.{Bool, inl, inr, arith, subst}
use Rattle.inp_ring.specs.Ring.{IsPutAtEnd}
use Rattle.inp_ring.proofs.Moves.{moved_hold}
use Rattle.inp_ring.proofs.Rings.{lost_hold}
use Rattle.inp_ring.proofs.ring.Ring.put.Goals as goal

pub returns-then-enter-clause-moved : goal.returns-then-enter-clause-moved
returns-then-enter-clause-moved c =
    let P : Bool → Type 0 =
    λ b. IsPutAtEnd c.args.store.now c.enter.new.store c.args.self.now.numbers c.enter.new.self.numbers
    c.args.number b in
    let entered = subst P c.if-enter.true c.enter.ensures.entered in
    moved_hold c.args.number entered c.requires.absent (rw entered.same c.requires.there) c.hold.ensures.held
    (omega (arith, c.hold.ensures.spare, c.hold.ensures.count))

pub returns-then-enter-clause-lost : goal.returns-then-enter-clause-lost
returns-then-enter-clause-lost c =
    let P : Bool → Type 0 =
    λ b. IsPutAtEnd c.args.store.now c.enter.new.store c.args.self.now.numbers c.enter.new.self.numbers
    c.args.number b in
    let entered = subst P c.if-enter.true c.enter.ensures.entered in
    elim c.enter.ensures.lost [
      | inl alone ↦ inl alone
      | inr lost ↦ inr
          (lost_hold c.args.number c.args.self.now c.enter.new.self _ entered c.requires.absent
          c.hold.ensures.held lost)
    ]

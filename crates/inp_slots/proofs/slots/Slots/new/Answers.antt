use Rattle.inp_slots.proofs.Fresh.{SlotsStandFor-fresh}
use Rattle.inp_slots.proofs.slots.Slots.new.Goals as goal

pub returns-clause-fresh : goal.returns-clause-fresh
returns-clause-fresh c =
    λ d q. SlotsStandFor-fresh d c.args.count c.in_ok-slots.slots.items
    (rw (c.in_ok-slots.ensures.items_if_clones_equal (λ y p. p), c.no_contact.ensures)) q

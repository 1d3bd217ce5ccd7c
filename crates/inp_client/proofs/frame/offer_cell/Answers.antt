use Rattle.std.proofs.Common.{arith}
use Rattle.inp_client.proofs.OfferedCells.{event_offered}
use Rattle.inp_client.proofs.Offers.{shared_spare, in_none, stored_add, cells_add, shared_free, cells_free}
use Rattle.inp_client.proofs.Offers.{shared_hold, cells_hold}
use Rattle.inp_client.proofs.frame.offer_cell.Goals as goal

pub add-number-requires : goal.add-number-requires
add-number-requires c = record { room = shared_spare c.requires.before c.requires.some }

pub enter_each-taken-requires-clause-stored : goal.enter_each-taken-requires-clause-stored
enter_each-taken-requires-clause-stored c =
    stored_add c.requires.before c.add-number.ensures.new c.add-number.ensures.added
    (omega (arith, c.add-number.ensures.spare, c.add-number.ensures.count))

pub returns-then-taken-eq0 : goal.returns-then-taken-eq0
returns-then-taken-eq0 c =
    event_offered c.enter_each-taken.ensures.entered (omega arith) c.args.store.now c.free.new.self
    (cells_add c.requires.before c.add-number.ensures.new c.add-number.ensures.added)
    (cells_free c.enter_each-taken.ensures.entered c.free.ensures.freed (omega arith))
    (in_none c.requires.before c.add-number.ensures.new c.add-number.ensures.added)
    (shared_free c.enter_each-taken.ensures.entered c.free.ensures.freed (omega arith)
    (omega (arith, c.free.ensures.spare, c.free.ensures.count)))

-- some clients took the cell, so it has as many holders
pub returns : goal.returns
returns c =
    event_offered c.enter_each-taken.ensures.entered (omega arith) c.args.store.now c.hold_many.new.self
    (cells_add c.requires.before c.add-number.ensures.new c.add-number.ensures.added)
    (cells_hold c.enter_each-taken.ensures.entered c.hold_many.ensures.held (omega arith))
    (in_none c.requires.before c.add-number.ensures.new c.add-number.ensures.added)
    (shared_hold c.enter_each-taken.ensures.entered c.hold_many.ensures.held (omega arith)
    (omega (arith, c.hold_many.ensures.spare, c.hold_many.ensures.count)))

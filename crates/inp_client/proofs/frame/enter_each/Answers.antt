use Rattle.std.proofs.Common.{◌∙◌}
use Rattle.inp_client.proofs.Locations.{is_at}
use Rattle.inp_client.proofs.OfferedCells.{entered_none, enter_absent, enter_spare, enter_held, entered_more}
use Rattle.inp_client.proofs.OfferedCells.{flag_counts}
use Rattle.inp_client.proofs.frame.enter_each.Goals as goal

-- before the first client nobody took the cell
pub loop-location-init : goal.loop-location-init
loop-location-init c =
    entered_none c.args.cell c.args.holder c.args.number c.args.locations.now c.args.slab.now c.args.store.now
    c.requires.located c.requires.stored c.requires.only c.requires.cell

pub enter-requires-clause-absent : goal.enter-requires-clause-absent
enter-requires-clause-absent c =
    enter_absent c.loop-location.invariant (is_at _ _ _ _ c.loop-location-test.true c.index_mut.ensures.value)

-- each other cell is in some ring, so there is one to spare for a SYN_DROPPED
pub enter-requires-clause-room : goal.enter-requires-clause-room
enter-requires-clause-room c = enter_spare c.loop-location.invariant c.loop-location-test.true

pub enter-requires-clause-held : goal.enter-requires-clause-held
enter-requires-clause-held c =
    enter_held c.loop-location.invariant (is_at _ _ _ _ c.loop-location-test.true c.index_mut.ensures.value)

-- the next client was offered the event, and is counted if it took it
pub loop-location-preserved : goal.loop-location-preserved
loop-location-preserved c =
    rw (c.from-taken.ensures ∙ flag_counts c.enter.result)
    (entered_more c.loop-location.invariant
    (is_at _ _ _ _ c.loop-location-test.true c.index_mut.ensures.value) c.enter.ensures.entered
    c.enter.ensures.number c.enter.ensures.places c.enter.ensures.sound c.enter.ensures.stored
    c.enter.ensures.offered c.requires.moment)

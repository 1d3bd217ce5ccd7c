use Rattle.std.proofs.Common.{◌++◌, length, arith}
use Rattle.std.proofs.lemmas.List.Elements.{All-get_or}
use Rattle.inp_ring.specs.Ring.{AreDifferent}
use Rattle.inp_client.specs.Client.{new_client}
use Rattle.inp_client.specs.Member.{Member}
use Rattle.inp_client.specs.Locations.{clients_in}
use Rattle.inp_client.specs.Offered.{TakesFrame}
use Rattle.inp_client.proofs.Locations.{members_long, is_at}
use Rattle.inp_client.proofs.Runs.{appended_none, appended_more, appended_all, old_is, same_number}
use Rattle.inp_client.proofs.frame.append_each.Goals as goal

-- before the first client all are as they were
pub loop-location-init : goal.loop-location-init
loop-location-init c =
    appended_none c.args.holder c.args.numbers.now c.args.locations.now c.args.slab.now c.requires.located

pub append_all-requires-clause-room : goal.append_all-requires-clause-room
append_all-requires-clause-room c h =
    let ms = clients_in c.args.locations.now c.args.slab.now in
    let P : Member → Type 0 = TakesFrame c.args.holder (length c.args.numbers.now) in
    (rw (old_is c.loop-location.invariant
    (is_at _ _ _ _ c.loop-location-test.true c.index_mut.ensures.value)) at
    (All-get_or P ms c.loop-location.location-index (new_client 0 0)
    (omega (arith, c.loop-location-test.true, members_long c.requires.located)) c.requires.room) h).1

pub append_all-requires-clause-different : goal.append_all-requires-clause-different
append_all-requires-clause-different c =
    let ms = clients_in c.args.locations.now c.args.slab.now in
    let P : Member → Type 0 = λ m. AreDifferent (m.ring.events ++ c.args.numbers.now) in
    rw (old_is c.loop-location.invariant
    (is_at _ _ _ _ c.loop-location-test.true c.index_mut.ensures.value)) at
    (All-get_or P ms c.loop-location.location-index (new_client 0 0)
    (omega (arith, c.loop-location-test.true, members_long c.requires.located)) c.requires.different)

-- the next client has the numbers if it is offered the frame, and the others stay
pub loop-location-preserved : goal.loop-location-preserved
loop-location-preserved c =
    appended_more c.loop-location.invariant
    (is_at _ _ _ _ c.loop-location-test.true c.index_mut.ensures.value) c.append_all.ensures.appended
    (rw c.append_all.ensures.appended (same_number c.args.holder c.args.numbers.now c.index_mut.result.now))

pub returns-clause-members : goal.returns-clause-members
returns-clause-members c = appended_all c.loop-location.invariant c.loop-location-test.false

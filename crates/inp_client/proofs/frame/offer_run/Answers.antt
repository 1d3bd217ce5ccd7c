use Rattle.std.proofs.Common.{◌++◌, pos, length, take, length-set, ◌∙◌, arith}
use Rattle.std.proofs.lemmas.List.{map_more, take_more_set, length-take-le, length-replicate}
use Rattle.std.proofs.lemmas.List.Elements.{All-from_get_or}
use Rattle.inp_model.specs.declared.event.Event.{Event}
use Rattle.inp_ring.specs.Ring.{AreDifferent}
use Rattle.inp_client.specs.Client.{new_client, cell_of_event}
use Rattle.inp_client.specs.Member.{Member}
use Rattle.inp_client.specs.Locations.{clients_in}
use Rattle.inp_client.proofs.Runs.{added_none, added_more, added_all, different_with, offered_with}
use Rattle.inp_client.proofs.frame.offer_run.Goals as goal

-- before the first event the store is as it was
pub loop-at-init : goal.loop-at-init
loop-at-init g c = (added_none c.args.store.now c.args.takers, omega arith, length-replicate g.row.N 0)

-- the next event has a cell under a new number, behind those before it
pub loop-at-preserved : goal.loop-at-preserved
loop-at-preserved g c =
    let f = c.args.frame.now in
    let x = c.add_held_by.result in
    let none : Event = record { kind = 0; code = 0; value = pos 0 } in (
      rw (
        map_more (cell_of_event f.moment f.place) f.events.now c.loop-at.at none c.loop-at-test.true,
        take_more_set c.loop-at.numbers c.loop-at.at x
            (omega (arith, c.requires.short, c.loop-at.invariant.2)),
      )
          (added_more c.loop-at.invariant.0 c.requires.run.some x _ c.add_held_by.new.self
          c.add_held_by.ensures.new c.add_held_by.ensures.added
          (omega (arith, c.add_held_by.ensures.count, c.add_held_by.ensures.spare))),
      omega (arith, c.add_held_by.ensures.spare, c.loop-at.invariant.1),
      length-set c.loop-at.numbers c.loop-at.at x ∙ c.loop-at.invariant.2,
    )

pub append_each-requires-clause-room : goal.append_each-requires-clause-room
append_each-requires-clause-room g c =
    rw (length-take-le (length c.args.frame.now.events.now) c.loop-at.numbers
    (omega (arith, c.requires.short, c.loop-at.invariant.2))) c.requires.run.all

pub append_each-requires-clause-different : goal.append_each-requires-clause-different
append_each-requires-clause-different g c =
    All-from_get_or (λ (m : Member).
    AreDifferent (m.ring.events ++ take (length c.args.frame.now.events.now) c.loop-at.numbers))
    (clients_in c.args.locations.now c.args.slab.now) (new_client 0 0)
    (λ j in_j. different_with c.requires.before c.requires.run
    (added_all c.args.frame.now c.loop-at.at c.loop-at.numbers (omega arith) c.loop-at.invariant.0) j in_j)

-- there is a number for each event
pub shared_whole_as_front-append_each : goal.shared_whole_as_front-append_each
shared_whole_as_front-append_each g c =
    omega (arith, c.requires.short, c.requires.few, c.loop-at.invariant.2)

-- each event has its cell, and each ring that takes the frame has all their numbers
pub returns : goal.returns
returns g c =
    offered_with c.requires.before c.requires.run
    (added_all c.args.frame.now c.loop-at.at c.loop-at.numbers (omega arith) c.loop-at.invariant.0)
    c.append_each.ensures.located c.append_each.ensures.members c.append_each.ensures.capacity
    c.requires.moment

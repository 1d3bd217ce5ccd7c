use Rattle.std.proofs.Common.{◌≡◌, ◌<◌, length, not, if◌then◌else◌, ap, ◌∙◌, arith}
use Rattle.inp_model.specs.declared.event.Event.{Event}
use Rattle.inp_model.specs.Event.{is_report}
use Rattle.inp_model.specs.Step.{is_part_of}
use Rattle.inp_ring.specs.Class.{query_of_class}
use Rattle.inp_ring.proofs.Walks.{walked_none, walked_within, walked_event, walked_dropped, walked_kept}
use Rattle.inp_ring.proofs.Walks.{walked_number, walked_all, event_at}
use Rattle.inp_ring.proofs.removal.remove_class.Goals as goal

pub loop-init : goal.loop-init
loop-init c = walked_none _ c.args.store.now c.args.numbers.now c.requires.held

pub turn-requires-clause-within : goal.turn-requires-clause-within
turn-requires-clause-within c = walked_within c.loop.invariant (omega arith) c.requires.within

pub loop-preserved-then-not-stays : goal.loop-preserved-then-not-stays
loop-preserved-then-not-stays c =
    let here : c.loop.counter < length c.args.numbers.now.items = omega arith in
    let event : c.first_event-event.result ≡ event_at c.args.store.now (walked_number c.loop.invariant here) =
    c.first_event-event.ensures.event ∙ walked_event c.loop.invariant here in
    let stayed =
    c.stays.ensures
    ∙ ap (λ (e : Event). if is_report e then c.loop.report_stays
    else not (is_part_of (query_of_class c.args.class) e)) event in
    walked_dropped c.loop.invariant here c.release_first.new.store c.release_first.new.numbers c.stays.result
    stayed c.if-not-stays.true c.release_first.ensures.rest c.release_first.ensures.moved

pub loop-preserved : goal.loop-preserved
loop-preserved c =
    let here : c.loop.counter < length c.args.numbers.now.items = omega arith in
    let event : c.first_event-event.result ≡ event_at c.args.store.now (walked_number c.loop.invariant here) =
    c.first_event-event.ensures.event ∙ walked_event c.loop.invariant here in
    let stayed =
    c.stays.ensures
    ∙ ap (λ (e : Event). if is_report e then c.loop.report_stays
    else not (is_part_of (query_of_class c.args.class) e)) event in
    let flag = c.is_report-report_stays.ensures.report ∙ ap is_report event in
    rw flag
    (walked_kept c.loop.invariant here c.turn.new.numbers c.stays.result stayed c.if-not-stays.false
    c.turn.ensures.turned)

pub returns-clause-rest : goal.returns-clause-rest
returns-clause-rest c = walked_all c.loop.invariant (omega arith)

use Rattle.std.proofs.Common.{◌∙◌, List, take, length, length-take, ap, arith}
use Rattle.inp_model.specs.declared.taken.Taken.{Taken}
use Rattle.inp_reader.specs.declared.phase.Phase.TheVariants.{Needed}
use Rattle.inp_reader.specs.Session.{reading_of}
use Rattle.inp_reader.proofs.Runs.{few-queued, front-queued, run-taken}
use Rattle.inp_reader.proofs.session.Session.take_queued.Goals as goal

pub slice_bounds-run-end : goal.slice_bounds-run-end
slice_bounds-run-end c =
    let few = few-queued c.args.count (reading_of c.args.self.now) c.requires.queued in
    omega (arith, few, ap length c.as_slice.ensures, length-take c.args.count c.as_slice.result.now)

pub skip-requires : goal.skip-requires
skip-requires c = record { few = few-queued c.args.count (reading_of c.args.self.now) c.requires.queued }

pub returns-then-is_lost-clause-reading : goal.returns-then-is_lost-clause-reading
returns-then-is_lost-clause-reading c =
    let r = reading_of c.args.self.now in
    let is =
    ap (λ (q : List Taken). take c.args.count q) c.as_slice.ensures
    ∙ front-queued c.args.count r c.requires.queued in
    run-taken c.args.count r (take c.args.count c.as_slice.result.now) c.skip.new.self c.take_events.new.self
    c.ends_with_loss-is_lost.result Needed c.requires.queued is c.skip.ensures c.take_events.ensures.view
    (c.ends_with_loss-is_lost.ensures.lost c.args.count r is) (rw c.if-is_lost.true)

pub returns-else-is_lost-clause-reading : goal.returns-else-is_lost-clause-reading
returns-else-is_lost-clause-reading c =
    let r = reading_of c.args.self.now in
    let is =
    ap (λ (q : List Taken). take c.args.count q) c.as_slice.ensures
    ∙ front-queued c.args.count r c.requires.queued in
    run-taken c.args.count r (take c.args.count c.as_slice.result.now) c.skip.new.self c.take_events.new.self
    c.ends_with_loss-is_lost.result r.phase c.requires.queued is c.skip.ensures c.take_events.ensures.view
    (c.ends_with_loss-is_lost.ensures.lost c.args.count r is) (rw c.if-is_lost.false)

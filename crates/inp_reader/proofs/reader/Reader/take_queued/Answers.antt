use Rattle.std.proofs.Common.{◌∙◌, List, ap, length, reverse, arith}
use Rattle.inp_model.specs.declared.step.Step.{Step}
use Rattle.inp_reader.specs.declared.asker.Asker.{Asker}
use Rattle.inp_reader.proofs.StandsByCalls.{run-shows}
use Rattle.inp_reader.specs.Session.{reading_of}
use Rattle.inp_reader.specs.ReaderPlace.{StandsAt}
use Rattle.inp_reader.proofs.Runs.{keeps-run, stands-run}
use Rattle.inp_reader.proofs.reader.Reader.take_queued.Goals as goal

-- the sizes stay, and the events of the queue are the device's
pub invariant_of-self : goal.invariant_of-self
invariant_of-self c = record {
  view = c.take_queued.ensures.cells ∙ c.self.invariant.view;
  asked = rw c.take_queued.ensures.asker c.self.invariant.asked;
  cells = rw c.take_queued.ensures.asker c.self.invariant.cells;
  few =
      omega (
        arith,
        ap (λ (a : Asker). length a.made) c.take_queued.ensures.asker,
        ap length c.clear.ensures.none,
      );
  room = omega (arith, c.self.invariant.room, c.take_queued.ensures.room);
  slots = c.self.invariant.slots;
  described = c.self.invariant.described;
  spare =
      rw c.take_queued.ensures.reading
      (keeps-run c.self.inside.caps c.args.count (reading_of c.self.inside.session) c.self.invariant.spare);
}

-- no step is made, and the first events of the queue are handed out
pub returns-clause-stands : goal.returns-clause-stands
returns-clause-stands c = λ told stood.
    let past : List Step = reverse told.seen in
    let before : StandsAt c.self.inside.caps past (reading_of c.self.inside.session) =
    rw (← c.self.view_is) at stood in
    rw c.take_queued.ensures.reading
    (stands-run c.self.inside.caps past c.args.count (reading_of c.self.inside.session) before)

-- the last event of the run is the one that was handed out last
pub returns-clause-shows : goal.returns-clause-shows
returns-clause-shows c = λ told stood front last is.
    let past : List Step = reverse told.seen in
    let before : StandsAt c.self.inside.caps past (reading_of c.self.inside.session) =
    rw (← c.self.view_is) at stood in
    rw c.take_queued.ensures.reading
    (run-shows c.self.inside.caps past c.args.count
    (reading_of c.self.inside.session) front last c.self.invariant.described c.self.invariant.spare before
    (rw (← c.self.view_is) at is))

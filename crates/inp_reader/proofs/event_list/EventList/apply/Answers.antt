use Rattle.std.proofs.Common.{◌∙◌, arith, refl}
use Rattle.inp_reader.proofs.SynthesisedEvents.{taken-none, taken-more}
use Rattle.inp_reader.proofs.event_list.EventList.apply.Goals as goal

-- at the first index no event was taken
pub loop-index-init : goal.loop-index-init
loop-index-init c =
    record { taken = taken-none c.args.view.now c.args.self.now.events c.args.first; cells = refl }

-- the next event is taken behind those before it, and the view's size stays
pub loop-index-preserved : goal.loop-index-preserved
loop-index-preserved c = record {
  taken =
      taken-more c.args.view.now c.args.self.now.events c.loop-index.auto.index
      (omega (arith, c.loop-index-test.true, c.requires.within)) c.get.ensures c.loop-index.invariant.taken
      c.take_event.ensures.view;
  cells = c.take_event.ensures.cells ∙ c.loop-index.invariant.cells;
}

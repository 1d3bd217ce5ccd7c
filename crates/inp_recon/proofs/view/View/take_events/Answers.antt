use Rattle.std.proofs.Common.{◌∙◌, refl}
use Rattle.inp_recon.specs.View.{view_after_events}
use Rattle.inp_recon.proofs.Folds.{view_after_events-more}
use Rattle.inp_recon.proofs.view.View.take_events.Goals as goal

pub loop-taken-init : goal.loop-taken-init
unfolding view_after_events
loop-taken-init c = record { view = refl; cells = refl }

pub loop-taken-preserved : goal.loop-taken-preserved
loop-taken-preserved c = record {
  view =
      view_after_events-more c.args.self.now c.loop-taken.self c.take_event.new.self c.args.events.now
      c.loop-taken.taken-index _ c.loop-taken-test.true c.loop-taken.invariant.view c.take_event.ensures.view;
  cells = c.take_event.ensures.cells ∙ c.loop-taken.invariant.cells;
}

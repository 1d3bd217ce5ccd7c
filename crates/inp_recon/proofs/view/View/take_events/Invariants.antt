use Rattle.std.proofs.Common.{◌≡◌, map, take, length}
use Rattle.inp_recon.specs.View.{view_after_events}
use Rattle.inp_recon.proofs.view.View.take_events.Given as goal

abbrev pub invariant-loop-taken : goal.invariant-loop-taken
invariant-loop-taken l = record {
  view : l.self ≡ view_after_events l.initial.self (map (λ t. t.event) (take l.taken-index l.events));
  cells : length l.self.cells ≡ length l.initial.self.cells;
}

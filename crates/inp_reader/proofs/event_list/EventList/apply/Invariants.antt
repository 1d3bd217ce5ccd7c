use Rattle.std.proofs.Common.{◌≡◌, ◌-◌, length, take, drop}
use Rattle.inp_recon.specs.View.{view_after_events}
use Rattle.inp_reader.proofs.event_list.EventList.apply.Given as goal

abbrev pub invariant-loop-index : goal.invariant-loop-index
invariant-loop-index l = record {
  taken : l.view ≡ view_after_events l.initial.view (take (l.index - l.first) (drop l.first l.self.events));
  cells : length l.view.cells ≡ length l.initial.view.cells;
}

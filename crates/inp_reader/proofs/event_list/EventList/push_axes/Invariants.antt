use Rattle.std.proofs.Common.{◌≡◌, ◌++◌, map}
use Rattle.inp_reader.specs.Synthesis.{where_below, axis_event, differs_at}
use Rattle.inp_reader.proofs.event_list.EventList.push_axes.Given as goal

abbrev pub invariant-loop-code : goal.invariant-loop-code
invariant-loop-code l = record {
  pushed : l.self.events ≡ l.initial.self.events
      ++ map (λ code. axis_event l.new code code) (where_below l.code (differs_at l.old l.new));
  room : l.self.room ≡ l.initial.self.room;
}

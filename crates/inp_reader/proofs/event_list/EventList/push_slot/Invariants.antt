use Rattle.std.proofs.Common.{◌≡◌, ◌≤◌, ◌+◌, ◌-◌, ◌++◌, length, map}
use Rattle.inp_reader.specs.Synthesis.{cell_event, cells_differ}
use Rattle.inp_reader.proofs.SynthesisedEvents.{passing}
use Rattle.inp_reader.proofs.event_list.EventList.push_slot.Given as goal

abbrev pub invariant-loop-code : goal.invariant-loop-code
invariant-loop-code l = record {
  pushed : l.self.events ≡ l.initial.self.events
      ++ map (cell_event l.new.cells l.slot)
      (passing 48 (cells_differ l.old.cells l.new.cells l.slot) l.code);
  room : l.self.room ≡ l.initial.self.room;
  few : length l.self.events ≤ length l.initial.self.events + (l.code - 48);
}

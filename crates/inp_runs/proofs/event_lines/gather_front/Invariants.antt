use Rattle.std.proofs.Common.{◌≡◌, length, map, take}
use Rattle.inp_runs.specs.EventLines.{inject_line}
use Rattle.inp_runs.proofs.event_lines.gather_front.Given as goal

abbrev pub invariant-loop-at : goal.invariant-loop-at
invariant-loop-at l = record {
  room : length l.events ≡ length l.initial.events;
  gathered : take l.at l.lines ≡ map (inject_line l.actor) (take l.at l.events);
}

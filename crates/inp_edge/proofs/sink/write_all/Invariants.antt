use Rattle.std.proofs.Common.{length, ◌-◌, ◌≡◌, ◌≤◌, take}
use Rattle.inp_edge.specs.Sink.{Appends}
use Rattle.inp_edge.proofs.sink.write_all.Given as goal

abbrev pub invariant-loop-done : goal.invariant-loop-done
invariant-loop-done g l = record {
  within : l.done ≤ length l.bytes;
  appended : Appends (take l.done l.bytes) (g.O.Sink.written l.fn.out) (g.O.Sink.written l.out);
  faults_stay : g.O.Sink.faults l.out ≡ g.O.Sink.faults l.fn.out;
  no_call : l.done ≡ 0 → l.out ≡ l.fn.out;
}

abbrev pub decreases-loop-done : goal.decreases-loop-done
decreases-loop-done g l = length l.bytes - l.done

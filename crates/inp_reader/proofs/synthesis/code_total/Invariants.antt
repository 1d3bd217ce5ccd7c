use Rattle.std.proofs.Common.{◌≡◌, ◌≤◌}
use Rattle.inp_reader.specs.RoomyEvents.{code_total}
use Rattle.inp_reader.proofs.synthesis.code_total.Given as goal

abbrev pub invariant-loop-code : goal.invariant-loop-code
invariant-loop-code l = record {
  total : l.total ≡ code_total l.caps l.kind l.code;
  few : l.total ≤ l.code;
}

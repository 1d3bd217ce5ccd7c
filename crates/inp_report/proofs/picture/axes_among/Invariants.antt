use Rattle.std.proofs.Common.{◌≡◌, ◌≤◌, ◌-◌, length}
use Rattle.inp_reader.specs.Reader.{axes_among}
use Rattle.inp_report.proofs.picture.axes_among.Given as goal

-- those so far
abbrev pub invariant-loop-code : goal.invariant-loop-code
invariant-loop-code l = record {
  count : l.count ≡ length (axes_among l.caps l.first (l.code - l.first));
  few : l.count ≤ l.code - l.first;
}

use Rattle.std.proofs.Common.{◌≡◌, ◌-◌, false}
use Rattle.std.specs.List.{range_with_len, list_any}
use Rattle.inp_reader.specs.Synthesis.{cells_differ}
use Rattle.inp_reader.proofs.changes.is_changed.Given as goal

abbrev pub invariant-loop-code : goal.invariant-loop-code
invariant-loop-code l =
    list_any (cells_differ l.old.cells l.new.cells l.slot) (range_with_len 48 (l.code - 48)) ≡ false

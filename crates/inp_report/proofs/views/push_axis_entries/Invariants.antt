use Rattle.std.proofs.Common.{◌≡◌, ◌++◌, ◌-◌}
use Rattle.std.specs.Prelude.{pos, slice_index_or}
use Rattle.std.specs.List.{flat_map, range_with_len}
use Rattle.inp_report.specs.Entries.{axis_entry}
use Rattle.inp_report.proofs.views.push_axis_entries.Given as goal

-- the axes so far
abbrev pub invariant-loop-code : goal.invariant-loop-code
invariant-loop-code l =
    l.text
    ≡ l.initial.text
    ++ flat_map (axis_entry l.caps (λ code. slice_index_or l.axes code (pos 0)))
    (range_with_len l.first (l.code - l.first))

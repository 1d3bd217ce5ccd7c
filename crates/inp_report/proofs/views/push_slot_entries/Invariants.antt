use Rattle.std.proofs.Common.{◌≡◌, ◌++◌, ◌-◌}
use Rattle.std.specs.List.{flat_map, range_with_len}
use Rattle.inp_recon.specs.Cells.{cell_of}
use Rattle.inp_report.specs.Entries.{axis_entry}
use Rattle.inp_report.proofs.views.push_slot_entries.Given as goal

-- the axes of the slot so far
abbrev pub invariant-loop-code : goal.invariant-loop-code
invariant-loop-code l =
    l.text
    ≡ l.initial.text
    ++ flat_map (axis_entry l.caps (cell_of l.cells l.slot)) (range_with_len 48 (l.code - 48))

use Rattle.std.proofs.Common.{◌≡◌, ◌++◌, ◌-◌}
use Rattle.std.specs.List.{flat_map, range_with_len}
use Rattle.inp_report.specs.Views.{slot_line}
use Rattle.inp_report.proofs.views.push_slot_lines.Given as goal

-- the slots so far
abbrev pub invariant-loop-slot : goal.invariant-loop-slot
invariant-loop-slot l =
    l.text ≡ l.initial.text ++ flat_map (slot_line l.caps l.cells) (range_with_len 0 (l.slot - 0))

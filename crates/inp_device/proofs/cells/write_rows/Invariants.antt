use Rattle.std.proofs.Common.{◌≡◌}
use Rattle.inp_device.proofs.FilledBuffers.{filled, kept_row}
use Rattle.inp_device.proofs.cells.write_rows.Given as goal

-- the first places have the values that belong there
abbrev pub invariant-loop-index : goal.invariant-loop-index
invariant-loop-index l = l.cells ≡ filled (kept_row l.slots) l.index l.initial.cells

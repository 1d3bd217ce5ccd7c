use Rattle.std.proofs.Common.{◌≡◌}
use Rattle.inp_device.proofs.FilledBuffers.{filled, kept_column}
use Rattle.inp_device.proofs.cells.write_column.Given as goal

-- the first places have the values of the first slots
abbrev pub invariant-loop-slot : goal.invariant-loop-slot
invariant-loop-slot l = l.cells ≡ filled (kept_column l.slots l.code) l.slot l.initial.cells

use Rattle.std.proofs.Common.{◌≡◌}
use Rattle.inp_recon.specs.Cells.{first_cells}
use Rattle.inp_recon.proofs.cells.Cells.new.Given as goal

abbrev pub invariant-loop : goal.invariant-loop
invariant-loop l = l.cells.items ≡ first_cells l.counter

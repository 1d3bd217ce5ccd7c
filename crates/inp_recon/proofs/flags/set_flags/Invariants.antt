use Rattle.inp_recon.proofs.Told.{AreToldBelow}
use Rattle.inp_recon.proofs.flags.set_flags.Given as goal

abbrev pub invariant-loop-at : goal.invariant-loop-at
invariant-loop-at g l = AreToldBelow g.row.W l.at l.words l.flags

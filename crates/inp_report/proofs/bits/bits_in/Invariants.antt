use Rattle.inp_recon.proofs.Told.{AreToldBelow}
use Rattle.inp_report.proofs.bits.bits_in.Given as goal

-- the words so far are told
abbrev pub invariant-loop-at : goal.invariant-loop-at
invariant-loop-at l = AreToldBelow 12 l.at l.words l.bits

use Rattle.inp_bits.proofs.Differences.{IsXorBelow}
use Rattle.inp_bits.proofs.bits.Bits.differing.Given as goal

abbrev pub invariant-loop-at : goal.invariant-loop-at
invariant-loop-at g l = IsXorBelow l.at l.initial.words l.other-inside.words l.words

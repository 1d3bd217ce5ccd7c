use Rattle.inp_bits.proofs.BitsOf.{bits_of-ones}
use Rattle.inp_bits.proofs.bits.Bits.full.Goals as goal

pub returns : goal.returns
returns g c = record { all_true = bits_of-ones g.row.W }

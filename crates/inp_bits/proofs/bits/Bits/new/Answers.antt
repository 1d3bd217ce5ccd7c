use Rattle.inp_bits.proofs.BitsOf.{bits_of-zeros}
use Rattle.inp_bits.proofs.bits.Bits.new.Goals as goal

pub returns : goal.returns
returns g c = record { all_false = bits_of-zeros g.row.W }

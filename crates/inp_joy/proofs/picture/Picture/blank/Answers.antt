use Rattle.std.proofs.Common.{refl}
use Rattle.inp_bits.specs.Bits.{word_bits}
use Rattle.inp_joy.proofs.picture.Picture.blank.Goals as goal

-- no bit of a word 0 is set, and each axis is at 0
pub returns : goal.returns
unfolding word_bits
returns c = refl

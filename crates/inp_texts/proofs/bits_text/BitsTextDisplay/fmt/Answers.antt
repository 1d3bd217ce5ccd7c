-- Sixteen digits.
use Rattle.inp_texts.specs.Texts.{bits_text}
use Rattle.inp_texts.proofs.Hexadecimals.{padded_16}
use Rattle.inp_texts.proofs.bits_text.BitsTextDisplay.fmt.Goals as goal

pub returns-clause-writes : goal.returns-clause-writes
unfolding bits_text
returns-clause-writes g c =
    let written = rw (c.in_radix.ensures, c.laid_out.ensures) at c.write.ensures.writes in
    rw padded_16 at written

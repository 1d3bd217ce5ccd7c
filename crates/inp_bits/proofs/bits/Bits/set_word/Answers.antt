use Rattle.std.proofs.Common.{set, arith}
use Rattle.std.proofs.lemmas.List.{length-set}
use Rattle.inp_bits.proofs.BitsOf.{length-bits_of, bits_of-set}
use Rattle.inp_bits.proofs.bits.Bits.set_word.Goals as goal

pub returns-clause-written : goal.returns-clause-written
returns-clause-written g c =
    rw (← c.self.view_is)
    (bits_of-set c.self.inside.words c.args.word_index c.args.bits (omega (arith, c.self.invariant.count)))

pub returns-clause-len : goal.returns-clause-len
returns-clause-len g c =
    let words = c.self.inside.words in
    rw (
      length-bits_of (set words c.args.word_index c.args.bits),
      length-set words c.args.word_index c.args.bits,
      c.self.invariant.count,
    )

use Rattle.std.proofs.Common.{sym, arith}
use Rattle.inp_bits.proofs.BitsOf.{length_from_words, slice_range-bits_of}
use Rattle.inp_bits.proofs.bits.Bits.word.Goals as goal

pub returns-clause-value : goal.returns-clause-value
returns-clause-value g c =
    rw (← c.self.view_is)
    (sym (slice_range-bits_of c.self.inside.words c.args.word_index (omega (arith, c.self.invariant.count))))

pub returns-clause-len : goal.returns-clause-len
returns-clause-len g c =
    length_from_words g.row.W c.self.inside.words c.args.self.now c.self.invariant c.self.view_is

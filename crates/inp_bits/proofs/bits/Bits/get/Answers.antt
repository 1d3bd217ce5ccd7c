use Rattle.std.proofs.Common.{◌/◌, ◌%◌, get_or}
use Rattle.std.proofs.lemmas.Nat.Bits.{shr_and_one}
use Rattle.inp_bits.proofs.BitsOf.{length_from_words, is_on_at-bits_of}
use Rattle.inp_bits.proofs.bits.Bits.get.Goals as goal

pub returns-clause-value : goal.returns-clause-value
returns-clause-value g c =
    let words = c.self.inside.words in
    rw (
      shr_and_one (get_or words (c.args.index / 64) 0) (c.args.index % 64),
      ← is_on_at-bits_of words c.args.index,
      c.self.view_is,
    )

pub returns-clause-len : goal.returns-clause-len
returns-clause-len g c =
    length_from_words g.row.W c.self.inside.words c.args.self.now c.self.invariant c.self.view_is

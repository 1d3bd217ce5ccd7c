use Rattle.std.proofs.Common.{refl, rules}
use Rattle.inp_bits.specs.Words.{bits_of}
use Rattle.inp_bits.proofs.BitsOf.{length_from_words}
use Rattle.inp_bits.proofs.bits.Bits.ones.Goals as goal

pub new-requires : goal.new-requires
new-requires g c = (
  search rules,
  (
    search rules,
    length_from_words g.row.W c.self.inside.words (bits_of c.self.inside.words) c.self.invariant refl,
  ),
)

pub returns-clause-len : goal.returns-clause-len
returns-clause-len g c =
    length_from_words g.row.W c.self.inside.words c.args.self.now c.self.invariant c.self.view_is

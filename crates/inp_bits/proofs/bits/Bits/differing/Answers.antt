use Rattle.std.proofs.Common.{◌∙◌, arith, rules}
use Rattle.inp_bits.proofs.BitsOf.{length_from_words, length-bits_of}
use Rattle.inp_bits.proofs.Differences.{xor_fits, true_indices-xor}
use Rattle.inp_bits.proofs.bits.Bits.differing.Goals as goal

pub invariant_of-new : goal.invariant_of-new
invariant_of-new g c = record {
  count = c.loop-at.invariant.long ∙ c.self.invariant.count;
  few = c.self.invariant.few;
  fit =
      xor_fits c.loop-at.at c.self.inside.words c.other.inside.words c.loop-at.words
      (omega (arith, c.self.invariant.count)) c.loop-at.invariant c.self.invariant.fit c.other.invariant.fit;
}

pub new-requires : goal.new-requires
new-requires g c = (
  search rules,
  (
    search rules,
    rw (length-bits_of c.loop-at.words, c.loop-at.invariant.long, c.self.invariant.count),
  ),
)

pub returns-clause-value : goal.returns-clause-value
returns-clause-value g c =
    rw (
      c.new.ensures.value,
      true_indices-xor c.loop-at.at c.self.inside.words c.other.inside.words c.loop-at.words
          (omega (arith, c.self.invariant.count)) c.loop-at.invariant,
      c.self.view_is,
      c.other.view_is,
    )

pub returns-clause-len : goal.returns-clause-len
returns-clause-len g c =
    length_from_words g.row.W c.self.inside.words c.args.self.now c.self.invariant c.self.view_is

pub returns-clause-other_len : goal.returns-clause-other_len
returns-clause-other_len g c =
    length_from_words g.row.W c.other.inside.words c.args.other.now c.other.invariant c.other.view_is

use Rattle.std.proofs.Common.{Bool, ap, ◌∙◌, arith}
use Rattle.std.specs.Prelude.{count_by, count_ones}
use Rattle.std.proofs.lemmas.List.Sums.{sum_by-le}
use Rattle.inp_bits.proofs.BitsOf.{length_from_words, count_by-bits_of, All-count_ones}
use Rattle.inp_bits.proofs.bits.Bits.count.Goals as goal

pub total_ones-requires : goal.total_ones-requires
total_ones-requires g c =
    let words = c.self.inside.words in
    omega (
      arith,
      c.self.invariant.count,
      c.self.invariant.few,
      sum_by-le count_ones 64 words (All-count_ones words c.self.invariant.fit),
    )

pub returns-clause-value : goal.returns-clause-value
returns-clause-value g c =
    c.total_ones.ensures ∙ count_by-bits_of c.self.inside.words c.self.invariant.fit
    ∙ ap (count_by (λ (on : Bool). on)) c.self.view_is

pub returns-clause-len : goal.returns-clause-len
returns-clause-len g c =
    length_from_words g.row.W c.self.inside.words c.args.self.now c.self.invariant c.self.view_is

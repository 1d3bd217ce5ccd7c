use Rattle.std.proofs.Common.{arith}
use Rattle.inp_bits.proofs.BitsOf.{length_from_words}
use Rattle.inp_bits.proofs.Indices.{first_true_found, none_true}
use Rattle.inp_bits.proofs.bits.Bits.first_true.Goals as goal

pub returns-then-word-ne0-clause-found : goal.returns-then-word-ne0-clause-found
returns-then-word-ne0-clause-found g c =
    rw (← c.self.view_is)
    (first_true_found c.self.inside.words c.args.first_word c.loop-at.at c.loop-at.auto.at
    (omega (arith, c.self.invariant.count)) (omega arith)
    (c.self.invariant.fit c.loop-at.at) c.loop-at.invariant)

pub returns-then-word-ne0-clause-len : goal.returns-then-word-ne0-clause-len
returns-then-word-ne0-clause-len g c =
    length_from_words g.row.W c.self.inside.words c.args.self.now c.self.invariant c.self.view_is

pub returns-clause-none : goal.returns-clause-none
returns-clause-none g c =
    rw (← c.self.view_is)
    (none_true c.self.inside.words c.args.first_word
    (λ q l m. c.loop-at.invariant q l (omega (arith, c.self.invariant.count))))

pub returns-clause-len : goal.returns-clause-len
returns-clause-len g c =
    length_from_words g.row.W c.self.inside.words c.args.self.now c.self.invariant c.self.view_is

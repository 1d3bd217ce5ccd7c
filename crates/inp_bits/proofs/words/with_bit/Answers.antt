use Rattle.std.proofs.Common.{sym, w64}
use Rattle.std.proofs.lemmas.Nat.Bits.{bit_at_set_same, bit_at_set_other, bit_at_clear_same}
use Rattle.std.proofs.lemmas.Nat.Bits.{bit_at_clear_other}
use Rattle.inp_bits.proofs.words.with_bit.Goals as goal

pub returns-then-on-clause-written : goal.returns-then-on-clause-written
returns-then-on-clause-written c =
    rw (bit_at_set_same w64 c.args.word c.args.place c.requires) (sym c.if-on.true)

pub returns-then-on-clause-others : goal.returns-then-on-clause-others
returns-then-on-clause-others c = λ k l ne. bit_at_set_other w64 c.args.word c.args.place c.requires k ne

pub returns-else-on-clause-written : goal.returns-else-on-clause-written
returns-else-on-clause-written c =
    rw (bit_at_clear_same w64 c.args.word c.args.place c.requires) (sym c.if-on.false)

pub returns-else-on-clause-others : goal.returns-else-on-clause-others
returns-else-on-clause-others c = λ k l ne. bit_at_clear_other w64 c.args.word c.args.place c.requires k l ne

use Rattle.std.proofs.Common.{◌≡◌, ◌+◌, ◌*◌, ◌/◌, ◌%◌, set, arith}
use Rattle.std.proofs.lemmas.List.{length-set}
use Rattle.inp_bits.proofs.BitsOf.{length-bits_of, bits_of-set_value}
use Rattle.inp_bits.proofs.bits.Bits.set.Goals as goal

pub returns-clause-written : goal.returns-clause-written
returns-clause-written g c =
    let words = c.self.inside.words in
    let index = c.args.index in
    let whole : 64 * (index / 64) + index % 64 ≡ index = omega arith in
    rw (
      bits_of-set_value words (index / 64) (index % 64) c.with_bit.result c.args.on
          (omega (arith, c.self.invariant.count))
          (omega arith) c.with_bit.ensures.written c.with_bit.ensures.others,
      whole,
      c.self.view_is,
    )

pub returns-clause-len : goal.returns-clause-len
returns-clause-len g c =
    let words = c.self.inside.words in
    rw (
      length-bits_of (set words (c.args.index / 64) c.with_bit.result),
      length-set words (c.args.index / 64) c.with_bit.result,
      c.self.invariant.count,
    )

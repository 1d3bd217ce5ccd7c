use Rattle.std.proofs.Common.{arith}
use Rattle.inp_texts.proofs.Numerals.{digit_more}
use Rattle.inp_texts.proofs.number_words.decimal.Goals as goal

pub overflow_mul-value : goal.overflow_mul-value
overflow_mul-value c =
    let more =
    digit_more c.loop-byte.byte-index c.loop-byte.value 0 (omega arith) c.loop-byte.invariant.small
    (omega arith) in
    record { fits = omega (arith, more.1) }

pub overflow_add-value : goal.overflow_add-value
overflow_add-value c =
    let more =
    digit_more c.loop-byte.byte-index c.loop-byte.value c.from.result
    (omega arith) c.loop-byte.invariant.small (omega (arith, c.from.ensures)) in
    record { fits = more.1 }

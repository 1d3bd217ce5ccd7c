use Rattle.std.proofs.Common.{◌≡◌, ◌<◌, ◌+◌, take, length, get_or, false, arith}
use Rattle.std.proofs.lemmas.Bool.Decides.{nat_tests}
use Rattle.std.proofs.lemmas.Grind.{common_steps}
use Rattle.inp_texts.specs.Number.{is_digit, value_of}
use Rattle.inp_texts.proofs.Numerals.{numeral_empty, numeral_not_digit, numeral_too_great, numeral_is}
use Rattle.inp_texts.proofs.Numerals.{value_of_more}
use Rattle.inp_texts.proofs.number_words.numeral.Goals as goal

pub returns-then-is_empty-clause-value : goal.returns-then-is_empty-clause-value
returns-then-is_empty-clause-value c =
    let empty : length c.args.digits.now ≡ 0 = grind (arith, nat_tests) in
    grind (arith, numeral_empty)

pub returns-then-digit-base-clause-value : goal.returns-then-digit-base-clause-value
returns-then-digit-base-clause-value c =
    let other : is_digit c.args.base (get_or c.args.digits.now c.loop-byte.byte-index 0) ≡ false =
    grind (arith, nat_tests) in
    grind (arith, numeral_not_digit)

pub returns-in_err-value-clause-value : goal.returns-in_err-value-clause-value
returns-in_err-value-clause-value c =
    let more = value_of_more c.args.base c.args.digits.now c.loop-byte.byte-index (omega arith) in
    let great : c.args.most < value_of c.args.base (take (c.loop-byte.byte-index + 1) c.args.digits.now) =
    grind (arith, common_steps) in
    grind (arith, numeral_too_great)

pub returns-in_err-value-2-clause-value : goal.returns-in_err-value-2-clause-value
returns-in_err-value-2-clause-value c =
    let more = value_of_more c.args.base c.args.digits.now c.loop-byte.byte-index (omega arith) in
    let great : c.args.most < value_of c.args.base (take (c.loop-byte.byte-index + 1) c.args.digits.now) =
    grind (arith, common_steps) in
    grind (arith, numeral_too_great)

pub returns-then-value-most-clause-value : goal.returns-then-value-most-clause-value
returns-then-value-most-clause-value c = grind (arith, common_steps, numeral_is)

pub returns-else-value-most-clause-value : goal.returns-else-value-most-clause-value
returns-else-value-most-clause-value c = grind (arith, common_steps, numeral_too_great)

use Rattle.std.proofs.Common.{◌≡◌, ◌≤◌, ◌-ℤ◌, pos, neg_ℤ, w32, w64, to_z, of_z, arith, rules}
use Rattle.std.proofs.lemmas.Grind.{common_steps}
use Rattle.std.proofs.lemmas.Int.{ints}
use Rattle.inp_texts.proofs.Numerals.{signed_number_minus, signed_number_plain}
use Rattle.inp_texts.proofs.number_words.signed_number.Goals as goal

pub returns-in_err-below-in-45 : goal.returns-in_err-below-in-45
returns-in_err-below-in-45 c =
    let minus = signed_number_minus c.args.word.now (omega arith) (grind arith) in
    grind (arith, common_steps)

pub returns-in_err-above-in_default : goal.returns-in_err-above-in_default
returns-in_err-above-in_default c =
    let plain = signed_number_plain c.args.word.now (λ h. grind arith) in
    grind (arith, common_steps)

pub returns-in_ok-below-in-45 : goal.returns-in_ok-below-in-45
returns-in_ok-below-in-45 c =
    let minus = signed_number_minus c.args.word.now (omega arith) (grind arith) in
    let n = c.in_ok-below-in-45.below in
    let bound : n ≤ 2147483648 = search rules in
    let value : to_z w32 (of_z w32 (to_z w64 (of_z w64 (pos 0 -ℤ to_z w64 n)))) ≡ neg_ℤ (pos n) =
    omega (arith, ints) in
    grind (arith, common_steps)

pub returns-in_ok-above-in_default : goal.returns-in_ok-above-in_default
returns-in_ok-above-in_default c =
    let plain = signed_number_plain c.args.word.now (λ h. grind arith) in
    let n = c.in_ok-above-in_default.above in
    let bound : n ≤ 2147483647 = search rules in
    let value : to_z w32 n ≡ pos n = omega (arith, ints) in
    grind (arith, common_steps)

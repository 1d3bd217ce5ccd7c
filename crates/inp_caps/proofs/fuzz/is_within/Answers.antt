use Rattle.std.proofs.Common.{◌≡◌, Bool, true, false, ◌&&◌, ℤ, ◌+ℤ◌, ◌-ℤ◌, to_z, of_z, w64, sym, ◌∙◌, arith}
use Rattle.std.specs.Prelude.{int_lt}
use Rattle.std.proofs.lemmas.Int.{ints}
use Rattle.inp_caps.proofs.fuzz.is_within.Goals as goal

both : (a b x : Bool) → a ≡ true → x ≡ b → x ≡ (a && b)
both true b x h e = e
both false b x h e = absurd (cc h)

neither : (a b x : Bool) → a ≡ false → x ≡ false → x ≡ (a && b)
neither true b x h e = absurd (cc h)
neither false b x h e = e

lt_same : (a b c d : ℤ) → a ≡ c → b ≡ d → int_lt a b ≡ int_lt c d
lt_same a b c d p q = cc

-- a sum of 64 bits
abbrev kept : ℤ → ℤ
kept z = to_z w64 (of_z w64 z)

pub returns-then-old-distance : goal.returns-then-old-distance
returns-then-old-distance c =
    let low : kept (kept c.from-old.result -ℤ kept c.args.distance) ≡ c.args.old -ℤ c.args.distance =
    omega (arith, ints) in
    let high : kept (kept c.from-old.result +ℤ kept c.args.distance) ≡ c.args.old +ℤ c.args.distance =
    omega (arith, ints) in
    let new : kept c.from-value.result ≡ c.args.value = omega (arith, ints) in
    both (int_lt (c.args.old -ℤ c.args.distance) c.args.value)
    (int_lt c.args.value (c.args.old +ℤ c.args.distance)) _
    (sym (lt_same _ _ _ _ low new) ∙ c.if-old-distance.true)
    (lt_same _ _ _ _ new high)

pub returns-else-old-distance : goal.returns-else-old-distance
returns-else-old-distance c =
    let low : kept (kept c.from-old.result -ℤ kept c.args.distance) ≡ c.args.old -ℤ c.args.distance =
    omega (arith, ints) in
    let new : kept c.from-value.result ≡ c.args.value = omega (arith, ints) in
    neither (int_lt (c.args.old -ℤ c.args.distance) c.args.value)
    (int_lt c.args.value (c.args.old +ℤ c.args.distance)) _
    (sym (lt_same _ _ _ _ low new) ∙ c.if-old-distance.false)
    c.if-old-distance.false

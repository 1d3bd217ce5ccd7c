use Rattle.std.proofs.Common.{◌≡◌, ℤ, pos, ◌+ℤ◌, ◌*ℤ◌, to_z, of_z, w32, w64, FitsSigned, ap, ◌∙◌, arith}
use Rattle.std.specs.Prelude.{int_div}
use Rattle.std.proofs.lemmas.Int.{ints, to_z-of_z}
use Rattle.inp_caps.proofs.fuzz.quarter_way.Goals as goal

-- a sum of 64 bits
abbrev kept : ℤ → ℤ
kept z = to_z w64 (of_z w64 z)

pub returns : goal.returns
returns c =
    let sum : kept (kept (pos 3 *ℤ kept c.from.result) +ℤ kept c.from-2.result)
    ≡ (pos 3 *ℤ c.args.old) +ℤ c.args.value = omega (arith, ints) in
    let fits : FitsSigned w32 c.quarter.result = record { sfits = c.quarter.type_inv } in
    to_z-of_z w32 c.quarter.result fits ∙ c.quarter.ensures ∙ ap (λ (s : ℤ). int_div s (pos 4)) sum

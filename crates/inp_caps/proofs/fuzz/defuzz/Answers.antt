use Rattle.std.proofs.Common.{◌≡◌, Bool, ℤ, pos, ◌+ℤ◌, ◌*ℤ◌, to_z, of_z, w32, w64, FitsSigned, sym, ◌∙◌}
use Rattle.std.proofs.Common.{arith}
use Rattle.std.specs.Prelude.{int_div}
use Rattle.std.proofs.lemmas.Int.{ints, to_z-of_z}
use Rattle.inp_model.specs.Defuzz.{is_within}
use Rattle.inp_caps.proofs.Moves.{within_same, int_eq-nonzero, defuzz-stays, defuzz-quarter, defuzz-half}
use Rattle.inp_caps.proofs.Moves.{defuzz-moves}
use Rattle.inp_caps.proofs.fuzz.defuzz.Goals as goal

abbrev kept : ℤ → ℤ
kept z = to_z w32 (of_z w32 z)

-- what a test of the code says of the numbers themselves
tested : (d e o v : ℤ) (b r : Bool) → FitsSigned w32 o → FitsSigned w32 v → d ≡ e
    → r ≡ is_within d (kept o) (kept v) → r ≡ b → is_within e o v ≡ b
tested d e o v b r fo fv same is h =
    sym (within_same d (kept o) (kept v) e o v same (to_z-of_z w32 o fo) (to_z-of_z w32 v fv)) ∙ sym is ∙ h

quarter_same : (o v p w : ℤ) → o ≡ p → v ≡ w
    → int_div (pos 3 *ℤ o +ℤ v) (pos 4) ≡ int_div (pos 3 *ℤ p +ℤ w) (pos 4)
quarter_same o v p w x y = cc

half_same : (o v p w : ℤ) → o ≡ p → v ≡ w → int_div (o +ℤ v) (pos 2) ≡ int_div (p +ℤ w) (pos 2)
half_same o v p w x y = cc

abbrev half_of : ℤ → ℤ
half_of r = to_z w64 (of_z w64 (int_div (to_z w64 (of_z w64 r)) (pos 2)))

abbrev twice : ℤ → ℤ
twice r = to_z w64 (of_z w64 (pos 2 *ℤ to_z w64 (of_z w64 r)))

abbrev once : ℤ → ℤ
once r = to_z w64 (of_z w64 r)

pub returns-then-is_within : goal.returns-then-is_within
returns-then-is_within c =
    let half : half_of c.from-fuzz.result ≡ int_div c.args.fuzz (pos 2) = omega (arith, ints) in
    let a = tested _ _ _ _ _ _ c.ranges.old c.ranges.value half c.is_within.ensures c.if-is_within.true in
    record {
      value =
          to_z-of_z w32 c.args.old c.ranges.old
          ∙ sym (defuzz-stays c.args.value c.args.old c.args.fuzz
          (int_eq-nonzero c.args.fuzz c.if-fuzz-eq0.false) a);
    }

pub returns-then-is_within-2 : goal.returns-then-is_within-2
returns-then-is_within-2 c =
    let half : half_of c.from-fuzz.result ≡ int_div c.args.fuzz (pos 2) = omega (arith, ints) in
    let whole : once c.from-fuzz.result ≡ c.args.fuzz = omega (arith, ints) in
    let a = tested _ _ _ _ _ _ c.ranges.old c.ranges.value half c.is_within.ensures c.if-is_within.false in
    let b =
    tested _ _ _ _ _ _ c.ranges.old c.ranges.value whole c.is_within-2.ensures c.if-is_within-2.true in
    let fits : FitsSigned w32 c.quarter_way.result = record { sfits = c.quarter_way.type_inv } in
    record {
      value =
          to_z-of_z w32 c.quarter_way.result fits
          ∙ c.quarter_way.ensures
          ∙ quarter_same (kept c.args.old) (kept c.args.value) c.args.old c.args.value
          (to_z-of_z w32 c.args.old c.ranges.old) (to_z-of_z w32 c.args.value c.ranges.value)
          ∙ sym (defuzz-quarter c.args.value c.args.old c.args.fuzz
          (int_eq-nonzero c.args.fuzz c.if-fuzz-eq0.false) a b);
    }

pub returns-then-is_within-3 : goal.returns-then-is_within-3
returns-then-is_within-3 c =
    let half : half_of c.from-fuzz.result ≡ int_div c.args.fuzz (pos 2) = omega (arith, ints) in
    let whole : once c.from-fuzz.result ≡ c.args.fuzz = omega (arith, ints) in
    let double : twice c.from-fuzz.result ≡ pos 2 *ℤ c.args.fuzz = omega (arith, ints) in
    let a = tested _ _ _ _ _ _ c.ranges.old c.ranges.value half c.is_within.ensures c.if-is_within.false in
    let b =
    tested _ _ _ _ _ _ c.ranges.old c.ranges.value whole c.is_within-2.ensures c.if-is_within-2.false in
    let d =
    tested _ _ _ _ _ _ c.ranges.old c.ranges.value double c.is_within-3.ensures c.if-is_within-3.true in
    let fits : FitsSigned w32 c.half_way.result = record { sfits = c.half_way.type_inv } in
    record {
      value =
          to_z-of_z w32 c.half_way.result fits
          ∙ c.half_way.ensures
          ∙ half_same (kept c.args.old) (kept c.args.value) c.args.old c.args.value
          (to_z-of_z w32 c.args.old c.ranges.old) (to_z-of_z w32 c.args.value c.ranges.value)
          ∙ sym (defuzz-half c.args.value c.args.old c.args.fuzz
          (int_eq-nonzero c.args.fuzz c.if-fuzz-eq0.false) a b d);
    }

pub returns : goal.returns
returns c =
    let half : half_of c.from-fuzz.result ≡ int_div c.args.fuzz (pos 2) = omega (arith, ints) in
    let whole : once c.from-fuzz.result ≡ c.args.fuzz = omega (arith, ints) in
    let double : twice c.from-fuzz.result ≡ pos 2 *ℤ c.args.fuzz = omega (arith, ints) in
    let a = tested _ _ _ _ _ _ c.ranges.old c.ranges.value half c.is_within.ensures c.if-is_within.false in
    let b =
    tested _ _ _ _ _ _ c.ranges.old c.ranges.value whole c.is_within-2.ensures c.if-is_within-2.false in
    let d =
    tested _ _ _ _ _ _ c.ranges.old c.ranges.value double c.is_within-3.ensures c.if-is_within-3.false in
    record {
      value =
          to_z-of_z w32 c.args.value c.ranges.value
          ∙ sym (defuzz-moves c.args.value c.args.old c.args.fuzz
          (int_eq-nonzero c.args.fuzz c.if-fuzz-eq0.false) a b d);
    }

-- What `parse` gives of a text is the number that the text is.
use Rattle.std.proofs.Common.{◌≡◌, ◌∙◌, ℕ, ◌^◌, ◌<◌, refl, sym, ap, ap₂, arith, Bool, true, false, ◌&&◌, cond}
use Rattle.std.proofs.Common.{nat_lt, List, length, Option, Some, None, Result, Ok, Err}
use Rattle.std.specs.Result.{result_ok}
use Rattle.std.specs.Str.{all_ascii_digits}
use Rattle.std.specs.Str.Parse.{IsNumeral, ParsesUnsigned, digits_value, without_leading_plus}
use Rattle.std.proofs.lemmas.Str.Parse.{IsNumeralModel, numerals_by_value, tells_all_ascii_digits}
use Rattle.std.proofs.lemmas.Bool.Decides.{nat_tests}
use Rattle.inp_args.specs.Number.{is_decimal, number_of}

digits : IsNumeralModel (λ ds. all_ascii_digits ds ≡ true) (digits_value 10)
digits = numerals_by_value _ tells_all_ascii_digits

both : (a b : Bool) → (a && b) ≡ true → (a ≡ true) × (b ≡ true)
both true b h = (refl, h)
both false b h = cc

-- a test of one's own for a numeral that fits
abbrev fits : List ℕ → Bool
fits ds = is_decimal ds && nat_lt (digits_value 10 ds) (2 ^ 32)

fits_is : (ds : List ℕ) → IsNumeral 10 ds × (digits_value 10 ds < 2 ^ 32) → fits ds ≡ true
fits_is ds h =
    let some : nat_lt 0 (length ds) ≡ true = let lt : 0 < length ds = h.0.0 in grind (arith, nat_tests) in
    let all : all_ascii_digits ds ≡ true = digits.from ds h.0.1 in
    let small : nat_lt (digits_value 10 ds) (2 ^ 32) ≡ true = let lt : digits_value 10 ds < 2 ^ 32 =
    h.1 in grind (arith, nat_tests) in
    ap₂ (λ x y. x && y) (ap₂ (λ x y. x && y) some all) small

is_fitting : (ds : List ℕ) → fits ds ≡ true → IsNumeral 10 ds × (digits_value 10 ds < 2 ^ 32)
is_fitting ds h =
    let outer = both (is_decimal ds) (nat_lt (digits_value 10 ds) (2 ^ 32)) h in
    let inner = both (nat_lt 0 (length ds)) (all_ascii_digits ds) outer.0 in
    let test : nat_lt 0 (length ds) ≡ true = inner.0 in
    let below : nat_lt (digits_value 10 ds) (2 ^ 32) ≡ true = outer.1 in
    ((grind (arith, nat_tests), digits.to ds inner.1), grind (arith, nat_tests))

pub parsed : {E : Type 0} (text : List ℕ) (r : Result ℕ E) → ParsesUnsigned 32 10 text r
    → result_ok r ≡ number_of text
parsed text (Ok x) h =
    let ds = without_leading_plus text in
    ap (λ n. Some n) h.1 ∙ sym (ap (λ b. cond b (Some (digits_value 10 ds)) None) (fits_is ds h.0))
parsed text (Err e) h = go (fits (without_leading_plus text)) refl
  where
    go : (b : Bool) → fits (without_leading_plus text) ≡ b
        → ◌≡◌ {A = Option ℕ} None (cond b (Some (digits_value 10 (without_leading_plus text))) None)
    go true is = absurd (h (is_fitting (without_leading_plus text) is))
    go false is = refl

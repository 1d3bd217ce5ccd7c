-- The digits of a number, two and four at a time.
use Rattle.std.proofs.Common.{◌≡◌, ℕ, zero, suc, ◌+◌, ◌*◌, ◌-◌, ◌/◌, ◌%◌, ◌^◌, ◌<◌, ◌≤◌, Bool, true, ◌&&◌, T}
use Rattle.std.proofs.Common.{eqb, List, ◌++◌, length, get_or, ap, ◌∙◌, inl, inr, arith, eq-zero-or-pos}
use Rattle.std.proofs.Common.{eqb→eq, append_assoc, length-append, ℤ, pos, negsuc, FitsSigned, w32}
use lib.Ieee.Fits.{and_l, and_r}
use Rattle.std.specs.Fmt.{decimal}
use Rattle.std.proofs.lemmas.Fmt.{decimal_digit, length_signed_le}
use Rattle.std.specs.Fmt.{signed_decimal}
use Rattle.itoa.proofs.Decimal.{decimal_two, decimal_pair, decimal_four}
use Rattle.inp_texts.specs.Digits.{two_digits, four_digits}
use Rattle.inp_texts.specs.declared.digits.TheConstants.{PAIRS}

abbrev are_pairs : ℕ → Bool
are_pairs zero = true
are_pairs (suc p) =
    (eqb (get_or PAIRS (p * 2) 0) (48 + p / 10)
    && eqb (get_or PAIRS (p * 2 + 1) 0) (48 + p % 10)) && are_pairs p

below : (n p : ℕ) → T (are_pairs n) → p < n
    → (get_or PAIRS (p * 2) 0 ≡ 48 + p / 10) × (get_or PAIRS (p * 2 + 1) 0 ≡ 48 + p % 10)
below zero p t h = absurd (omega arith)
below (suc n) p t h =
    elim (eq-zero-or-pos (n - p)) [
      | inl z ↦ let e : p ≡ n =
          omega arith in let a = and_l _ (are_pairs n) t in
          rw e (eqb→eq _ _ (and_l _ _ a), eqb→eq _ _ (and_r _ _ a))
      | inr g ↦ below n p (and_r _ (are_pairs n) t) (omega arith)
    ]

-- the table has the two digits of each number
pub pair-at : (p : ℕ) → p < 100
    → (get_or PAIRS (p * 2) 0 ≡ 48 + p / 10) × (get_or PAIRS (p * 2 + 1) 0 ≡ 48 + p % 10)
pair-at p h = below 100 p tt h

pub decimal-length-one : (n : ℕ) → n < 10 → length (decimal n) ≡ 1
decimal-length-one n h = ap length (decimal_digit n h)

pub decimal-length-two : (n : ℕ) → 10 ≤ n → n < 100 → length (decimal n) ≡ 2
decimal-length-two n lo hi = ap length (decimal_two n lo hi)

pub decimal-length-pair : (n : ℕ) → 100 ≤ n → n < 2 ^ 64 → length (decimal n) ≡ length (decimal (n / 100)) + 2
decimal-length-pair n lo hi = ap length (decimal_pair n lo hi) ∙ length-append _ _

pub decimal-length-four : (n : ℕ) → 10000 ≤ n → n < 2 ^ 64
    → length (decimal n) ≡ length (decimal (n / 10000)) + 4
decimal-length-four n lo hi = ap length (decimal_four n lo hi) ∙ length-append _ _

-- two digits more are stored
pub two-more : (n : ℕ) (before old new : List ℕ) → 100 ≤ n → n < 2 ^ 64 → old ≡ before ++ decimal (n / 100)
    → new ≡ old ++ two_digits (n % 100) → new ≡ before ++ decimal n
two-more n before old new lo hi front more =
    rw (more, front, append_assoc before (decimal (n / 100)) (two_digits (n % 100)), ← decimal_pair n lo hi)

-- four digits more are stored
pub four-more : (n : ℕ) (before old new : List ℕ) → 10000 ≤ n → n < 2 ^ 64
    → old ≡ before ++ decimal (n / 10000) → new ≡ old ++ four_digits (n % 10000) → new ≡ before ++ decimal n
four-more n before old new lo hi front more =
    rw (
      more,
      front,
      append_assoc before (decimal (n / 10000)) (four_digits (n % 10000)),
      ← decimal_four n lo hi,
    )

-- a number of 32 bits has ten digits at most, and a sign
pub signed-length-le : (z : ℤ) → FitsSigned w32 z → length (signed_decimal z) ≤ 11
signed-length-le (pos n) h = let fits = h.sfits in length_signed_le 10 (pos n) (omega arith) (omega arith)
signed-length-le (negsuc n) h = let fits =
    h.sfits in length_signed_le 10 (negsuc n) (omega arith) (omega arith)

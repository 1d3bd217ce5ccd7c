-- Numbers, digit by digit.
use Rattle.std.proofs.Common.{◌≡◌, ℕ, ◌+◌, ◌-◌, ◌*◌, ◌<◌, ◌≤◌, ◌≢◌, ◌&&◌, nat_eq, ◌^◌, pos, neg_ℤ, option_map}
use Rattle.std.proofs.Common.{Bool, true, false, if◌then◌else◌, nat_le, List, [], ◌∷◌, ◌++◌, length, get_or}
use Rattle.std.proofs.Common.{take, drop, fold, Some, None, sym, ap, ◌∙◌, refl, arith, cond, add-one}
use Rattle.std.specs.List.{list_all}
use Rattle.std.proofs.Math.Nat.{mul-le-mul_right, pow-succ', pow-le-pow_right}
use Rattle.std.proofs.lemmas.List.{take-append-drop, take_all}
use Rattle.std.proofs.lemmas.List.Folds.{list_all_at}
use Rattle.std.proofs.lemmas.List.Sums.{fold-append, fold_more}
use Rattle.std.proofs.lemmas.Bool.Decides.{nat_tests}
use Rattle.inp_texts.specs.Number.{digit_of, is_digit, value_of, is_numeral, is_hexadecimal, numeral, number}
use Rattle.inp_texts.specs.Number.{signed_number}

-- a digit more makes a value no smaller
fold-grows : (base start : ℕ) (digits : List ℕ) → 1 ≤ base
    → start ≤ fold (λ value b. base * value + digit_of b) start digits
fold-grows base start [] h = omega arith
fold-grows base start (b ∷ digits) h =
    let larger : 1 * start ≤ base * start = mul-le-mul_right start h in
    omega (arith, fold-grows base (base * start + digit_of b) digits h)

value_of-front : (base : ℕ) (word : List ℕ) (i : ℕ) → 1 ≤ base
    → value_of base (take i word) ≤ value_of base word
value_of-front base word i h =
    let f : ℕ → ℕ → ℕ = λ value b. base * value + digit_of b in
    let e = fold-append f 0 (take i word) (drop i word) in
    let w : value_of base (take i word ++ drop i word) ≡ value_of base word =
    ap (value_of base) (take-append-drop i word) in
    omega (arith, fold-grows base (value_of base (take i word)) (drop i word) h)

pub value_of_more : (base : ℕ) (word : List ℕ) (i : ℕ) → i < length word
    → value_of base (take (i + 1) word) ≡ base * value_of base (take i word) + digit_of (get_or word i 0)
value_of_more base word i h = fold_more (λ value b. base * value + digit_of b) 0 word i 0 h

-- what is no numeral is no number
pub numeral_not_digit : (base most : ℕ) (word : List ℕ) (i : ℕ) → i < length word
    → is_digit base (get_or word i 0) ≡ false → numeral base most word ≡ None
unfolding numeral
numeral_not_digit base most [] i h e = absurd (omega arith)
numeral_not_digit base most (b ∷ digits) i h e = rw (list_all_at (is_digit base) (b ∷ digits) i 0 h e)

pub numeral_empty : (base most : ℕ) (word : List ℕ) → length word ≡ 0 → numeral base most word ≡ None
unfolding numeral
numeral_empty base most [] h = refl
numeral_empty base most (b ∷ digits) h = absurd (omega arith)

-- a value that is too great already stays so
pub numeral_too_great : (base most : ℕ) (word : List ℕ) (i : ℕ) → 1 ≤ base
    → most < value_of base (take i word) → numeral base most word ≡ None
unfolding numeral
numeral_too_great base most word i k h =
    let less : nat_le (value_of base word) most ≡ false =
    grind (arith, nat_tests, value_of-front base word i k) in
    elim (is_numeral base word) as (λ v.
    cond (v && nat_le (value_of base word) most) (Some (value_of base word)) None ≡ None)
    [ true ↦ rw less | false ↦ refl ]

pub numeral_is : (base most : ℕ) (word : List ℕ) → 0 < length word → list_all (is_digit base) word ≡ true
    → value_of base word ≤ most → numeral base most word ≡ Some (value_of base word)
unfolding numeral
numeral_is base most [] h e k = absurd (omega arith)
numeral_is base most (b ∷ digits) h e k =
    let less : nat_le (value_of base (b ∷ digits)) most ≡ true = grind (arith, nat_tests) in
    rw (e, less)

pub signed_number_minus : (word : List ℕ) → 0 < length word → get_or word 0 0 ≡ 45
    → signed_number word ≡ option_map (λ n. neg_ℤ (pos n))
    (number (2 ^ 31) (take (length word - 1) (drop 1 word)))
unfolding signed_number
signed_number_minus [] h e = absurd (omega arith)
signed_number_minus (b ∷ digits) h e =
    let minus : nat_eq b 45 ≡ true = grind (arith, nat_tests) in
    let whole : take (length (b ∷ digits) - 1) (drop 1 (b ∷ digits)) ≡ digits =
    take_all (length (b ∷ digits) - 1) digits (omega arith) in
    rw (minus, whole)

number_empty : (most : ℕ) → number most [] ≡ None
unfolding number
number_empty most = numeral_empty 10 most [] refl

pub signed_number_plain : (word : List ℕ) → (0 < length word → get_or word 0 0 ≢ 45)
    → signed_number word ≡ option_map (λ n. pos n) (number (2 ^ 31 - 1) word)
unfolding signed_number
signed_number_plain [] h = sym (ap (option_map (λ n. pos n)) (number_empty (2 ^ 31 - 1)))
signed_number_plain (b ∷ digits) h =
    let other : b ≢ 45 = h (omega arith) in
    let plain : nat_eq b 45 ≡ false = grind (arith, nat_tests) in
    rw plain

numeral_within : (base most : ℕ) (word : List ℕ) (n : ℕ) → numeral base most word ≡ Some n
    → nat_le n most ≡ true
unfolding numeral
numeral_within base most word n e = by_tests (is_numeral base word) (nat_le (value_of base word) most) refl e
  where
    by_tests : (is within : Bool) → nat_le (value_of base word) most ≡ within
        → (if is && within then Some (value_of base word) else None) ≡ Some n → nat_le n most ≡ true
    by_tests true true h e = let same : value_of base word ≡ n = cc e in rw (← same) h
    by_tests true false h e = absurd (cc e)
    by_tests false within h e = absurd (cc e)

-- a number is at most what it may be
pub number_within : (most : ℕ) (word : List ℕ) (n : ℕ) → number most word ≡ Some n → nat_le n most ≡ true
unfolding number
number_within most word n e = by_prefix (is_hexadecimal word) e
  where
    by_prefix : (hexadecimal : Bool)
        → (if hexadecimal then numeral 16 most (drop 2 word) else numeral 10 most word) ≡ Some n
        → nat_le n most ≡ true
    by_prefix true e = numeral_within 16 most (drop 2 word) n e
    by_prefix false e = numeral_within 10 most word n e

-- decimal digits do not begin with 0x
no_prefix : (word : List ℕ) → list_all (is_digit 10) word ≡ true → is_hexadecimal word ≡ false
no_prefix [] h = refl
no_prefix (a ∷ []) h = grind (arith, nat_tests)
no_prefix (a ∷ b ∷ word) h = grind (arith, nat_tests)

-- so their value is the number that they are, if it is at most what it may be
decimal_number : (most : ℕ) (word : List ℕ) → is_numeral 10 word ≡ true
    → number most word ≡ (if nat_le (value_of 10 word) most then Some (value_of 10 word) else None)
unfolding number numeral
decimal_number most [] h = absurd (cc h)
decimal_number most (b ∷ digits) h = rw (no_prefix (b ∷ digits) h, h) refl

pub decimal_within : (most value : ℕ) (word : List ℕ) → is_numeral 10 word ≡ true → value ≡ value_of 10 word
    → value ≤ most → Some value ≡ number most word
decimal_within most value word h is le =
    let within : nat_le (value_of 10 word) most ≡ true = grind (arith, nat_tests) in
    sym (decimal_number most word h ∙ rw (within, ← is))

pub decimal_beyond : (most value : ℕ) (word : List ℕ) → is_numeral 10 word ≡ true → value ≡ value_of 10 word
    → most < value → None ≡ number most word
decimal_beyond most value word h is lt =
    let beyond : nat_le (value_of 10 word) most ≡ false = grind (arith, nat_tests) in
    sym (decimal_number most word h ∙ rw beyond refl)

-- a decimal digit more has room where there are few
pub digit_more : (i value digit : ℕ) → i < 19 → value < 10 ^ i → digit ≤ 9
    → (value * 10 + digit < 10 ^ (i + 1)) × (value * 10 + digit < 2 ^ 64)
digit_more i value digit few small h =
    let next : 10 ^ (i + 1) ≡ 10 * 10 ^ i = rw (add-one i) (pow-succ' 10 i) in
    let most : 10 ^ (i + 1) ≤ 10 ^ 19 =
    pow-le-pow_right {n = 10} (omega arith) {i = i + 1} {j = 19} (omega arith) in
    (omega (arith, next), omega (arith, next, most))

-- Words of numbers, types, codes and clocks, written and read again.
use Rattle.std.proofs.Common.{◌≡◌, ℕ, zero, suc, ◌+◌, ◌-◌, ◌*◌, ◌^◌, ◌≤◌, ◌<◌, ℤ, pos, negsuc, neg_ℤ, true}
use Rattle.std.proofs.Common.{false, ◌&&◌, nat_eq, nat_le, List, [], ◌∷◌, ◌++◌, length, fold, replicate}
use Rattle.std.proofs.Common.{decimal, Option, Some, None, option_map, unwrap_or, FitsSigned, w32, refl, ap}
use Rattle.std.proofs.Common.{◌∙◌, arith}
use Rattle.std.specs.List.{list_all}
use Rattle.std.proofs.Math.Bool.{and-false}
use Rattle.std.specs.Fmt.{digits, signed_decimal}
use Rattle.std.specs.Char.{digit_value, is_ascii_uppercase}
use Rattle.std.specs.Str.Parse.{AllDigits, IsNumeral, digits_value, digits_value_after}
use Rattle.std.proofs.lemmas.Bool.Decides.{nat_tests}
use Rattle.std.proofs.lemmas.Fmt.{digits_is_IsNumeral, decimal_is_IsNumeral}
use Rattle.std.proofs.lemmas.Bool.{and_parts}
use Rattle.inp_codes.specs.Table.{is_name_word, is_word_byte}
use Rattle.inp_codes.specs.KindNames.{kind_name, kind_of}
use Rattle.inp_codes.specs.CodeNames.{name_of, code_of}
use Rattle.inp_codes.proofs.LawLemmas.{kind_name-iff_kind_of, is_name_word-kind_name, name_of-iff_code_of}
use Rattle.inp_codes.proofs.LawLemmas.{is_name_word-name_of}
use Rattle.inp_texts.specs.Texts.{kind_text, code_text, bits_text, clock_text}
use Rattle.inp_actors.specs.Name.{is_name, is_name_byte}
use Rattle.inp_texts.specs.Line.{is_word}
use Rattle.inp_texts.specs.Number.{digit_of, is_digit, value_of, is_hexadecimal, numeral, number}
use Rattle.inp_texts.specs.Number.{signed_number}
use Rattle.inp_texts.specs.Code.{or_number, kind_word, code_of_kind, code_word}
use Rattle.inp_texts.proofs.Numerals.{numeral_is}
use Rattle.inp_model.specs.declared.clock.Clock as clock
use Rattle.inp_model.specs.declared.clock.Clock.TheVariants.{Realtime}
use Rattle.inp_record.proofs.PlainLines.{all_weaker, is_visible, IsPlainWord, is_plain}

-- digits in a base

module _ (base : ℕ) (low : base ≤ 16) where
  same_digit : (c : ℕ) → digit_value c < base → digit_of c ≡ digit_value c
  same_digit c d = grind (arith, nat_tests)

  digit_visible : (c : ℕ) → digit_value c < base → is_visible c ≡ true
  digit_visible c d = grind (arith, nat_tests)

  digit_is : (c : ℕ) → digit_value c < base → is_digit base c ≡ true
  digit_is c d = let same = same_digit c d in grind (arith, nat_tests)

  digits_are : (ds : List ℕ) → AllDigits base ds → list_all (is_digit base) ds ≡ true
  digits_are [] h = refl
  digits_are (c ∷ ds) h = rw (digit_is c h.0, digits_are ds h.1) refl

  digits_visible : (ds : List ℕ) → AllDigits base ds → list_all is_visible ds ≡ true
  digits_visible [] h = refl
  digits_visible (c ∷ ds) h = rw (digit_visible c h.0, digits_visible ds h.1) refl

  same_value : (start : ℕ) (ds : List ℕ) → AllDigits base ds
      → fold (λ value b. base * value + digit_of b) start ds ≡ digits_value_after base start ds
  same_value start [] h = refl
  same_value start (c ∷ ds) h =
      let next : base * start + digit_of c ≡ start * base + digit_value c = omega (arith, same_digit c h.0) in
      rw next (same_value (start * base + digit_value c) ds h.1)

  -- a numeral is read as its value
  numeral_read : (most n : ℕ) (ds : List ℕ) → IsNumeral base ds → digits_value base ds ≡ n → n ≤ most
      → numeral base most ds ≡ Some n
  numeral_read most n ds h v le =
      let value : value_of base ds ≡ n = same_value 0 ds h.1 ∙ v in
      rw (numeral_is base most ds h.0 (digits_are ds h.1) (omega arith), value)

some_word : (w : List ℕ) → 0 < length w → is_word w ≡ true
some_word w h = grind (arith, nat_tests)

numeral_plain : (base : ℕ) (ds : List ℕ) → base ≤ 16 → IsNumeral base ds → is_plain ds ≡ true
numeral_plain base ds low h = rw (some_word ds h.0, digits_visible base low ds h.1) refl

-- decimal numbers

no_x : (c : ℕ) → digit_value c < 10 → nat_eq 120 c ≡ false
no_x c h = grind (arith, nat_tests)

decimal_no_prefix : (ds : List ℕ) → AllDigits 10 ds → is_hexadecimal ds ≡ false
decimal_no_prefix [] h = refl
decimal_no_prefix (c ∷ []) h = and-false (nat_eq 48 c)
decimal_no_prefix (c ∷ d ∷ ds) h = rw (no_x d h.1.0) (and-false (nat_eq 48 c))

-- the decimal digits of a number are read as that number
pub decimal_read : (most n : ℕ) → n ≤ most → n < 2 ^ 64 → number most (decimal n) ≡ Some n
unfolding number
decimal_read most n le small =
    let is = decimal_is_IsNumeral n small in
    rw (decimal_no_prefix (decimal n) is.0.1) (numeral_read 10 (omega arith) most n (decimal n) is.0 is.1 le)

-- it has a digit, and each digit is visible
pub decimal_plain : (n : ℕ) → n < 2 ^ 64 → is_plain (decimal n) ≡ true
decimal_plain n small = numeral_plain 10 (decimal n) (omega arith) (decimal_is_IsNumeral n small).0

-- numbers with a sign

no_minus : (c : ℕ) → digit_value c < 10 → nat_eq c 45 ≡ false
no_minus c h = grind (arith, nat_tests)

signed_plus : (ds : List ℕ) → IsNumeral 10 ds
    → signed_number ds ≡ option_map (λ n. pos n) (number (2 ^ 31 - 1) ds)
unfolding signed_number
signed_plus [] h = absurd (omega (arith, h.0))
signed_plus (c ∷ ds) h = rw (no_minus c h.1.0) refl

-- a minus and the digits of the opposite number are read as the negative one
pub signed_read : (z : ℤ) → FitsSigned w32 z → signed_number (signed_decimal z) ≡ Some z
unfolding signed_number
signed_read (pos n) h =
    let small : n < 2 ^ 31 = omega (arith, h.sfits) in
    signed_plus (decimal n) (decimal_is_IsNumeral n (omega arith)).0
    ∙ ap (option_map (λ n. pos n)) (decimal_read (2 ^ 31 - 1) n (omega arith) (omega arith))
signed_read (negsuc n) h =
    let small : n < 2 ^ 31 = omega (arith, h.sfits) in
    ap (option_map (λ n. neg_ℤ (pos n))) (decimal_read (2 ^ 31) (suc n) (omega arith) (omega arith))

-- it has a digit, and a minus is visible too
pub signed_plain : (z : ℤ) → FitsSigned w32 z → is_plain (signed_decimal z) ≡ true
signed_plain (pos n) h = let small : n < 2 ^ 31 = omega (arith, h.sfits) in decimal_plain n (omega arith)
signed_plain (negsuc n) h =
    let small : n < 2 ^ 31 = omega (arith, h.sfits) in
    let plain =
    and_parts (is_word (decimal (suc n))) (list_all is_visible (decimal (suc n)))
    (decimal_plain (suc n) (omega arith)) in
    rw (some_word (45 ∷ decimal (suc n)) (omega arith), plain.1) refl

-- 64 bits

zeros_digits : (k : ℕ) (ds : List ℕ) → AllDigits 16 ds → AllDigits 16 (replicate k 48 ++ ds)
zeros_digits zero ds h = h
zeros_digits (suc k) ds h = (omega arith, zeros_digits k ds h)

zeros_value : (k : ℕ) (ds : List ℕ) → digits_value 16 (replicate k 48 ++ ds) ≡ digits_value 16 ds
zeros_value zero ds = refl
zeros_value (suc k) ds = zeros_value k ds

zeros_length : (k : ℕ) (ds : List ℕ) → 0 < length ds → 0 < length (replicate k 48 ++ ds)
zeros_length zero ds h = h
zeros_length (suc k) ds h = omega arith

-- the sixteen digits of 64 bits
abbrev bits_digits : ℕ → List ℕ
bits_digits bits = replicate (16 - length (digits 16 false bits)) 48 ++ digits 16 false bits

bits_numeral : (bits : ℕ) → bits < 2 ^ 64
    → IsNumeral 16 (bits_digits bits) × (digits_value 16 (bits_digits bits) ≡ bits)
bits_numeral bits small =
    let is = digits_is_IsNumeral 16 false (omega arith) (omega arith) bits (omega arith) in
    let k : ℕ = 16 - length (digits 16 false bits) in (
      (zeros_length k (digits 16 false bits) is.0.0, zeros_digits k (digits 16 false bits) is.0.1),
      zeros_value k (digits 16 false bits) ∙ is.1,
    )

-- sixteen digits in base 16 behind 0x are read as the number
pub bits_read : (bits : ℕ) → bits < 2 ^ 64 → number (2 ^ 64 - 1) (bits_text bits) ≡ Some bits
unfolding number bits_text
bits_read bits small =
    let is = bits_numeral bits small in
    numeral_read 16 (omega arith) (2 ^ 64 - 1) bits (bits_digits bits) is.0 is.1 (omega arith)

-- 0x and the digits behind it are visible
pub bits_plain : (bits : ℕ) → bits < 2 ^ 64 → is_plain (bits_text bits) ≡ true
unfolding bits_text
bits_plain bits small =
    let is = bits_numeral bits small in
    rw (
      some_word (48 ∷ 120 ∷ bits_digits bits) (omega arith),
      digits_visible 16 (omega arith) (bits_digits bits) is.0.1,
    ) refl

-- types and codes by their names

upper_visible : (b : ℕ) → is_ascii_uppercase b ≡ true → is_visible b ≡ true
upper_visible b h = grind (arith, nat_tests)

name_plain : (w : List ℕ) → is_name_word w ≡ true → is_plain w ≡ true
name_plain [] h = absurd (cc h)
name_plain (b ∷ w) h =
    let g = and_parts (is_ascii_uppercase b) (list_all is_word_byte w) h in
    rw (
      some_word (b ∷ w) (omega arith),
      upper_visible b g.0,
      all_weaker is_word_byte is_visible (λ c v. grind (arith, nat_tests)) w g.1,
    ) refl

-- no number is a name
digit_no_name : (c : ℕ) → digit_value c < 10 → is_ascii_uppercase c ≡ false
digit_no_name c h = grind (arith, nat_tests)

decimal_no_name : (ds : List ℕ) → IsNumeral 10 ds → is_name_word ds ≡ true → ⊥
decimal_no_name [] h n = omega (arith, h.0)
decimal_no_name (c ∷ ds) h n =
    cc ((and_parts (is_ascii_uppercase c) (list_all is_word_byte ds) n).0, digit_no_name c h.1.0)

-- so a table of names has no number
number_unnamed : {A : Type 0} (found : Option A) (n : ℕ) → n < 2 ^ 64
    → ((a : A) → found ≡ Some a → is_name_word (decimal n) ≡ true) → found ≡ None
number_unnamed None n small named = refl
number_unnamed (Some a) n small named =
    absurd (decimal_no_name (decimal n) (decimal_is_IsNumeral n small).0 (named a refl))

number_no_kind : (n : ℕ) → n < 2 ^ 64 → kind_of (decimal n) ≡ None
number_no_kind n small =
    number_unnamed (kind_of (decimal n)) n small
    (λ kind h. is_name_word-kind_name kind (decimal n) ((kind_name-iff_kind_of kind (decimal n)).1 h))

number_no_code : (n : ℕ) → n < 2 ^ 64 → code_of (decimal n) ≡ None
number_no_code n small =
    number_unnamed (code_of (decimal n)) n small (λ named h.
    is_name_word-name_of named.0 named.1 (decimal n) ((name_of-iff_code_of named.0 named.1 (decimal n)).1 h))

-- a name, or a number where there is none
named_plain : (name : Option (List ℕ)) (n : ℕ)
    → ((w : List ℕ) → name ≡ Some w → is_name_word w ≡ true) → n ≤ 65535
    → is_plain (unwrap_or name (decimal n)) ≡ true
named_plain (Some w) n named h = name_plain w (named w refl)
named_plain None n named h = decimal_plain n (omega arith)

-- a type's name is read as the type, and where it has no name its number is
pub kind_read : (kind : ℕ) → kind ≤ 65535 → kind_word (kind_text kind) ≡ Some kind
unfolding kind_word kind_text
kind_read kind h = by_name (kind_name kind) refl
  where
    by_name : (name : Option (List ℕ)) → kind_name kind ≡ name
        → or_number (kind_of (unwrap_or name (decimal kind))) (unwrap_or name (decimal kind)) ≡ Some kind
    by_name (Some name) e = rw ((kind_name-iff_kind_of kind name).0 e) refl
    by_name None e = rw (number_no_kind kind (omega arith)) (decimal_read 65535 kind h (omega arith))

-- it is a name or a decimal number, and both are plain
pub kind_plain : (kind : ℕ) → kind ≤ 65535 → is_plain (kind_text kind) ≡ true
unfolding kind_text
kind_plain kind h = named_plain (kind_name kind) kind (is_name_word-kind_name kind) h

-- a code's name is read as the code of its type, and where it has no name its number is
pub code_read : (kind code : ℕ) → code ≤ 65535 → code_word kind (code_text kind code) ≡ Some code
unfolding code_word code_text
code_read kind code h = by_name (name_of kind code) refl
  where
    same : nat_eq kind kind ≡ true
    same = grind (arith, nat_tests)

    by_name : (name : Option (List ℕ)) → name_of kind code ≡ name
        → code_of_kind kind (code_of (unwrap_or name (decimal code)))
        (unwrap_or name (decimal code)) ≡ Some code
    by_name (Some name) e = rw ((name_of-iff_code_of kind code name).0 e, same) refl
    by_name None e = rw (number_no_code code (omega arith)) (decimal_read 65535 code h (omega arith))

-- it is a name or a decimal number, and both are plain
pub code_plain : (kind code : ℕ) → code ≤ 65535 → is_plain (code_text kind code) ≡ true
unfolding code_text
code_plain kind code h = named_plain (name_of kind code) code (is_name_word-name_of kind code) h

-- clocks and names

-- for each clock the word is plain
pub clock_plain : (k : clock.Clock) → is_plain (clock_text k) ≡ true
unfolding clock_text
clock_plain Realtime = refl
clock_plain clock = refl

-- a name is not empty, and its bytes are visible
pub is_plain-name : (w : List ℕ) → is_name w ≡ true → is_plain w ≡ true
is_plain-name w h =
    let g = and_parts (nat_le 1 (length w) && nat_le (length w) 32) (list_all is_name_byte w) h in
    let long = (and_parts (nat_le 1 (length w)) (nat_le (length w) 32) g.0).0 in
    let some : 0 < length w = grind (arith, nat_tests) in
    rw (some_word, all_weaker is_name_byte is_visible (λ c v. grind (arith, nat_tests)) w g.1) refl

-- the test asks for no more than the definition does
pub is_plain-word : (w : List ℕ) → IsPlainWord w → is_plain w ≡ true
is_plain-word w h = rw (h.some, h.visible) refl

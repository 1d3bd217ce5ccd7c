-- How words of 64 bits keep a list of truth values.
use Rattle.std.specs.Prelude.{slice_index, ◌==◌, ◌<◌, ◌≤◌, ◌^◌}
use Rattle.std.proofs.Common.{◌≡◌, ℕ, zero, suc, Bool, false, cond, List, [], ◌∷◌, ◌++◌, length, take, drop, get_or, refl, ap, ◌∙◌, subst, arith}
use Rattle.std.specs.Int.{bit_at}
use Rattle.std.specs.List.{flat_map}
use Rattle.std.proofs.lemmas.List.{take_at, drop_at}
use Rattle.std.proofs.lemmas.List.FromFn.{length-map-range_with_len, get_or-map-range_with_len}
use Rattle.std.proofs.lemmas.Nat.Bits.{same_from_bits_below, bit_at-lt}
use Rattle.std.proofs.lemmas.Simd.{mask_l-lt, bit_mask_l}
use Rattle.std.proofs.lemmas.Bool.Decides.{nat_tests}
use lib.Lanes.{mask_l as number_of}
use Rattle.inp_bits.specs.Bits.{word_bits}

-- the list that words keep: 64 values a word, the first in the lowest bit of the first word
unfoldable pub bits_of : List ℕ → List Bool
bits_of words = flat_map word_bits words

-- the words that keep a list of 64 values a word: each is the number whose binary digits are the next 64 values, the
-- lowest first
unfoldable pub words_from_bits : ℕ → List Bool → List ℕ
words_from_bits zero bits = []
words_from_bits (suc n) bits = number_of (take 64 bits) ∷ words_from_bits n (drop 64 bits)

-- there are `width` words of 64 bits, and few enough that each index is below 65,536
pub record AreWords (width : ℕ) (words : List ℕ) : Type 0 where
  pub count : length words ≡ width
  pub few : width ≤ 1024
  pub fit : (k : ℕ) → slice_index words k < 2 ^ 64

-- ---- the words come back from the list that they keep

pub length-word_bits : (word : ℕ) → length (word_bits word) ≡ 64
unfolding word_bits
length-word_bits word = length-map-range_with_len (λ k. bit_at word k == 1) 0 64

pub get_or-word_bits : (word k : ℕ) → k < 64 → get_or (word_bits word) k false ≡ (bit_at word k == 1)
unfolding word_bits
get_or-word_bits word k h = get_or-map-range_with_len (λ k. bit_at word k == 1) 0 64 k k false h (omega arith)

digit_of_test : (n : ℕ) → n < 2 → cond (n == 1) 1 0 ≡ n
digit_of_test n h = grind (arith, nat_tests)

pub number_of-word_bits : (word : ℕ) → word < 2 ^ 64 → number_of (word_bits word) ≡ word
number_of-word_bits word h =
    same_from_bits_below 64 (number_of (word_bits word)) word
    (subst (λ (n : ℕ). number_of (word_bits word) < 2 ^ n) (length-word_bits word) (mask_l-lt (word_bits word)))
    h
    (λ i l. bit_mask_l (word_bits word) i ∙ ap (λ b. cond b 1 0) (get_or-word_bits word i l) ∙ digit_of_test (bit_at word i) (bit_at-lt word i))

pub words_from_bits-bits_of : (width : ℕ) (words : List ℕ) → length words ≡ width → ((k : ℕ) → get_or words k 0 < 2 ^ 64) → words_from_bits width (bits_of words) ≡ words
unfolding bits_of words_from_bits
words_from_bits-bits_of zero [] e h = refl
words_from_bits-bits_of zero (word ∷ words) e h = absurd (omega arith)
words_from_bits-bits_of (suc n) [] e h = absurd (omega arith)
words_from_bits-bits_of (suc n) (word ∷ words) e h =
    let front : take 64 (word_bits word ++ flat_map word_bits words) ≡ word_bits word = take_at (word_bits word) (flat_map word_bits words) 64 (length-word_bits word) in
    let back : drop 64 (word_bits word ++ flat_map word_bits words) ≡ flat_map word_bits words = drop_at (word_bits word) (flat_map word_bits words) 64 (length-word_bits word) in
    let first : number_of (take 64 (word_bits word ++ flat_map word_bits words)) ≡ word = ap number_of front ∙ number_of-word_bits word (h 0) in
    let others : words_from_bits n (drop 64 (word_bits word ++ flat_map word_bits words)) ≡ words = ap (words_from_bits n) back ∙ words_from_bits-bits_of n words (omega arith) (λ k. h (suc k)) in
    ap (λ (x : ℕ). x ∷ words_from_bits n (drop 64 (word_bits word ++ flat_map word_bits words))) first ∙ ap (λ (xs : List ℕ). word ∷ xs) others

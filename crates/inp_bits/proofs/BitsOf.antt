-- The list that words keep: its length, its values, what a write of a word changes, and how many values are
-- true.
use Rattle.std.proofs.Common.{◌≡◌, ◌==◌, ℕ, zero, suc, ◌+◌, ◌-◌, ◌*◌, ◌/◌, ◌%◌, ◌^◌, ◌<◌, ◌≤◌, Bool, true}
use Rattle.std.proofs.Common.{false, cond, List, [], ◌∷◌, ◌++◌, length, take, drop, set, get_or, replicate}
use Rattle.std.proofs.Common.{refl, sym, ap, ◌∙◌, arith, inl, inr, length-append, take-append-drop}
use Rattle.std.specs.Prelude.{count_ones, count_by, sum_by, slice_range}
use Rattle.std.specs.Int.{bit_at}
use Rattle.std.specs.List.{flat_map, All}
use Rattle.std.proofs.lemmas.List.{get_or_append_left, get_or-append_right, set-append_left, set-append_right}
use Rattle.std.proofs.lemmas.List.{set_split, take_at, drop_at, drop_more, length-set, length-replicate}
use Rattle.std.proofs.lemmas.List.{length-take-le, get_or-replicate, replicate-append-replicate}
use Rattle.std.proofs.lemmas.List.{get_or-set_same, get_or-set_other, ext_get_or, map-id, append_assoc}
use Rattle.std.proofs.lemmas.List.Concat.{flat_map-append}
use Rattle.std.proofs.lemmas.List.Elements.{All-from_get_or}
use Rattle.std.proofs.lemmas.List.Sums.{sum_by-append, sum_by-cons}
use Rattle.std.proofs.lemmas.Nat.{ones-le}
use Rattle.std.proofs.lemmas.Nat.Bits.{bit_at-zero, bit_at_ones}
use Rattle.std.proofs.lemmas.Simd.{ones-mask_l}
use Rattle.std.proofs.lemmas.Bool.{cases_eq}
use lib.Lanes.{mask_l as number_of}
use Rattle.inp_bits.specs.Bits.{is_on_at, word_bits}
use Rattle.inp_bits.specs.Words.{AreWords, bits_of, length-word_bits, get_or-word_bits, number_of-word_bits}

-- ---- lengths and parts

-- one word more in front
pub bits_of-cons : (word : ℕ) (words : List ℕ) → bits_of (word ∷ words) ≡ word_bits word ++ bits_of words
unfolding bits_of
bits_of-cons word words = refl

-- the words of two lists keep one list after the other
pub bits_of-append : (xs ys : List ℕ) → bits_of (xs ++ ys) ≡ bits_of xs ++ bits_of ys
unfolding bits_of
bits_of-append xs ys = flat_map-append word_bits xs ys

-- 64 values a word
pub length-bits_of : (words : List ℕ) → length (bits_of words) ≡ 64 * length words
unfolding bits_of
length-bits_of [] = refl
length-bits_of (word ∷ words) =
    length-append (word_bits word) (flat_map word_bits words)
    ∙ omega (arith, length-word_bits word, length-bits_of words)

-- a list has 64 values a word
pub length_from_words : (width : ℕ) (words : List ℕ) (bits : List Bool) → AreWords width words
    → bits_of words ≡ bits → length bits ≡ 64 * width
length_from_words width words bits kept view = rw (← view, length-bits_of words, kept.count)

front_length : (words : List ℕ) (q : ℕ) → q ≤ length words → length (bits_of (take q words)) ≡ 64 * q
front_length words q h = rw (length-bits_of (take q words), length-take-le q words h)

parts : (words : List ℕ) (q : ℕ) → bits_of words ≡ bits_of (take q words) ++ bits_of (drop q words)
parts words q = ap bits_of (sym (take-append-drop q words)) ∙ bits_of-append (take q words) (drop q words)

-- the values of the first q words
pub take-bits_of : (words : List ℕ) (q : ℕ) → q ≤ length words
    → take (64 * q) (bits_of words) ≡ bits_of (take q words)
take-bits_of words q h =
    ap (take (64 * q)) (parts words q)
    ∙ take_at (bits_of (take q words)) (bits_of (drop q words)) (64 * q) (front_length words q h)

-- the values of the words from q on
pub drop-bits_of : (words : List ℕ) (q : ℕ) → q ≤ length words
    → drop (64 * q) (bits_of words) ≡ bits_of (drop q words)
drop-bits_of words q h =
    ap (drop (64 * q)) (parts words q)
    ∙ drop_at (bits_of (take q words)) (bits_of (drop q words)) (64 * q) (front_length words q h)

-- ---- one value

-- value k of word q
pub get_or-bits_of : (words : List ℕ) (q k : ℕ) → k < 64
    → get_or (bits_of words) (64 * q + k) false ≡ (bit_at (get_or words q 0) k == 1)
unfolding bits_of
get_or-bits_of [] q k h = rw (bit_at-zero k)
get_or-bits_of (word ∷ words) zero k h =
    let here : 64 * zero + k ≡ k = omega arith in
    rw (
      here,
      get_or_append_left (word_bits word) (flat_map word_bits words) false k
          (omega (arith, length-word_bits word)),
    ) (get_or-word_bits word k h)
get_or-bits_of (word ∷ words) (suc q) k h =
    let there : 64 * suc q + k - 64 ≡ 64 * q + k = omega arith in
    rw (
      get_or-append_right (word_bits word) (flat_map word_bits words) 64 (64 * suc q + k) false
          (length-word_bits word) (omega arith),
      there,
    ) (get_or-bits_of words q k h)

-- value i
pub is_on_at-bits_of : (words : List ℕ) (i : ℕ)
    → is_on_at (bits_of words) i ≡ (bit_at (get_or words (i / 64) 0) (i % 64) == 1)
is_on_at-bits_of words i =
    let whole : i ≡ 64 * (i / 64) + i % 64 = omega arith in
    ap (is_on_at (bits_of words)) whole ∙ get_or-bits_of words (i / 64) (i % 64) (omega arith)

-- the bits of a word in which bit k alone was written
pub word_bits-set : (word written k : ℕ) (on : Bool) → k < 64 → (bit_at written k == 1) ≡ on
    → ((j : ℕ) → j < 64 → (j ≡ k → ⊥) → bit_at written j ≡ bit_at word j)
    → word_bits written ≡ set (word_bits word) k on
word_bits-set word written k on h same others =
    ext_get_or false (word_bits written) (set (word_bits word) k on)
    (length-word_bits written ∙ sym (length-set (word_bits word) k on ∙ length-word_bits word))
    (λ j l. let within : j < 64 = omega (arith, length-word_bits written) in
    elim (cases_eq j k) [
      | inl e ↦ cc (
        get_or-word_bits written j within,
        e,
        same,
        sym
            (rw (← e) at (get_or-set_same (word_bits word) k on false
            (omega (arith, length-word_bits word)))),
      )
      | inr n ↦ rw (get_or-word_bits written j within, others j within n)
          (sym (get_or-set_other (word_bits word) k j on false n ∙ get_or-word_bits word j within))
    ])

-- ---- a write

-- value k of word q is written
pub bits_of-set_value : (words : List ℕ) (q k written : ℕ) (on : Bool) → q < length words → k < 64
    → (bit_at written k == 1) ≡ on
    → ((j : ℕ) → j < 64 → (j ≡ k → ⊥) → bit_at written j ≡ bit_at (get_or words q 0) j)
    → bits_of (set words q written) ≡ set (bits_of words) (64 * q + k) on
unfolding bits_of
bits_of-set_value [] q k written on l h same others = absurd (omega arith)
bits_of-set_value (word ∷ words) zero k written on l h same others =
    let here : 64 * zero + k ≡ k = omega arith in
    let first : word_bits written ≡ set (word_bits word) k on =
    word_bits-set word written k on h same others in
    rw first
    (sym
    (rw here (set-append_left (word_bits word) (flat_map word_bits words) k on
    (omega (arith, length-word_bits word)))))
bits_of-set_value (word ∷ words) (suc q) k written on l h same others =
    let there : 64 * suc q + k - 64 ≡ 64 * q + k = omega arith in
    rw (bits_of-set_value words q k written on (omega arith) h same others)
    (sym
    (rw (
      set-append_right (word_bits word) (flat_map word_bits words) 64 (64 * suc q + k) on
          (length-word_bits word) (omega arith),
      there,
    )))

-- word q is written
pub bits_of-set : (words : List ℕ) (q word : ℕ) → q < length words
    → bits_of (set words q word) ≡ (take (64 * q) (bits_of words) ++ word_bits word)
    ++ drop (64 * q + 64) (bits_of words)
bits_of-set words q word h =
    let next : 64 * q + 64 ≡ 64 * suc q = omega arith in
    let front : take (64 * q) (bits_of words) ≡ bits_of (take q words) = take-bits_of words q (omega arith) in
    let back : drop (64 * q + 64) (bits_of words) ≡ bits_of (drop (suc q) words) =
    rw next (drop-bits_of words (suc q) (omega arith)) in
    let split : bits_of (set words q word) ≡ bits_of (take q words)
    ++ (word_bits word ++ bits_of (drop (suc q) words)) =
    rw (
      set_split words q word h,
      bits_of-append (take q words) (word ∷ drop (suc q) words),
      bits_of-cons word (drop (suc q) words),
    ) in
    split ∙ sym (append_assoc (bits_of (take q words)) (word_bits word) (bits_of (drop (suc q) words)))
    ∙ sym (rw (front, back))

-- ---- a word read

-- the values of word q
pub slice_range-bits_of : (words : List ℕ) (q : ℕ) → q < length words
    → slice_range (bits_of words) (64 * q) (64 * q + 64) ≡ word_bits (get_or words q 0)
slice_range-bits_of words q h =
    let long : 64 * q + 64 - 64 * q ≡ 64 = omega arith in
    let rest : drop (64 * q) (bits_of words) ≡ word_bits (get_or words q 0) ++ bits_of (drop (q + 1) words) =
    drop-bits_of words q (omega arith) ∙ ap bits_of (drop_more words q 0 h)
    ∙ bits_of-cons (get_or words q 0) (drop (q + 1) words) in
    rw (long, rest)
    (take_at (word_bits (get_or words q 0)) (bits_of (drop (q + 1) words)) 64
    (length-word_bits (get_or words q 0)))

-- ---- how many values are true

count_by-word_bits : (word : ℕ) → word < 2 ^ 64 → count_ones word ≡ count_by (λ b. b) (word_bits word)
count_by-word_bits word h =
    ap count_ones (sym (ap number_of (map-id (word_bits word)) ∙ number_of-word_bits word h))
    ∙ ones-mask_l (λ (b : Bool). b) (word_bits word)

-- as many values are true as bits of the words are set
pub count_by-bits_of : (words : List ℕ) → ((k : ℕ) → get_or words k 0 < 2 ^ 64)
    → sum_by count_ones words ≡ count_by (λ b. b) (bits_of words)
unfolding bits_of
count_by-bits_of [] h = refl
count_by-bits_of (word ∷ words) h =
    let first : count_ones word ≡ count_by (λ b. b) (word_bits word) = count_by-word_bits word (h 0) in
    let rest : sum_by count_ones words ≡ count_by (λ b. b) (flat_map word_bits words) =
    count_by-bits_of words (λ k. h (suc k)) in
    rw (sum_by-cons count_ones word words, first, rest)
    (sym (sum_by-append (λ (b : Bool). cond b 1 0) (word_bits word) (flat_map word_bits words)))

-- each word has at most 64
pub All-count_ones : (words : List ℕ) → ((k : ℕ) → get_or words k 0 < 2 ^ 64)
    → All (λ n. count_ones n ≤ 64) words
All-count_ones words h =
    All-from_get_or (λ n. count_ones n ≤ 64) words 0 (λ i l. ones-le 64 (get_or words i 0) (h i))

-- ---- the words of a list that is all false, or all true

-- a word whose bits are all alike
word_bits-replicate : (word : ℕ) (on : Bool) → ((k : ℕ) → k < 64 → (bit_at word k == 1) ≡ on)
    → word_bits word ≡ replicate 64 on
word_bits-replicate word on h =
    ext_get_or false (word_bits word) (replicate 64 on)
    (length-word_bits word ∙ sym (length-replicate 64 on))
    (λ k l. let within : k < 64 = omega (arith, length-word_bits word) in
    get_or-word_bits word k within ∙ h k within ∙ sym (get_or-replicate 64 k on false within))

-- words whose bits are all alike keep a list that is
pub bits_of-replicate : (word : ℕ) (on : Bool) → ((k : ℕ) → k < 64 → (bit_at word k == 1) ≡ on) → (n : ℕ)
    → bits_of (replicate n word) ≡ replicate (64 * n) on
unfolding bits_of
bits_of-replicate word on h zero = refl
bits_of-replicate word on h (suc n) =
    let long : 64 + 64 * n ≡ 64 * suc n = omega arith in
    rw (
      word_bits-replicate word on h,
      bits_of-replicate word on h n,
      replicate-append-replicate 64 (64 * n) on,
      long,
    )

-- words that are 0 keep false values
pub bits_of-zeros : (n : ℕ) → bits_of (replicate n 0) ≡ replicate (64 * n) false
bits_of-zeros = bits_of-replicate 0 false (λ k h. rw (bit_at-zero k))

-- words that are `u64::MAX` keep true values
pub bits_of-ones : (n : ℕ) → bits_of (replicate n (2 ^ 64 - 1)) ≡ replicate (64 * n) true
bits_of-ones = bits_of-replicate (2 ^ 64 - 1) true (λ k h. rw (bit_at_ones 64 k h))

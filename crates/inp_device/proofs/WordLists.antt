-- The words of a list of truth values, as a query answers them.
use Rattle.std.proofs.Common.{◌≡◌, ◌==◌, ℕ, ◌+◌, ◌-◌, ◌*◌, drop, ◌^◌, ◌<◌, ◌≤◌, Bool, false, List, [], ◌∷◌}
use Rattle.std.proofs.Common.{length, map, set, get_or, replicate, refl, sym, ap, ◌∙◌, arith, inl, inr}
use Rattle.std.specs.Prelude.{slice_range}
use Rattle.std.specs.List.{range_with_len}
use Rattle.std.specs.Int.{bit_at}
use Rattle.std.proofs.Math.Path.{fun_ext}
use Rattle.std.proofs.lemmas.Bool.{cases_lt, cases_eq}
use Rattle.std.proofs.lemmas.List.{get_or_past, get_or-take, get_or-drop, length-set, get_or-set_same}
use Rattle.std.proofs.lemmas.List.{get_or-set_other}
use Rattle.std.proofs.lemmas.List.FromFn.{fill_by_all, length-map-range_with_len, get_or-map-range_with_len}
use Rattle.std.specs.Simd.Lanes.{mask_l}
use Rattle.inp_bits.specs.Bits.{is_on_at, word_bits}
use Rattle.inp_bits.specs.Words.{get_or-word_bits, number_of-word_bits}
use Rattle.inp_model.proofs.Descriptions.{get_or-replicate_same}
use Rattle.inp_model.specs.Reply.{number_of_bits, bitmap_word, bitmap_of}

-- two functions that agree below a number have the same values there
pub map-same : {X : Type 0} → (x : X) (n : ℕ) (f g : ℕ → X) → ((k : ℕ) → k < n → f k ≡ g k)
    → map f (range_with_len 0 n) ≡ map g (range_with_len 0 n)
map-same x n f g same =
    fill_by_all g (map f (range_with_len 0 n)) n x (length-map-range_with_len f 0 n)
    (λ k h. get_or-map-range_with_len f 0 n k k x h (omega arith) ∙ same k h)

number_of_bits-mask : (bits : List Bool) → mask_l bits ≡ number_of_bits bits
number_of_bits-mask [] = refl
number_of_bits-mask (bit ∷ bits) = rw (number_of_bits-mask bits)

-- the value of the list at a code, false past its end
abbrev pub value_at : List Bool → ℕ → Bool
value_at bits code = get_or bits code false

-- by what `word` ensures, bit k of the word is value i = 64·q + k
is_on_at-word : (bits : List Bool) (q k i word : ℕ) → i ≡ 64 * q + k → k < 64
    → word_bits word ≡ slice_range bits (64 * q) (64 * q + 64) → is_on_at bits i ≡ (bit_at word k == 1)
is_on_at-word bits q k i word place h e =
    rw (
      place,
      ← get_or-drop,
      ← get_or-take (64 * q + 64 - 64 * q) (drop (64 * q) bits) k false (omega arith),
      ← e,
    ) (get_or-word_bits word k h)

word_bits-values : (bits : List Bool) (q word : ℕ) → word_bits word ≡ slice_range bits (64 * q) (64 * q + 64)
    → word_bits word ≡ map (λ k. value_at bits (64 * q + k)) (range_with_len 0 64)
unfolding word_bits
word_bits-values bits q word e =
    map-same false 64 (λ k. bit_at word k == 1) (λ k. value_at bits (64 * q + k))
    (λ k h. sym (is_on_at-word bits q k (64 * q + k) word refl h e))

-- a word of the list
pub word-values : (bits : List Bool) (q word : ℕ) → word < 2 ^ 64
    → word_bits word ≡ slice_range bits (64 * q) (64 * q + 64) → word ≡ bitmap_word (value_at bits) (64 * q)
word-values bits q word fits e =
    sym (number_of-word_bits word fits) ∙ number_of_bits-mask (word_bits word)
    ∙ ap number_of_bits (word_bits-values bits q word e)

zero_word : number_of_bits (map (λ (k : ℕ). false) (range_with_len 0 64)) ≡ 0
zero_word = refl

-- past the end of the list the words are 0
word-past : (bits : List Bool) (q : ℕ) → length bits ≤ 64 * q → bitmap_word (value_at bits) (64 * q) ≡ 0
word-past bits q h =
    ap number_of_bits
    (map-same false 64 (λ k. value_at bits (64 * q + k)) (λ k. false)
    (λ k l. get_or_past bits (64 * q + k) false (omega arith)))
    ∙ zero_word

-- the words up to an index are those of the list, and the others are 0
pub record AreWordsBelow (index : ℕ) (bits : List Bool) (words : List ℕ) : Type 0 where
  -- there are twelve words
  pub count : length words ≡ 12
  -- each word below the index is the list's
  pub below : (k : ℕ) → k < index → get_or words k 0 ≡ bitmap_word (value_at bits) (64 * k)
  -- from the index on each word is 0
  pub others : (k : ℕ) → index ≤ k → get_or words k 0 ≡ 0

-- at index 0 each of the twelve words is 0
pub no_words : (bits : List Bool) → AreWordsBelow 0 bits (replicate 12 0)
no_words bits =
    record { count = refl; below = λ k l. absurd (omega arith); others = λ k l. get_or-replicate_same 12 k 0 }

-- the word at the index is set, and the others stay
pub more_words : (index : ℕ) (bits : List Bool) (words : List ℕ) (word : ℕ) → index < 12
    → word ≡ bitmap_word (value_at bits) (64 * index) → AreWordsBelow index bits words
    → AreWordsBelow (index + 1) bits (set words index word)
more_words index bits words word h is are = record {
  count = length-set words index word ∙ are.count;
  below = λ k l. elim (cases_eq k index) [
    | inl same ↦ rw (same, get_or-set_same words index word 0 (omega (arith, are.count)), is, ← same)
    | inr other ↦ get_or-set_other words index k word 0 other ∙ are.below k (omega arith)
  ];
  others = λ k l. get_or-set_other words index k word 0 (λ same. absurd (omega arith))
      ∙ are.others k (omega arith);
}

-- the words of the whole list
pub words-values : (index : ℕ) (bits : List Bool) (words : List ℕ) → length bits ≤ 64 * index
    → AreWordsBelow index bits words → words ≡ bitmap_of (value_at bits)
words-values index bits words h are =
    fill_by_all (λ w. bitmap_word (value_at bits) (64 * w)) words 12 0 are.count (λ i within.
    elim (cases_lt i index) [
      | inl low ↦ are.below i low
      | inr high ↦ are.others i high ∙ sym (word-past bits i (omega arith))
    ])

-- the words of a test that the list stands for
pub words-same : (bits : List Bool) (test : ℕ → Bool) (words : List ℕ) → words ≡ bitmap_of (value_at bits)
    → ((code : ℕ) → value_at bits code ≡ test code) → words ≡ bitmap_of test
words-same bits test words h same = h ∙ ap bitmap_of (fun_ext same)

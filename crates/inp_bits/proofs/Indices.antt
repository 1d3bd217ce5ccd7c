-- The numbers of a range that pass a test, and the indices at which a list is true.
use Rattle.std.proofs.Common.{◌≡◌, ℕ, zero, suc, ◌+◌, ◌<◌, ◌≤◌, Bool, true, false, List, [], ◌∷◌, length}
use Rattle.std.proofs.Common.{refl, sym, ap, ◌∙◌, arith, inl, inr, ◌-◌, ◌*◌, ◌/◌, ◌%◌, ◌^◌, set, get_or, w64}
use Rattle.std.specs.List.{filter, range_with_len, All}
use Rattle.std.proofs.lemmas.Bool.{cases_eq, cond-true, cond-false, cond_both, cases_lt}
use Rattle.std.proofs.lemmas.List.{get_or_past, length-set, get_or-set_same, get_or-set_other}
use Rattle.std.proofs.lemmas.List.Elements.{All-nil, All-cons, All-weaker}
use Rattle.std.proofs.lemmas.List.FromFn.{length-range_with_len}
use Rattle.std.proofs.lemmas.List.Sums.{length-filter, count_by-le-length}
use Rattle.inp_bits.specs.Bits.{is_on_at, true_indices}
use Rattle.std.specs.Int.{trailing_zeros}
use Rattle.std.proofs.lemmas.Nat.Bits.{bit_at-zero, bit_at-trailing_zeros}
use Rattle.inp_bits.specs.Ones.{IsFalseBelow, IsFirstTrue}
use Rattle.inp_bits.specs.Words.{bits_of}
use Rattle.inp_bits.proofs.BitsOf.{length-bits_of, get_or-bits_of, is_on_at-bits_of}

-- two tests that agree on the range keep the same numbers
pub filter_same : (p q : ℕ → Bool) (a n : ℕ) → ((k : ℕ) → a ≤ k → k < a + n → p k ≡ q k)
    → filter p (range_with_len a n) ≡ filter q (range_with_len a n)
filter_same p q a zero h = refl
filter_same p q a (suc n) h =
    let rest : filter p (range_with_len (a + 1) n) ≡ filter q (range_with_len (a + 1) n) =
    filter_same p q (a + 1) n (λ k l m. h k (omega arith) (omega arith)) in
    rw (h a (omega arith) (omega arith), rest)

-- where no number of the range passes, none is kept
filter_none : (p : ℕ → Bool) (a n : ℕ) → ((k : ℕ) → a ≤ k → k < a + n → p k ≡ false)
    → filter p (range_with_len a n) ≡ []
filter_none p a zero h = refl
filter_none p a (suc n) h =
    rw (h a (omega arith) (omega arith)) (filter_none p (a + 1) n (λ k l m. h k (omega arith) (omega arith)))

-- i is the first that passes p, and q refuses it and agrees with p elsewhere
pub filter_first : (p q : ℕ → Bool) (a n i : ℕ) → a ≤ i → i < a + n → p i ≡ true → q i ≡ false
    → ((k : ℕ) → k < i → p k ≡ false) → ((k : ℕ) → (k ≡ i → ⊥) → p k ≡ q k)
    → filter p (range_with_len a n) ≡ i ∷ filter q (range_with_len a n)
filter_first p q a zero i l m passes refused earlier others = absurd (omega arith)
filter_first p q a (suc n) i l m passes refused earlier others =
    let fp : List ℕ = filter p (range_with_len (a + 1) n) in
    let fq : List ℕ = filter q (range_with_len (a + 1) n) in
    elim (cases_eq a i) [
      | inl e ↦ let rest : filter p (range_with_len (a + 1) n) ≡ filter q (range_with_len (a + 1) n) =
          filter_same p q (a + 1) n (λ k low high. others k (λ same. absurd (omega arith))) in
          cc (
            cond-true (p a) (a ∷ fp) fp (ap p e ∙ passes),
            e,
            rest,
            cond-false (q a) (a ∷ fq) fq (ap q e ∙ refused),
          )
      | inr ne ↦ let no : p a ≡ false = earlier a (omega arith) in
          cc (
            cond-false (p a) (a ∷ fp) fp no,
            filter_first p q (a + 1) n i (omega arith) (omega arith) passes refused earlier others,
            cond-false (q a) (a ∷ fq) fq (sym (others a ne) ∙ no),
          )
    ]

-- each number that is kept is of the range
pub All-filter_range : (p : ℕ → Bool) (a n : ℕ) → All (λ i. i < a + n) (filter p (range_with_len a n))
All-filter_range p a zero = All-nil (λ i. i < a + zero)
All-filter_range p a (suc n) =
    let rest : List ℕ = filter p (range_with_len (a + 1) n) in
    let within : All (λ i. i < a + suc n) (filter p (range_with_len (a + 1) n)) =
    All-weaker (λ i. i < a + 1 + n) (λ i. i < a + suc n) (λ i l. omega arith) rest
    (All-filter_range p (a + 1) n) in
    cond_both (p a) (a ∷ rest) rest (All (λ i. i < a + suc n))
    (λ yes. All-cons (λ i. i < a + suc n) a rest (omega arith) within) (λ no. within)

-- ---- `true_indices`

-- each index is below the list's length
pub true_indices-within : (bits : List Bool) (n : ℕ) → length bits ≡ n → All (λ i. i < n) (true_indices bits)
unfolding true_indices
true_indices-within bits n e =
    All-weaker (λ i. i < 0 + length bits) (λ i. i < n) (λ i l. omega arith) (true_indices bits)
    (All-filter_range (is_on_at bits) 0 (length bits))

-- there are no more indices than values
pub length-true_indices-le : (bits : List Bool) (n : ℕ) → length bits ≡ n → length (true_indices bits) ≤ n
unfolding true_indices
length-true_indices-le bits n e =
    omega (
      arith,
      length-filter (is_on_at bits) (range_with_len 0 (length bits)),
      count_by-le-length (is_on_at bits) (range_with_len 0 (length bits)),
      length-range_with_len 0 (length bits),
    )

-- The first true value of a list, and what is left after it

-- where a word is 0, each of its values is false
false_in_zero : (words : List ℕ) (i : ℕ) → get_or words (i / 64) 0 ≡ 0 → is_on_at (bits_of words) i ≡ false
false_in_zero words i h = rw (is_on_at-bits_of words i, h, bit_at-zero (i % 64))

-- where the words from `first_word` on are 0, no value from there on is true
pub none_true : (words : List ℕ) (first_word : ℕ)
    → ((q : ℕ) → first_word ≤ q → q < length words → get_or words q 0 ≡ 0) → (i : ℕ) → 64 * first_word ≤ i
    → is_on_at (bits_of words) i ≡ false
none_true words first_word zeros i l =
    false_in_zero words i
    (elim (cases_lt (i / 64) (length words)) [
      | inl m ↦ zeros (i / 64) (omega arith) m
      | inr m ↦ get_or_past words (i / 64) 0 m
    ])

-- the words from `first_word` up to `at` are 0, and that at `at` is not
pub first_true_found : (words : List ℕ) (first_word at : ℕ) → first_word ≤ at → at < length words
    → 0 < get_or words at 0 → get_or words at 0 < 2 ^ 64
    → ((q : ℕ) → first_word ≤ q → q < at → get_or words q 0 ≡ 0)
    → IsFirstTrue (bits_of words) (64 * first_word) (64 * at + trailing_zeros w64 (get_or words at 0))
first_true_found words first_word at l m nonzero fits zeros =
    let lowest = bit_at-trailing_zeros w64 (get_or words at 0) nonzero fits in
    record {
      from = omega arith;
      within = omega (arith, length-bits_of words, lowest.0);
      is_true = rw (get_or-bits_of words at (trailing_zeros w64 (get_or words at 0)) lowest.0, lowest.1);
      before = λ k low high. elim (cases_lt k (64 * at)) [
        | inl below ↦ false_in_zero words k (zeros (k / 64) (omega arith) (omega arith))
        | inr above ↦ let split : k ≡ 64 * at + (k - 64 * at) = omega arith in
            let early : k - 64 * at < trailing_zeros w64 (get_or words at 0) = omega arith in
            rw (
              split,
              get_or-bits_of words at (k - 64 * at) (omega (arith, lowest.0)),
              lowest.2 (k - 64 * at) early,
            )
      ];
    }

-- i comes first, and the others are those of the list in which value i is false
pub true_indices-first : (bits : List Bool) (long start i : ℕ) → IsFalseBelow long start bits
    → IsFirstTrue bits start i → true_indices bits ≡ i ∷ true_indices (set bits i false)
unfolding true_indices
true_indices-first bits long start i below first =
    filter_first (is_on_at bits) (is_on_at (set bits i false)) 0 (length bits) i (omega arith)
    (omega (arith, first.within)) first.is_true
    (get_or-set_same bits i false false first.within)
    (λ k l. elim (cases_lt k start)
    [ inl passed ↦ below.before k passed | inr ahead ↦ first.before k ahead l ])
    (λ k ne. sym (get_or-set_other bits i k false false ne))
    ∙ ap (λ (n : ℕ). i ∷ filter (is_on_at (set bits i false)) (range_with_len 0 n))
    (sym (length-set bits i false))

-- nothing is left
pub true_indices-none : (bits : List Bool) (long start : ℕ) → IsFalseBelow long start bits
    → ((k : ℕ) → start ≤ k → is_on_at bits k ≡ false) → true_indices bits ≡ []
unfolding true_indices
true_indices-none bits long start below none =
    filter_none (is_on_at bits) 0 (length bits)
    (λ k l m. elim (cases_lt k start) [ inl passed ↦ below.before k passed | inr ahead ↦ none k ahead ])

-- Flags that take over the words of an answer one by one.
use Rattle.std.proofs.Common.{◌≡◌, ℕ, ◌+◌, ◌-◌, ◌*◌, ◌/◌, ◌%◌, ◌<◌, ◌≤◌, Bool, false, List, ◌++◌, length}
use Rattle.std.proofs.Common.{take, drop, get_or, ◌∙◌, arith, inl, inr, length-append}
use Rattle.std.proofs.lemmas.List.{get_or_append_left, get_or-append_right, get_or-take, length-take-le}
use Rattle.std.proofs.lemmas.List.FromFn.{fill_by_all}
use Rattle.std.proofs.lemmas.Bool.{cases_lt}
use Rattle.inp_bits.specs.Bits.{word_bits}
use Rattle.inp_bits.specs.Words.{length-word_bits, get_or-word_bits}
use Rattle.inp_recon.specs.View.{bit_in, bits_in}

-- the flags of the first n words are as the words tell; that there are 64 a word is known once one was set
pub record AreToldBelow (width n : ℕ) (words : List ℕ) (flags : List Bool) : Type 0 where
  pub long : 0 < n → length flags ≡ 64 * width
  pub told : (k : ℕ) → k < 64 * n → get_or flags k false ≡ bit_in words k

-- the words before the one that is set keep their place
front_length : (width n : ℕ) (words : List ℕ) (flags : List Bool) → n < width
    → AreToldBelow width n words flags → length (take (64 * n) flags) ≡ 64 * n
front_length width n words flags h m =
    elim (cases_lt 0 n) [
      | inl l ↦ length-take-le (64 * n) flags (omega (arith, m.long l))
      | inr l ↦ (let none : n ≡ 0 = omega arith in rw (none, ← none))
    ]

-- one value of the word that is set
bit_within : (word n k : ℕ) (words : List ℕ) → word ≡ get_or words n 0 → 64 * n ≤ k → k < 64 * n + 64
    → get_or (word_bits word) (k - 64 * n) false ≡ bit_in words k
bit_within word n k words e from to =
    let at : n ≡ k / 64 = omega arith in
    let place : k - 64 * n ≡ k % 64 = omega arith in
    rw (← place, ← at, ← e, ← get_or-word_bits word (k - 64 * n) (omega arith))

-- one word more is set
pub AreToldBelow-more : (width n word : ℕ) (words : List ℕ) (old new : List Bool) → n < width
    → AreToldBelow width n words old → word ≡ get_or words n 0
    → new ≡ (take (64 * n) old ++ word_bits word) ++ drop (64 * n + 64) old → length new ≡ 64 * width
    → AreToldBelow width (n + 1) words new
AreToldBelow-more width n word words old new h m e written long =
    let front : length (take (64 * n) old) ≡ 64 * n = front_length width n words old h m in
    let both : length (take (64 * n) old ++ word_bits word) ≡ 64 * n + 64 =
    length-append (take (64 * n) old) (word_bits word) ∙ omega (arith, length-word_bits word) in
    record {
      long = λ some. long;
      told = λ k l.
          rw written
          (get_or_append_left (take (64 * n) old ++ word_bits word)
          (drop (64 * n + 64) old) false k (omega arith)
          ∙ elim (cases_lt k (64 * n)) [
            | inl before ↦ get_or_append_left (take (64 * n) old) (word_bits word) false k (omega arith)
                ∙ get_or-take (64 * n) old k false before ∙ m.told k before
            | inr after ↦ get_or-append_right (take (64 * n) old) (word_bits word)
                (64 * n) k false front after ∙ bit_within word n k words e after (omega arith)
          ]);
    }

-- all words are set
pub bits_in-from_told : (width : ℕ) (words : List ℕ) (flags : List Bool) → 0 < width
    → AreToldBelow width width words flags → flags ≡ bits_in (64 * width) words
unfolding bits_in
bits_in-from_told width words flags h m =
    fill_by_all (bit_in words) flags (64 * width) false (m.long h) m.told

-- Words that are the exclusive or of two lists' words keep the places at which the lists differ.
use Rattle.std.proofs.Common.{◌≡◌, ◌==◌, ℕ, zero, suc, ◌+◌, ◌*◌, ◌/◌, ◌%◌, ◌^◌, ◌<◌, ◌≤◌, List, length}
use Rattle.std.proofs.Common.{get_or, refl, sym, subst, arith, inl, inr}
use Rattle.std.specs.Prelude.{bit_xor}
use Rattle.std.proofs.lemmas.Nat.{xor_lt}
use Rattle.std.proofs.lemmas.Nat.Bits.{bit_at-lt, bit_at_xor}
use Rattle.std.proofs.lemmas.Bool.{cases_lt}
use Rattle.inp_bits.specs.Bits.{is_on_at, bits_differ, true_indices, differing_indices}
use Rattle.inp_bits.specs.Words.{bits_of}
use Rattle.inp_bits.proofs.BitsOf.{length-bits_of, is_on_at-bits_of}
use Rattle.inp_bits.proofs.Indices.{filter_same}

-- the first n words of `words` are the differences of xs and ys, and the others are those of xs
pub record IsXorBelow (n : ℕ) (xs ys words : List ℕ) : Type 0 where
  pub long : length words ≡ length xs
  pub done : (q : ℕ) → q < n → get_or words q 0 ≡ bit_xor (get_or xs q 0) (get_or ys q 0)
  pub others : (q : ℕ) → n ≤ q → get_or words q 0 ≡ get_or xs q 0

-- they are words of 64 bits
pub xor_fits : (n : ℕ) (xs ys words : List ℕ) → length xs ≤ n → IsXorBelow n xs ys words
    → ((k : ℕ) → get_or xs k 0 < 2 ^ 64) → ((k : ℕ) → get_or ys k 0 < 2 ^ 64) → (k : ℕ)
    → get_or words k 0 < 2 ^ 64
xor_fits n xs ys words h m fx fy k =
    elim (cases_lt k n) [
      | inl l ↦ let P : ℕ → Type 0 =
          λ w. w < 2 ^ 64 in
          subst P (sym (m.done k l)) (xor_lt 64 (get_or xs k 0) (get_or ys k 0) (fx k) (fy k))
      | inr l ↦ let P : ℕ → Type 0 = λ w. w < 2 ^ 64 in subst P (sym (m.others k l)) (fx k)
    ]

-- the sum of two binary digits is odd where they differ
digits_differ : (x y : ℕ) → x < 2 → y < 2 → ((x + y) % 2 == 1) ≡ bits_differ (x == 1) (y == 1)
digits_differ zero zero h l = refl
digits_differ zero (suc zero) h l = refl
digits_differ zero (suc (suc y)) h l = absurd (omega arith)
digits_differ (suc zero) zero h l = refl
digits_differ (suc zero) (suc zero) h l = refl
digits_differ (suc zero) (suc (suc y)) h l = absurd (omega arith)
digits_differ (suc (suc x)) y h l = absurd (omega arith)

-- a value of theirs is true where those of xs and ys differ
is_on_at-xor : (n : ℕ) (xs ys words : List ℕ) → IsXorBelow n xs ys words → (i : ℕ) → i < 64 * n
    → is_on_at (bits_of words) i ≡ bits_differ (is_on_at (bits_of xs) i) (is_on_at (bits_of ys) i)
is_on_at-xor n xs ys words m i l =
    let word = m.done (i / 64) (omega arith) in
    let digit = bit_at_xor (get_or xs (i / 64) 0) (get_or ys (i / 64) 0) (i % 64) in
    let small_x = bit_at-lt (get_or xs (i / 64) 0) (i % 64) in
    let small_y = bit_at-lt (get_or ys (i / 64) 0) (i % 64) in
    rw (
      is_on_at-bits_of words i,
      word,
      digit,
      digits_differ _ _ small_x small_y,
      ← is_on_at-bits_of xs i,
      ← is_on_at-bits_of ys i,
    )

-- so its true values stand at the places where the lists differ
pub true_indices-xor : (n : ℕ) (xs ys words : List ℕ) → length xs ≡ n → IsXorBelow n xs ys words
    → true_indices (bits_of words) ≡ differing_indices (bits_of xs) (bits_of ys)
unfolding true_indices differing_indices
true_indices-xor n xs ys words h m =
    let long : length (bits_of words) ≡ length (bits_of xs) =
    rw (length-bits_of words, m.long) (sym (length-bits_of xs)) in
    rw long (filter_same (is_on_at (bits_of words))
    (λ i. bits_differ (is_on_at (bits_of xs) i) (is_on_at (bits_of ys) i)) 0 (length (bits_of xs))
    (λ k l within. is_on_at-xor n xs ys words m k (omega (arith, length-bits_of xs))))

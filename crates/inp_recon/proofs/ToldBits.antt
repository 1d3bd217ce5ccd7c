-- The words of an answer tell the truth values that they were made of.
use Rattle.std.proofs.Common.{◌≡◌, ◌==◌, ◌<◌, ℕ, zero, suc, ◌+◌, ◌*◌, ◌/◌, ◌%◌, Bool, true, false}
use Rattle.std.proofs.Common.{if◌then◌else◌, List, [], ◌∷◌, length, map, get_or, ◌∙◌, arith}
use Rattle.std.specs.Int.{bit_at}
use Rattle.std.specs.List.{range_with_len}
use Rattle.std.proofs.lemmas.Nat.Bits.{bit_at_lowest, bit_at-suc}
use Rattle.std.proofs.lemmas.List.FromFn.{length-map-range_with_len, get_or-map-range_with_len}
use Rattle.inp_model.specs.Reply.{number_of_bits, bitmap_word, bitmap_of}
use Rattle.inp_recon.specs.View.{bit_in, bits_in}

lowest_bit : (bit : Bool) (n : ℕ) → (((if bit then 1 else 0) + 2 * n) % 2 == 1) ≡ bit
lowest_bit true n = let e : (1 + 2 * n) % 2 ≡ 1 = omega arith in rw e
lowest_bit false n = let e : (0 + 2 * n) % 2 ≡ 0 = omega arith in rw e

higher_bits : (bit : Bool) (n : ℕ) → ((if bit then 1 else 0) + 2 * n) / 2 ≡ n
higher_bits true n = omega arith
higher_bits false n = omega arith

bit_of_number : (bits : List Bool) (j : ℕ) → j < length bits
    → (bit_at (number_of_bits bits) j == 1) ≡ get_or bits j false
bit_of_number [] j h = absurd (omega arith)
bit_of_number (bit ∷ bits) zero h = rw bit_at_lowest (lowest_bit bit (number_of_bits bits))
bit_of_number (bit ∷ bits) (suc j) h = rw (bit_at-suc, higher_bits) (bit_of_number bits j (omega arith))

-- one of twelve words of 64 truth values
pub told_bit : (test : ℕ → Bool) (i : ℕ) → i < 768 → bit_in (bitmap_of test) i ≡ test i
told_bit test i h =
    let q : ℕ = i / 64 in
    let k : ℕ = i % 64 in
    let here : get_or (bitmap_of test) q 0 ≡ bitmap_word test (64 * q) =
    get_or-map-range_with_len (λ w. bitmap_word test (64 * w)) 0 12 q q 0 (omega arith) (omega arith) in
    let long : k < length (map (λ j. test (64 * q + j)) (range_with_len 0 64)) =
    omega (arith, length-map-range_with_len (λ j. test (64 * q + j)) 0 64) in
    let place : 64 * q + k ≡ i = omega arith in
    rw (
      here,
      bit_of_number,
      get_or-map-range_with_len (λ j. test (64 * q + j)) 0 64 k k false (omega arith) (omega arith),
      place,
    )

-- so many flags that are as an answer tells
pub told_flag : (count : ℕ) (test : ℕ → Bool) (i : ℕ) → i < count → i < 768
    → get_or (bits_in count (bitmap_of test)) i false ≡ test i
unfolding bits_in
told_flag count test i h k =
    get_or-map-range_with_len (bit_in (bitmap_of test)) 0 count i i false h (omega arith) ∙ told_bit test i k

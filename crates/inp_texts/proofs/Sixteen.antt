-- From lanes to the bytes of a line.
use Rattle.std.proofs.Common.{◌≡◌, ◌≤◌, ◌<◌, ◌+◌, ◌-◌, ◌%◌, ◌^◌, cond, leb, map, replicate, w8, ℕ, Bool, true}
use Rattle.std.proofs.Common.{false, not, List, length, get_or, arith, ◌∙◌}
use Rattle.std.specs.List.{prefix_len}
use lib.Lanes.{chunk, mask_l, top, zip2}
use mir.Val.{bits, hbits, Fits}
use Rattle.std.proofs.lemmas.List.{length-map}
use Rattle.std.proofs.lemmas.Bool.Decides.{nat_tests}
use Rattle.std.proofs.lemmas.Simd.{tops_compared, zip2_splat, zip2_splat_left, map-map, mask_l-mod}
use Rattle.std.proofs.lemmas.Simd.{run_in_chunk_le, run_in_chunk_fails, run_in_chunk_stops}
use Rattle.inp_texts.specs.Line.{is_printed, ArePrinted}

-- a byte less 33, round its 256 values
abbrev lowered : ℕ → ℕ
lowered b = (b + (256 - 33)) % 256

-- is 94 or more where it is not printed
abbrev pub is_above : ℕ → Bool
is_above b = leb 94 (lowered b)

-- the mask of the bytes that are not printed
pub above_mask : (v : List ℕ) → length v ≡ 16
    → mask_l
    (map (top (hbits w8))
    (zip2 (λ a b. cond (leb a b) (2 ^ bits w8 - 1) 0) (replicate 16 94)
    (zip2 (λ a b. (a + (2 ^ bits w8 - b)) % 2 ^ bits w8) v (replicate 16 33)))) % 2 ^ 64
    ≡ mask_l (map is_above v)
above_mask v long =
    let less : zip2 (λ a b. (a + (256 - b)) % 256) v (replicate 16 33) ≡ map lowered v =
    zip2_splat (λ a b. (a + (256 - b)) % 256) v 16 33 long in
    rw (
      tops_compared w8 leb (replicate 16 94) _,
      less,
      zip2_splat_left leb 94 16 (map lowered v) (length-map v lowered ∙ long),
      map-map (leb 94) lowered v,
    )
    (mask_l-mod (map is_above v) 64 (omega (arith, length-map v is_above)))

below_is_printed : (b : ℕ) → b < 256 → is_above b ≡ false → is_printed b ≡ true
below_is_printed b byte h = grind (arith, nat_tests)

above_is_other : (b : ℕ) → b < 256 → is_above b ≡ true → is_printed b ≡ false
above_is_other b byte h = grind (arith, nat_tests)

-- so many printed bytes stand in front among 16
pub record IsRun (line : List ℕ) (at r : ℕ) : Type 0 where
  pub within : r ≤ 16
  pub printed : ArePrinted line at (at + r)
  pub other : r < 16 → is_printed (get_or line (at + r) 0) ≡ false

pub run_is : (line : List ℕ) (at r : ℕ) → at + 16 ≤ length line → ((k : ℕ) → Fits w8 (get_or line k 0))
    → r ≡ prefix_len (λ b. not (is_above b)) (chunk at 16 line) → IsRun line at r
run_is line at r room fits is = record {
  within = run_in_chunk_le is_above line at 16 r 0 room is;
  printed = λ k le lt. below_is_printed (get_or line k 0) (fits k).fits
      (run_in_chunk_fails is_above line at 16 r 0 room is k le lt);
  other = λ lt. above_is_other (get_or line (at + r) 0) (fits (at + r)).fits
      (run_in_chunk_stops is_above line at 16 r 0 room is lt);
}

-- A number whose digits are found one after another, the highest first, and a list of twelve such numbers.
use Rattle.std.proofs.Common.{◌≡◌, ℕ, ◌+◌, ◌-◌, ◌*◌, ◌^◌, ◌<◌, ◌≤◌, Bool, true, false, if◌then◌else◌, List}
use Rattle.std.proofs.Common.{[], ◌∷◌, length, map, set, get_or, replicate, refl, sym, ap, ◌∙◌, subst, arith}
use Rattle.std.proofs.Common.{add-one}
use Rattle.std.specs.List.{range_with_len}
use Rattle.std.specs.Simd.Lanes.{mask_l}
use Rattle.std.proofs.lemmas.List.{length-set}
use Rattle.std.proofs.lemmas.List.Edits.{fill_by_more}
use Rattle.std.proofs.lemmas.List.FromFn.{fill_by_all, length-map-range_with_len}
use Rattle.std.proofs.lemmas.Simd.{mask_l-lt}
use lib.Pow.{pow_mono}
use Rattle.inp_model.specs.Reply.{number_of_bits}

-- so many digits from one on, the first the lowest
abbrev pub number_from : (ℕ → Bool) → ℕ → ℕ → ℕ
number_from test first count = number_of_bits (map test (range_with_len first count))

number_of_bits-mask : (bits : List Bool) → mask_l bits ≡ number_of_bits bits
number_of_bits-mask [] = refl
number_of_bits-mask (bit ∷ bits) = ap (λ n. (if bit then 1 else 0) + 2 * n) (number_of_bits-mask bits)

number_of_bits-lt : (bits : List Bool) → number_of_bits bits < 2 ^ length bits
number_of_bits-lt bits = subst (λ (n : ℕ). n < 2 ^ length bits) (number_of_bits-mask bits) (mask_l-lt bits)

-- fewer than 64 digits leave room for one more
pub number_from-lt : (test : ℕ → Bool) (first count : ℕ) → count < 64 → number_from test first count < 2 ^ 63
number_from-lt test first count h =
    let few : number_from test first count < 2 ^ count =
    subst (λ (n : ℕ). number_from test first count < 2 ^ n) (length-map-range_with_len test first count)
    (number_of_bits-lt (map test (range_with_len first count))) in
    let low : count ≤ 63 = omega arith in
    let most : 2 ^ count ≤ 2 ^ 63 = pow_mono low in
    omega arith

-- a bit is 0 or 1
pub digit-le : (on : Bool) → (if on then 1 else 0) ≤ 1
digit-le true = omega arith
digit-le false = omega arith

-- one digit more, below those that were found
pub number_from-more : (test : ℕ → Bool) (word count : ℕ) → count < 64
    → word ≡ number_from test (64 - count) count
    → 2 * word + (if test (63 - count) then 1 else 0) ≡ number_from test (64 - (count + 1)) (count + 1)
number_from-more test word count h e =
    let digit : ℕ = if test (63 - count) then 1 else 0 in
    let front : 64 - (count + 1) ≡ 63 - count = omega arith in
    let next : 63 - count + 1 ≡ 64 - count = omega arith in
    let swapped : 2 * word + digit ≡ digit + 2 * word = omega arith in
    swapped
    ∙ ap (λ (n : ℕ). digit + 2 * n) (e ∙ ap (λ (a : ℕ). number_from test a count) (sym next))
    ∙ ap (λ (n : ℕ). number_from test (63 - count) n) (sym (add-one count))
    ∙ ap (λ (a : ℕ). number_from test a (count + 1)) (sym front)

-- all 64 digits
pub number_from-whole : (test : ℕ → Bool) (word count : ℕ) → count ≡ 64
    → word ≡ number_from test (64 - count) count → word ≡ number_from test 0 64
number_from-whole test word count same e = e ∙ ap (λ (n : ℕ). number_from test (64 - n) n) same

-- of twelve words those below an index are as a function has them
pub record AreFilled (f : ℕ → ℕ) (index : ℕ) (words : List ℕ) : Type 0 where
  -- there are twelve words
  pub count : length words ≡ 12
  -- each word below the index is as the function has it
  pub below : (k : ℕ) → k < index → get_or words k 0 ≡ f k

-- below index 0 there is no word to fill
pub none_filled : (f : ℕ → ℕ) → AreFilled f 0 (replicate 12 0)
none_filled f = record { count = refl; below = λ k h. absurd (omega arith) }

-- the word at the index is set, and those below it stay
pub more_filled : (f : ℕ → ℕ) (index : ℕ) (words : List ℕ) (word : ℕ) → index < 12 → word ≡ f index
    → AreFilled f index words → AreFilled f (index + 1) (set words index word)
more_filled f index words word h e are =
    let all : (k : ℕ) → k < index + 1 → get_or (set words index (f index)) k 0 ≡ f k =
    fill_by_more f words index 0 (omega (arith, are.count)) are.below in
    record {
      count = length-set words index word ∙ are.count;
      below = subst (λ (n : ℕ). (k : ℕ) → k < index + 1 → get_or (set words index n) k 0 ≡ f k) (sym e) all;
    }

-- at index 12 no word is left, so all are as the function has them
pub all_filled : (f : ℕ → ℕ) (index : ℕ) (words : List ℕ) → 12 ≤ index → AreFilled f index words
    → words ≡ map f (range_with_len 0 12)
all_filled f index words h are = fill_by_all f words 12 0 are.count (λ k l. are.below k (omega arith))

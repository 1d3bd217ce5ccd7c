-- Lines that a loop writes one by one.
use Rattle.std.proofs.Common.{◌≡◌, ℕ, ◌+◌, ◌-◌, ◌<◌, ◌≤◌, List, [], ◌∷◌, ◌++◌, length, take, get_or, refl}
use Rattle.std.proofs.Common.{arith, append_assoc}
use Rattle.std.specs.List.{flat_map, range_with_len, enumerate_from}
use Rattle.std.specs.Prelude.{map}
use Rattle.std.proofs.lemmas.List.{take_all}
use Rattle.std.proofs.lemmas.List.Concat.{flat_map-append}
use Rattle.std.proofs.lemmas.List.FromFn.{length-enumerate_from}
use Rattle.inp_texts.proofs.Written.{written_more, item_more, enumerated_more}
use Rattle.inp_record.specs.canon.Words.{Words, line_text, lines_text}

-- the text of lines that come from many things

pub lines_append : (xs ys : List Words) → lines_text (xs ++ ys) ≡ lines_text xs ++ lines_text ys
lines_append xs ys = flat_map-append line_text xs ys

lines_of_all : {X : Type 0} (f : X → List Words) (xs : List X)
    → lines_text (flat_map f xs) ≡ flat_map (λ x. lines_text (f x)) xs
lines_of_all f [] = refl
lines_of_all f (x ∷ xs) = rw (lines_append, lines_of_all f xs)

lines_of_each : {X : Type 0} (f : X → Words) (xs : List X)
    → lines_text (map f xs) ≡ flat_map (λ x. line_text (f x)) xs
lines_of_each f [] = refl
lines_of_each f (x ∷ xs) = rw (lines_of_each f xs)

-- two sections, one behind the other
pub sections : (before text new : List ℕ) (xs ys : List Words) → text ≡ before ++ lines_text xs
    → new ≡ text ++ lines_text ys → new ≡ before ++ lines_text (xs ++ ys)
sections before text new xs ys first second = rw (second, first, append_assoc, ← lines_append)

-- one turn of a loop that writes the lines of each number of a range
module _ (f : ℕ → List Words) (from : ℕ) (before text : List ℕ) where
  pub numbers_more : (new : List ℕ) (at : ℕ) → from ≤ at
      → text ≡ before ++ lines_text (flat_map f (range_with_len from (at - from)))
      → new ≡ text ++ lines_text (f at)
      → new ≡ before ++ lines_text (flat_map f (range_with_len from (at + 1 - from)))
  numbers_more new at reached so_far more =
      rw (
        written_more (λ k. lines_text (f k)) from before text new at reached
            (rw (so_far, lines_of_all f (range_with_len from (at - from)))) more,
        ← lines_of_all f (range_with_len from (at + 1 - from)),
      )

  -- all numbers of the range were gone through
  pub numbers_all : (at count : ℕ) → at - from ≡ count
      → text ≡ before ++ lines_text (flat_map f (range_with_len from (at - from)))
      → text ≡ before ++ lines_text (flat_map f (range_with_len from count))
  numbers_all at count same so_far = rw (so_far, same)

-- the same over a list
module _ {X : Type 0} (f : X → List Words) (xs : List X) (before text : List ℕ) where
  pub each_more : (new : List ℕ) (at : ℕ) (x : X) → at < length xs → get_or xs at x ≡ x
      → text ≡ before ++ lines_text (flat_map f (take at xs)) → new ≡ text ++ lines_text (f x)
      → new ≡ before ++ lines_text (flat_map f (take (at + 1) xs))
  each_more new at x inside is so_far more =
      rw (
        item_more (λ x. lines_text (f x)) xs before text new at x inside is
            (rw (so_far, lines_of_all f (take at xs))) more,
        ← lines_of_all f (take (at + 1) xs),
      )

  -- all items were gone through, each with its lines
  pub each_all : (at : ℕ) → length xs ≤ at → text ≡ before ++ lines_text (flat_map f (take at xs))
      → text ≡ before ++ lines_text (flat_map f xs)
  each_all at all so_far = rw (so_far, take_all)

-- the same where each item has one line
module _ {X : Type 0} (f : X → Words) (xs : List X) (before text : List ℕ) where
  pub line_more : (new : List ℕ) (at : ℕ) (x : X) → at < length xs → get_or xs at x ≡ x
      → text ≡ before ++ lines_text (map f (take at xs)) → new ≡ text ++ line_text (f x)
      → new ≡ before ++ lines_text (map f (take (at + 1) xs))
  line_more new at x inside is so_far more =
      rw (
        item_more (λ x. line_text (f x)) xs before text new at x inside is
            (rw (so_far, lines_of_each f (take at xs))) more,
        ← lines_of_each f (take (at + 1) xs),
      )

  -- all items were gone through, each with its line
  pub line_all : (at : ℕ) → length xs ≤ at → text ≡ before ++ lines_text (map f (take at xs))
      → text ≡ before ++ lines_text (map f xs)
  line_all at all so_far = rw (so_far, take_all)

-- the same over the items with their numbers
module _ {X : Type 0} (f : ℕ × X → List Words) (xs : List X) (before text : List ℕ) where
  pub numbered_more : (new : List ℕ) (at : ℕ) (x : X) → at < length xs → x ≡ get_or xs at x
      → text ≡ before ++ lines_text (flat_map f (take at (enumerate_from 0 xs)))
      → new ≡ text ++ lines_text (f (at, x))
      → new ≡ before ++ lines_text (flat_map f (take (at + 1) (enumerate_from 0 xs)))
  numbered_more new at x inside is so_far more =
      rw (
        enumerated_more (λ (p : ℕ × X). lines_text (f p)) xs before text new at x inside
            (rw (so_far, lines_of_all f (take at (enumerate_from 0 xs)))) (rw (← is, ← more)),
        ← lines_of_all f (take (at + 1) (enumerate_from 0 xs)),
      )

  -- all items were gone through, each with its number and its lines
  pub numbered_all : (at : ℕ) → length xs ≤ at
      → text ≡ before ++ lines_text (flat_map f (take at (enumerate_from 0 xs)))
      → text ≡ before ++ lines_text (flat_map f (enumerate_from 0 xs))
  numbered_all at all so_far =
      each_all f (enumerate_from 0 xs) before text at (omega (arith, length-enumerate_from 0 xs)) so_far

-- Texts that a loop writes piece by piece.
use Rattle.std.proofs.Common.{◌≡◌, ℕ, zero, suc, ◌+◌, ◌-◌, ◌<◌, ◌≤◌, List, [], ◌∷◌, ◌++◌, length, take}
use Rattle.std.proofs.Common.{get_or, refl, sym, ap, ◌∙◌, arith, append_assoc, append-nil, zero-add, Some}
use Rattle.std.specs.List.{flat_map, range_with_len, All, enumerate_from, zip}
use Rattle.std.specs.Prelude.{slice_get}
use Rattle.std.proofs.lemmas.List.{take_more, flat_map_more, take_all, get_or_default}
use Rattle.std.proofs.lemmas.List.FromFn.{length-enumerate_from, get_or-enumerate_from}
use Rattle.std.proofs.lemmas.Option.{slice_get_read, slice_get_within, get_or_from_slice_get}
use Rattle.std.proofs.lemmas.Slice.Zip.{length-zip, get_or-zip}
use Rattle.std.proofs.lemmas.List.Elements.{All-tail}

-- one more number at the end of a range
flat_map-range-more : (f : ℕ → List ℕ) (from n : ℕ)
    → flat_map f (range_with_len from (suc n)) ≡ flat_map f (range_with_len from n) ++ f (from + n)
flat_map-range-more f from zero = append-nil (f from) ∙ ap f (omega arith)
flat_map-range-more f from (suc n) =
    ap (λ (l : List ℕ). f from ++ l) (flat_map-range-more f (from + 1) n)
    ∙ sym (append_assoc (f from) (flat_map f (range_with_len (from + 1) n)) (f ((from + 1) + n)))
    ∙ ap (λ k. (f from ++ flat_map f (range_with_len (from + 1) n)) ++ f k) (omega arith)

-- one turn of a loop that writes what each number of a range gives
pub written_more : (f : ℕ → List ℕ) (from : ℕ) (before text new : List ℕ) (at : ℕ) → from ≤ at
    → text ≡ before ++ flat_map f (range_with_len from (at - from)) → new ≡ text ++ f at
    → new ≡ before ++ flat_map f (range_with_len from (at + 1 - from))
written_more f from before text new at reached so_far more =
    let here : at ≡ from + (at - from) = omega arith in
    let next : suc (at - from) ≡ at + 1 - from = omega arith in
    rw (
      ← next,
      flat_map-range-more f from (at - from),
      ← here,
      ← append_assoc before (flat_map f (range_with_len from (at - from))) (f at),
      ← so_far,
      ← more,
    )

pub written_none : (f : ℕ → List ℕ) (from : ℕ) (before : List ℕ)
    → before ≡ before ++ flat_map f (range_with_len from (from - from))
written_none f from before =
    let none : 0 ≡ from - from = omega arith in
    rw (← none, append-nil before)

pub written_all : (f : ℕ → List ℕ) (from : ℕ) (before text : List ℕ) (at count : ℕ) → at - from ≡ count
    → text ≡ before ++ flat_map f (range_with_len from (at - from))
    → text ≡ before ++ flat_map f (range_with_len from count)
written_all f from before text at count same so_far = rw (so_far, same)

-- the same over an iterator: what it gave and what is left is the whole
pub whole_more : (x : ℕ) (given rest left all : List ℕ) → rest ≡ x ∷ left → given ++ rest ≡ all
    → (given ++ x ∷ []) ++ left ≡ all
whole_more x given rest left all p h = rw (append_assoc given (x ∷ []) left, ← p) h

pub below_rest : (n x : ℕ) (rest left : List ℕ) → rest ≡ x ∷ left → All (λ k. k < n) rest
    → All (λ k. k < n) left
below_rest n x rest left p h = All-tail (λ k. k < n) x left (rw p at h)

pub given_more : (f : ℕ → List ℕ) (before text new given : List ℕ) (x : ℕ) → text ≡ before ++ flat_map f given
    → new ≡ text ++ f x → new ≡ before ++ flat_map f (given ++ x ∷ [])
given_more f before text new given x so_far more = rw (more, so_far) (flat_map_more f before given x)

pub given_all : (f : ℕ → List ℕ) (before text given rest all : List ℕ) → rest ≡ [] → given ++ rest ≡ all
    → text ≡ before ++ flat_map f given → text ≡ before ++ flat_map f all
given_all f before text given rest all none whole so_far = rw (so_far, ← append-nil given, ← none, whole)

-- the same over a list: one turn writes what its item at an index gives
pub item_more : {X : Type 0} (f : X → List ℕ) (xs : List X) (before text new : List ℕ) (at : ℕ) (x : X)
    → at < length xs → get_or xs at x ≡ x → text ≡ before ++ flat_map f (take at xs) → new ≡ text ++ f x
    → new ≡ before ++ flat_map f (take (at + 1) xs)
item_more {X} f xs before text new at x inside is so_far more =
    rw (more, so_far, flat_map_more f before (take at xs) x, ← is, ← take_more xs at x inside)

pub items_all : {X : Type 0} (f : X → List ℕ) (xs : List X) (before text : List ℕ) (at : ℕ) → length xs ≤ at
    → text ≡ before ++ flat_map f (take at xs) → text ≡ before ++ flat_map f xs
items_all {X} f xs before text at all so_far = rw (so_far, take_all at xs all)

-- the same over the items with their indices
pub enumerated_more : {X : Type 0} (f : ℕ × X → List ℕ) (xs : List X) (before text new : List ℕ) (at : ℕ)
    (d : X) → at < length xs → text ≡ before ++ flat_map f (take at (enumerate_from 0 xs))
    → new ≡ text ++ f (at, get_or xs at d) → new ≡ before ++ flat_map f (take (at + 1) (enumerate_from 0 xs))
enumerated_more {X} f xs before text new at d inside so_far more =
    let pair : ℕ × X = (at, get_or xs at d) in
    let there : at < length (enumerate_from 0 xs) = omega (arith, length-enumerate_from 0 xs) in
    let is : get_or (enumerate_from 0 xs) at pair ≡ pair =
    rw (
      get_or-enumerate_from 0 xs at pair inside,
      zero-add at,
      get_or_default xs at (get_or xs at d) d inside,
    ) in
    item_more f (enumerate_from 0 xs) before text new at pair there is so_far more

pub enumerated_all : {X : Type 0} (f : ℕ × X → List ℕ) (xs : List X) (before text : List ℕ) (at : ℕ)
    → length xs ≤ at → text ≡ before ++ flat_map f (take at (enumerate_from 0 xs))
    → text ≡ before ++ flat_map f (enumerate_from 0 xs)
enumerated_all f xs before text at all so_far =
    items_all f (enumerate_from 0 xs) before text at (omega (arith, length-enumerate_from 0 xs)) so_far

-- the same over the pairs of two lists
pub zipped_more : {X Y : Type 0} (f : X × Y → List ℕ) (xs : List X) (ys : List Y) (before text new : List ℕ)
    (at : ℕ) (x : X) (y : Y) → slice_get xs at ≡ Some x → slice_get ys at ≡ Some y
    → text ≡ before ++ flat_map f (take at (zip xs ys)) → new ≡ text ++ f (x, y)
    → new ≡ before ++ flat_map f (take (at + 1) (zip xs ys))
zipped_more {X} {Y} f xs ys before text new at x y first second so_far more =
    let pair : X × Y = (x, y) in
    let left : at < length xs = slice_get_within xs at x first in
    let right : at < length ys = slice_get_within ys at y second in
    let there : at < length (zip xs ys) = omega (arith, length-zip xs ys) in
    let is : get_or (zip xs ys) at pair ≡ pair =
    rw (
      get_or-zip xs ys at pair left right,
      get_or_from_slice_get xs at x x first,
      get_or_from_slice_get ys at y y second,
    ) in
    item_more f (zip xs ys) before text new at pair there is so_far more

pub zipped_all : {X Y : Type 0} (f : X × Y → List ℕ) (xs : List X) (ys : List Y) (before text : List ℕ)
    (at : ℕ) → length ys ≤ at → text ≡ before ++ flat_map f (take at (zip xs ys))
    → text ≡ before ++ flat_map f (zip xs ys)
zipped_all f xs ys before text at all so_far =
    items_all f (zip xs ys) before text at (omega (arith, length-zip xs ys)) so_far

-- the item of a loop over a list that is known by another name
pub item_at : {X : Type 0} (items xs : List X) (i : ℕ) (x : X) → items ≡ xs → i < length items
    → x ≡ get_or items i x → slice_get xs i ≡ Some x
item_at {X} items xs i x same inside is = rw same at (slice_get_read items (length items) i x refl inside is)

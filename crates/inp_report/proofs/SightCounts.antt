-- What is written and counted of a sight, one entry on.
use Rattle.std.proofs.Common.{◌≡◌, ◌≤◌, ◌<◌, ◌-◌, ℕ, ◌+◌, min, arith, Bool, true, false, cond, refl, ap}
use Rattle.std.proofs.Common.{List, [], ◌∷◌, ◌++◌, length, take, drop, Some}
use Rattle.std.proofs.Common.{◌∙◌, sym}
use Rattle.std.specs.Prelude.{slice_get}
use Rattle.std.specs.List.{count_by, flat_map}
use Rattle.std.proofs.lemmas.List.{take_more, flat_map_more, append_assoc, length-take, length-drop}
use Rattle.std.proofs.lemmas.List.Concat.{flat_map-append}
use Rattle.std.proofs.Math.Seq.{take-add}
use Rattle.std.proofs.lemmas.List.Sums.{count_by_more_yes, count_by_more_no, sum_by-append}
use Rattle.std.proofs.lemmas.Option.{slice_get_within, get_or_from_slice_get}
use Rattle.inp_script.specs.declared.sight.Sight.{Sight}
use Rattle.inp_report.specs.declared.sights.SightCounts.{SightCounts}
use Rattle.inp_report.specs.Sights.{is_took, is_made, is_again_sight}

-- the items up to one
taken-more : {X : Type 0} (xs : List X) (i : ℕ) (x : X) → slice_get xs i ≡ Some x
    → take (i + 1) xs ≡ take i xs ++ x ∷ []
taken-more {X} xs i x at =
    rw (take_more xs i x (slice_get_within xs i x at), get_or_from_slice_get xs i x x at)

-- one that counts, and one that does not
pub counted-yes : {X : Type 0} (p : X → Bool) (xs : List X) (i : ℕ) (x : X) (count : ℕ)
    → p x ≡ true → slice_get xs i ≡ Some x → count ≡ count_by p (take i xs)
    → count + 1 ≡ count_by p (take (i + 1) xs)
counted-yes p xs i x count counts at before =
    let same = get_or_from_slice_get xs i x x at in
    rw before (sym (count_by_more_yes p xs i x (slice_get_within xs i x at) (ap p same ∙ counts)))

-- an entry that is not counted leaves the count as it was
pub counted-no : {X : Type 0} (p : X → Bool) (xs : List X) (i : ℕ) (x : X) (count : ℕ)
    → p x ≡ false → slice_get xs i ≡ Some x → count ≡ count_by p (take i xs)
    → count ≡ count_by p (take (i + 1) xs)
counted-no p xs i x count fails at before =
    let same = get_or_from_slice_get xs i x x at in
    before ∙ sym (count_by_more_no p xs i x (slice_get_within xs i x at) (ap p same ∙ fails))

counted-more : {X : Type 0} (p : X → Bool) (xs : List X) (i : ℕ) (x : X) (count : ℕ) → slice_get xs i ≡ Some x
    → count ≡ count_by p (take i xs) → cond (p x) (count + 1) count ≡ count_by p (take (i + 1) xs)
counted-more p xs i x count at before = by (p x) refl
  where
    by : (b : Bool) → p x ≡ b → cond (p x) (count + 1) count ≡ count_by p (take (i + 1) xs)
    by true counts = rw counts (counted-yes p xs i x count counts at before)
    by false fails = rw fails (counted-no p xs i x count fails at before)

-- the counts of each kind, with one entry more
abbrev pub counts_with : SightCounts → Sight → SightCounts
counts_with n s = record {
  took = cond (is_took s) (n.took + 1) n.took;
  made = cond (is_made s) (n.made + 1) n.made;
  again = cond (is_again_sight s) (n.again + 1) n.again;
}

abbrev AreCounted : List Sight → ℕ → SightCounts → Type 0
AreCounted sights i n = record {
  took : n.took ≡ count_by is_took (take i sights);
  made : n.made ≡ count_by is_made (take i sights);
  again : n.again ≡ count_by is_again_sight (take i sights);
}

-- each of the three counts gains one where the entry is of its kind, and else stays
pub kinds-more : (sights : List Sight) (i : ℕ) (read sight : Sight) (old new : SightCounts)
    → slice_get sights i ≡ Some read → read ≡ sight → new ≡ counts_with old sight → AreCounted sights i old
    → AreCounted sights (i + 1) new
kinds-more sights i read sight old new at is more before =
    let there : slice_get sights i ≡ Some sight = rw (at, is) in
    record {
      took = rw more (counted-more is_took sights i sight old.took there before.took);
      made = rw more (counted-more is_made sights i sight old.made there before.made);
      again = rw more (counted-more is_again_sight sights i sight old.again there before.again);
    }

-- What is counted and written of a part more

count-append : {X : Type 0} (p : X → Bool) (xs ys : List X)
    → count_by p (xs ++ ys) ≡ count_by p xs + count_by p ys
count-append p xs ys = sum_by-append (λ x. cond (p x) 1 0) xs ys

-- a part that stands behind what was counted adds its own count
pub counted-part : {X : Type 0} (p : X → Bool) (xs part : List X) (start : ℕ)
    → part ≡ take (length part) (drop start xs)
    → count_by p (take start xs) + count_by p part ≡ count_by p (take (start + length part) xs)
counted-part p xs part start is =
    rw (take-add start (length part) xs, count-append p (take start xs), ← is) refl

-- such a part begins within the list, and ends there
pub ends-within : {X : Type 0} (xs part : List X) (start : ℕ)
    → part ≡ take (length part) (drop start xs) → start < length xs → start + length part ≤ length xs
ends-within xs part start is begins =
    let same : length part ≡ min (length part) (length xs - start) =
    ap length is ∙ length-take (length part) (drop start xs)
    ∙ ap (λ n. min (length part) n) (length-drop start xs) in
    grind (arith, same, begins)

-- What is written

-- the text of a part is put behind that of the items before it
pub written-part : {X : Type 0} (f : X → List ℕ) (before : List ℕ) (xs part : List X) (start : ℕ)
    → part ≡ take (length part) (drop start xs)
    → (before ++ flat_map f (take start xs)) ++ flat_map f part
    ≡ before ++ flat_map f (take (start + length part) xs)
written-part f before xs part start is =
    rw (take-add start (length part) xs, flat_map-append f (take start xs), ← is, append_assoc) refl

-- the text of the next entry is put behind that of those before it
pub written-more : {X : Type 0} (f : X → List ℕ) (before : List ℕ) (xs : List X) (i : ℕ) (x : X)
    → slice_get xs i ≡ Some x
    → (before ++ flat_map f (take i xs)) ++ f x ≡ before ++ flat_map f (take (i + 1) xs)
written-more {X} f before xs i x at = rw (flat_map_more f before (take i xs) x, ← taken-more xs i x at)

-- Lists of filters: one of them, and one more.
use Rattle.std.proofs.Common.{◌≡◌, ℕ, zero, suc, ◌+◌, ◌<◌, ◌≤◌, Bool, true, false, ◌&&◌, List, [], ◌∷◌, ◌++◌}
use Rattle.std.proofs.Common.{length, take, get_or, None, refl, subst, arith}
use Rattle.std.specs.List.{list_all, slice_get}
use Rattle.std.proofs.lemmas.List.{get_or-take, length-take-le, length-append}
use Rattle.std.proofs.lemmas.Option.{slice_get_past}
use Rattle.inp_model.specs.declared.filter.Filter.{Filter}
use Rattle.inp_model.specs.declared.limits.TheConstants.{FILTERS_MAX}
use Rattle.inp_model.specs.Description.{AreFilters, is_filter}

first : (a b : Bool) → (a && b) ≡ true → a ≡ true
first true b h = refl
first false b h = absurd (cc h)

second : (a b : Bool) → (a && b) ≡ true → b ≡ true
second true b h = h
second false b h = absurd (cc h)

-- a test that all pass holds of each
pub list_all-get : {X : Type 0} (p : X → Bool) (xs : List X) (i : ℕ) (d : X) → i < length xs
    → list_all p xs ≡ true → p (get_or xs i d) ≡ true
list_all-get p [] i d lt h = absurd (omega (arith, lt))
list_all-get p (x ∷ xs) zero d lt h = first (p x) (list_all p xs) h
list_all-get p (x ∷ xs) (suc i) d lt h =
    list_all-get p xs i d (omega (arith, lt)) (second (p x) (list_all p xs) h)

both : (a b : Bool) → a ≡ true → b ≡ true → (a && b) ≡ true
both a b h k = cc (h, k)

list_all-more : {X : Type 0} (p : X → Bool) (xs : List X) (x : X) → list_all p xs ≡ true → p x ≡ true
    → list_all p (xs ++ x ∷ []) ≡ true
list_all-more p [] x h k = both (p x) true k refl
list_all-more p (y ∷ xs) x h k =
    both (p y) (list_all p (xs ++ x ∷ [])) (first (p y) (list_all p xs) h)
    (list_all-more p xs x (second (p y) (list_all p xs) h) k)

-- of the filters in use

pub filter-good : (filters : List Filter) (count i : ℕ) (d : Filter) → length filters ≡ FILTERS_MAX
    → count ≤ FILTERS_MAX → i < count
    → list_all is_filter (take count filters) ≡ true → is_filter (get_or filters i d) ≡ true
filter-good filters count i d places in_use lt h =
    let size : length (take count filters) ≡ count =
    length-take-le count filters (omega (arith, places, in_use)) in
    subst (λ (f : Filter). is_filter f ≡ true) (get_or-take count filters i d lt)
    (list_all-get is_filter (take count filters) i d (omega (arith, size, lt)) h)

pub filter-none : (filters : List Filter) (count i : ℕ) → length filters ≡ FILTERS_MAX → count ≤ FILTERS_MAX
    → count ≤ i → slice_get (take count filters) i ≡ None
filter-none filters count i places in_use past =
    let size : length (take count filters) ≡ count =
    length-take-le count filters (omega (arith, places, in_use)) in
    slice_get_past (take count filters) i (omega (arith, size, past))

pub AreFilters-more : (filters : List Filter) (filter : Filter) → AreFilters filters
    → length filters < FILTERS_MAX → is_filter filter ≡ true → AreFilters (filters ++ filter ∷ [])
AreFilters-more filters filter h room good =
    let size : length (filters ++ filter ∷ []) ≡ length filters + 1 = length-append filters (filter ∷ []) in
    record { few = omega (arith, size, room); good = list_all-more is_filter filters filter h.good good }

-- Lists: a map, a filter, a search and a removal by what holds of each element.
use Rattle.std.proofs.lemmas.Bool.Decides.{nat_tests}
use Rattle.std.proofs.Common.{◌≡◌, ◌≢◌, ◌+◌, ◌-◌, ◌<◌, ◌≤◌, ℕ, zero, suc, Bool, true, false, not, ◌&&◌, ◌||◌}
use Rattle.std.proofs.Common.{if◌then◌else◌, nat_eq, nat_le, nat_lt, List, [], ◌∷◌, length, get_or, set, map}
use Rattle.std.proofs.Common.{All, AllPairs, Some, refl, sym, ap, ◌∙◌, inl, inr, zero-add, arith}
use Rattle.std.specs.Prelude.{sum, sum_by}
use Rattle.std.specs.List.{filter, find, list_any, range_with_len, remove, insert, AllWithin}
use Rattle.std.proofs.lemmas.Bool.{and_right, cases_lt, cases_order, eq-eqb, ne_eqb, lt-ltb, le-leb, lt-leb}
use Rattle.std.proofs.lemmas.Simd.{map-map}
use Rattle.std.proofs.lemmas.List.Sums.{sum-map}
use Rattle.std.proofs.lemmas.List.FromFn.{get_or-map-range_with_len}
use Rattle.std.proofs.lemmas.List.Edits.{length-remove, get_or-remove_below, get_or-remove_above}
use Rattle.std.proofs.lemmas.List.Edits.{length-insert, get_or-insert_below, get_or-insert_at}
use Rattle.std.proofs.lemmas.List.Edits.{get_or-insert_above}
use Rattle.std.proofs.lemmas.List.Elements.{All-head, All-tail, All-from_get_or}

-- two functions that agree at each element give the same list
pub map_same : {X Y : Type 0} (f g : X → Y) (xs : List X) → All (λ x. f x ≡ g x) xs → map f xs ≡ map g xs
map_same f g [] each = refl
map_same f g (x ∷ xs) each =
    rw (All-head (λ x. f x ≡ g x) x xs each, map_same f g xs (All-tail (λ x. f x ≡ g x) x xs each))

-- Each element of a list is made of the element at its place in another.
pub map_over : {X Y Z : Type 0} (f : X → Z) (g : X → Y) (h : Y → Z) (xs : List X)
    → All (λ x. f x ≡ h (g x)) xs → map f xs ≡ map h (map g xs)
map_over f g h xs each = map_same f (λ x. h (g x)) xs each ∙ sym (map-map h g xs)

-- Whether a test passes, and a sum, over what a function gives.
pub list_any-map : {X Y : Type 0} (p : Y → Bool) (f : X → Y) (xs : List X)
    → list_any p (map f xs) ≡ list_any (λ x. p (f x)) xs
list_any-map p f [] = refl
list_any-map p f (x ∷ xs) = rw (list_any-map p f xs)

-- two tests that agree at each element pass alike
pub list_any_same : {X : Type 0} (p q : X → Bool) (xs : List X) → All (λ x. p x ≡ q x) xs
    → list_any p xs ≡ list_any q xs
list_any_same p q [] each = refl
list_any_same p q (x ∷ xs) each =
    rw (All-head (λ x. p x ≡ q x) x xs each, list_any_same p q xs (All-tail (λ x. p x ≡ q x) x xs each))

-- each element adds what its value of the function does
pub sum_by-map : {X Y : Type 0} (g : Y → ℕ) (f : X → Y) (xs : List X)
    → sum_by g (map f xs) ≡ sum_by (λ x. g (f x)) xs
sum_by-map g f xs = sym (sum-map g (map f xs)) ∙ ap sum (map-map g f xs) ∙ sum-map (λ x. g (f x)) xs

-- A test that chooses between a value and itself, and a function of the value that a test chooses.
pub either_same : {X : Type 0} (b : Bool) (x : X) → (if b then x else x) ≡ x
either_same true x = refl
either_same false x = refl

-- a function takes one of two values, by whichever the test chooses
pub either_map : {X Y : Type 0} (f : X → Y) (b : Bool) (x y : X)
    → f (if b then x else y) ≡ (if b then f x else f y)
either_map f true x y = refl
either_map f false x y = refl

-- What holds of the first so many places, holds of one place more.
pub flag_other : (j i : ℕ) → j ≢ i → nat_lt j i ≡ nat_lt j (i + 1)
flag_other j i differs = grind (arith, nat_tests)

-- Another map agrees with the first at each place but one, which is changed, taken out or put in.
pub map_but_one : {X Y : Type 0} (g g' : X → Y) (xs : List X) (i : ℕ) (d : X) → i < length xs
    → ((j : ℕ) → j < length xs → j ≢ i → g' (get_or xs j d) ≡ g (get_or xs j d))
    → (map g' xs ≡ set (map g xs) i (g' (get_or xs i d))) × (map g' (remove xs i) ≡ remove (map g xs) i)
map_but_one g g' [] i d within others = absurd (omega arith)
map_but_one g g' (x ∷ xs) zero d within others =
    let rest =
    map_same g' g xs
    (All-from_get_or (λ x. g' x ≡ g x) xs d
    (λ j in_j. others (suc j) (omega arith) (λ e. omega (arith, e)))) in
    (rw rest, rest)
map_but_one g g' (x ∷ xs) (suc i) d within others =
    let first = others 0 (omega arith) (λ e. omega (arith, e)) in
    let rest =
    map_but_one g g' xs i d (omega arith)
    (λ j in_j differs. others (suc j) (omega arith) (λ e. differs (omega (arith, e)))) in
    (rw (first, rest.0) refl, rw (first, rest.1) refl)

-- What holds of each element but one, holds of all where that one is taken out.
pub All-but_one : {X : Type 0} (P : X → Type 0) (xs : List X) (i : ℕ) (d : X) → i < length xs
    → ((j : ℕ) → j < length xs → j ≢ i → P (get_or xs j d)) → All P (remove xs i)
All-but_one P xs i d in_i others = All-from_get_or P (remove xs i) d (λ j in_j.
    let shorter = length-remove xs i in_i in
    elim (cases_lt j i) [
      | inl below ↦ rw get_or-remove_below (others j (omega arith) (λ e. omega (arith, e)))
      | inr above ↦ rw get_or-remove_above (others (j + 1) (omega arith) (λ e. omega (arith, e)))
    ])

-- the other elements give what they gave, and the new one stands at its place
pub map_put_in : {X Y : Type 0} (g g' : X → Y) (xs : List X) (i : ℕ) (x : X) → i ≤ length xs
    → All (λ y. g' y ≡ g y) xs
    → map g' (insert xs i x) ≡ insert (map g xs) i (g' x)
map_put_in g g' xs zero x within same = rw (map_same g' g xs same)
map_put_in g g' [] (suc i) x within same = absurd (omega arith)
map_put_in g g' (y ∷ xs) (suc i) x within same =
    let rest = map_put_in g g' xs i x (omega arith) (All-tail (λ y. g' y ≡ g y) y xs same) in
    rw (All-head (λ y. g' y ≡ g y) y xs same, rest) refl

-- the first element that passes stands at i
pub find_at : {X : Type 0} (p : X → Bool) (xs : List X) (i : ℕ) (d : X) → i < length xs
    → p (get_or xs i d) ≡ true → ((j : ℕ) → j < i → p (get_or xs j d) ≡ false)
    → find p xs ≡ Some (get_or xs i d)
find_at p [] i d within passes before = absurd (omega arith)
find_at p (x ∷ xs) zero d within passes before = rw passes refl
find_at p (x ∷ xs) (suc i) d within passes before =
    rw (before 0 (omega arith))
    (find_at p xs i d (omega arith) passes (λ j below. before (suc j) (omega arith)))

-- where no element passes, all stay
none_removed : {X Y : Type 0} (p : Y → Bool) (g g' : X → Y) (xs : List X)
    → All (λ x. (p (g x) ≡ false) × (g' x ≡ g x)) xs → map g' xs ≡ filter (λ y. not (p y)) (map g xs)
none_removed p g g' [] each = refl
none_removed p g g' (x ∷ xs) each =
    let first = All-head (λ x. (p (g x) ≡ false) × (g' x ≡ g x)) x xs each in
    rw (first.0, first.1, none_removed p g g' xs (All-tail (λ x. (p (g x) ≡ false) × (g' x ≡ g x)) x xs each))

-- where the element at i passes alone, all others stay
pub one_removed : {X Y : Type 0} (p : Y → Bool) (g g' : X → Y) (xs : List X) (i : ℕ) (d : X) → i < length xs
    → p (g (get_or xs i d)) ≡ true →
    ((j : ℕ) → j < length xs → j ≢ i
    → (p (g (get_or xs j d)) ≡ false) × (g' (get_or xs j d) ≡ g (get_or xs j d)))
    → map g' (remove xs i) ≡ filter (λ y. not (p y)) (map g xs)
one_removed p g g' [] i d within passes others = absurd (omega arith)
one_removed p g g' (x ∷ xs) zero d within passes others =
    rw passes
    (none_removed p g g' xs
    (All-from_get_or (λ x. (p (g x) ≡ false) × (g' x ≡ g x)) xs d
    (λ j in_j. others (suc j) (omega arith) (λ e. omega (arith, e)))))
one_removed p g g' (x ∷ xs) (suc i) d within passes others =
    let first = others 0 (omega arith) (λ e. omega (arith, e)) in
    rw (
      first.0,
      first.1,
      one_removed p g g' xs i d (omega arith) passes
          (λ j in_j differs. others (suc j) (omega arith) (λ e. differs (omega (arith, e)))),
    )

-- what stands at an index after an insert: what stood there, the new element, or what stood one place before
insert_read : {X : Type 0} (P : X → Type 0) (xs : List X) (i : ℕ) (y : X) (k : ℕ) (d : X) → i ≤ length xs
    → (k < i → P (get_or xs k d)) → (k ≡ i → P y) → ((m : ℕ) → k ≡ m + 1 → i ≤ m → P (get_or xs m d))
    → P (get_or (insert xs i y) k d)
insert_read P xs i y k d within below here above =
    elim (cases_order k i) [
      | inl same ↦ rw (same, get_or-insert_at) (here same)
      | inr (inl lower) ↦ rw get_or-insert_below (below lower)
      | inr (inr higher) ↦
          let le : i ≤ k - 1 = omega arith in
          let e : k ≡ k - 1 + 1 = omega arith in
          rw (e, get_or-insert_above) (above (k - 1) e le)
    ]

-- each place has an old element or the new one
pub All-insert : {X : Type 0} (P : X → Type 0) (xs : List X) (i : ℕ) (y : X) → i ≤ length xs → All P xs → P y
    → All P (insert xs i y)
All-insert P xs i y within all one = λ k d in_k.
    let long = length-insert xs i y within in
    insert_read P xs i y k d within (λ lower. all k d (omega arith)) (λ same. one)
    (λ m e le. all m d (omega arith))

-- an insert between what is related to it and what it is related to
pub all_pairs_insert : {X : Type 0} (R : X → X → Type 0) (xs : List X) (i : ℕ) (y : X) → i ≤ length xs
    → AllPairs R xs → AllWithin (λ x. R x y) xs 0 i → AllWithin (λ x. R y x) xs i (length xs)
    → AllPairs R (insert xs i y)
all_pairs_insert R xs i y within pairs before behind = λ a b d lower in_b.
    let long = length-insert xs i y within in
    insert_read (λ z. R (get_or (insert xs i y) a d) z) xs i y b d within
    (λ b_below. insert_read (λ z. R z (get_or xs b d)) xs i y a d within
    (λ a_below. pairs a b d lower (omega arith)) (λ same. absurd (omega (arith, same)))
    (λ m e le. absurd (omega (arith, e))))
    (λ b_here. insert_read (λ z. R z y) xs i y a d within
    (λ a_below. before a d (omega arith) a_below) (λ same. absurd (omega (arith, same, b_here)))
    (λ m e le. absurd (omega (arith, e, b_here))))
    (λ n b_is n_above. insert_read (λ z. R z (get_or xs n d)) xs i y a d within
    (λ a_below. pairs a n d (omega arith) (omega (arith, b_is)))
    (λ same. behind n d n_above (omega (arith, b_is)))
    (λ m e le. pairs m n d (omega (arith, e, b_is)) (omega (arith, b_is))))

-- two tests that agree at each element
pub filter_same : {X : Type 0} (p q : X → Bool) (xs : List X) → All (λ x. p x ≡ q x) xs
    → filter p xs ≡ filter q xs
filter_same p q [] each = refl
filter_same p q (x ∷ xs) each =
    let rest = filter_same p q xs (All-tail (λ x. p x ≡ q x) x xs each) in
    rw (All-head (λ x. p x ≡ q x) x xs each, rest) refl

-- one filter behind the other
pub filter-filter : {X : Type 0} (p q : X → Bool) (xs : List X)
    → filter q (filter p xs) ≡ filter (λ x. p x && q x) xs
filter-filter p q [] = refl
filter-filter {X} p q (x ∷ xs) = rw (by_test, filter-filter p q xs)
  where
    by_test : (b : Bool)
        → filter q (if b then x ∷ filter p xs else filter p xs)
        ≡ (if b && q x then x ∷ filter q (filter p xs) else filter q (filter p xs))
    by_test true = refl
    by_test false = refl

-- Is a number among those of a range that pass a test?

-- the first number of a range, and the rest
any_first : (pass here rest : Bool) (n : ℕ) (ns : List ℕ) (number : ℕ) → nat_eq n number ≡ here
    → list_any (λ m. nat_eq m number) ns ≡ rest
    → list_any (λ m. nat_eq m number) (if pass then n ∷ ns else ns) ≡ ((pass && here) || rest)
any_first true here rest n ns number e r = rw (e, r) refl
any_first false here rest n ns number e r = r

only_first : (pass : Bool) → ((pass && true) || false) ≡ pass
only_first true = refl
only_first false = refl

any_in_range : (number : ℕ) (p : ℕ → Bool) (a k : ℕ)
    → list_any (λ n. nat_eq n number) (filter p (range_with_len a k))
    ≡ ((nat_le a number && nat_lt number (a + k)) && p number)
any_in_range number p a zero = grind (arith, nat_tests)
any_in_range number p a (suc k) =
    any_first (p a) (nat_eq a number) _ a (filter p (range_with_len (a + 1) k)) number refl
    (any_in_range number p (a + 1) k)
    ∙ elim (cases_order a number) [
      | inl same ↦
          rw (
            eq-eqb a number same,
            lt-leb (a + 1) number (omega (arith, same)),
            le-leb a number (omega (arith, same)),
            lt-ltb number (a + suc k) (omega (arith, same)),
          )
          (only_first (p a) ∙ ap p same)
      | inr (inl below) ↦
          let bound : a + 1 + k ≡ a + suc k = omega arith in
          rw (
            ne_eqb a number (λ e. omega (arith, e)),
            le-leb (a + 1) number (omega arith),
            le-leb a number (omega arith),
            bound,
          )
          (rw (and_right (p a) false refl) refl)
      | inr (inr above) ↦
          rw (
            ne_eqb a number (λ e. omega (arith, e)),
            lt-leb (a + 1) number (omega arith),
            lt-leb a number (omega arith),
          )
          (rw (and_right (p a) false refl) refl)
    ]

-- a range has each number below its bound, and the filter leaves those that pass
pub any_below : (number bound : ℕ) (p : ℕ → Bool)
    → list_any (λ n. nat_eq n number) (filter p (range_with_len 0 bound)) ≡ (nat_lt number bound && p number)
any_below number bound p = any_in_range number p 0 bound ∙ rw (le-leb 0 number (omega arith), zero-add) refl

-- One value of a list that is made of a function of the index, and a word of 64 of them set anew.

-- the range has each index at its own place
pub get_or-map_range : {X : Type 0} (f : ℕ → X) (n i : ℕ) (d : X) → i < n
    → get_or (map f (range_with_len 0 n)) i d ≡ f i
get_or-map_range f n i d within = get_or-map-range_with_len f 0 n i i d within (omega arith)

-- Lists by their elements: one that is replaced, those that a test keeps, and sums over them.
use Rattle.std.proofs.Common.{◌≡◌, ℕ, zero, suc, ◌+◌, Bool, true, false, if◌then◌else◌, cond, nat_eq, List}
use Rattle.std.proofs.Common.{[], ◌∷◌, map, refl, sym, ap, ◌∙◌, arith, zero-add, ◌⊎◌, inl, inr, Option, Some}
use Rattle.std.proofs.Common.{None, ◌<◌, length}
use Rattle.std.specs.List.{enumerate_from}
use Rattle.std.proofs.lemmas.Bool.{cases_eq}
use Rattle.inp_runs.proofs.Common.{filter, slice_set, option_map, range_with_len, sum_by, nat_tests}
use Rattle.inp_runs.proofs.Common.{get_or_from_slice_get, slice_get_within, same_Some, eqb-true}
use Rattle.inp_runs.proofs.Common.{false_from_ne_true}
use Rattle.std.specs.Prelude.{slice_get}
use Rattle.std.proofs.lemmas.List.Sums.{sum_by-cons, sum_by-set}

-- numbers that pass the test for equality are the same
pub eq_same : (m n : ℕ) → nat_eq m n ≡ true → m ≡ n
eq_same m n h = eqb-true m n h

-- the same numbers pass the test for equality
pub eq_true : (m n : ℕ) → m ≡ n → nat_eq m n ≡ true
eq_true m n e = grind (arith, nat_tests, e)

-- different numbers fail the test for equality
pub eq_false : (m n : ℕ) → (m ≡ n → ⊥) → nat_eq m n ≡ false
eq_false m n other = false_from_ne_true (nat_eq m n) (λ e. other (eqb-true m n e))

-- One element

-- at the place that was set the new element stands
pub slice_get-set_same : {X : Type 0} (xs : List X) (i : ℕ) (x y : X) → slice_get xs i ≡ Some x
    → slice_get (slice_set xs i y) i ≡ Some y
slice_get-set_same [] i x y h = absurd cc
slice_get-set_same (z ∷ xs) zero x y h = refl
slice_get-set_same (z ∷ xs) (suc i) x y h = slice_get-set_same xs i x y h

pub slice_get-set_other : {X : Type 0} (xs : List X) (i k : ℕ) (y : X) → (k ≡ i → ⊥)
    → slice_get (slice_set xs i y) k ≡ slice_get xs k
slice_get-set_other [] i k y other = refl
slice_get-set_other (z ∷ xs) zero zero y other = absurd (other refl)
slice_get-set_other (z ∷ xs) zero (suc k) y other = refl
slice_get-set_other (z ∷ xs) (suc i) zero y other = refl
slice_get-set_other (z ∷ xs) (suc i) (suc k) y other = slice_get-set_other xs i k y (λ e. other (ap suc e))

-- an item of a list that was set at an index: the new one there, or an old one elsewhere
abbrev pub IsSetAt : {X : Type 0} → List X → ℕ → X → ℕ → X → Type 0
IsSetAt xs i y k z = ((k ≡ i) × (z ≡ y)) ⊎ ((k ≡ i → ⊥) × (slice_get xs k ≡ Some z))

-- an element behind it: the new one at its place, and else the old one
pub slice_get-set : {X : Type 0} (xs : List X) (i k : ℕ) (x y z : X) → slice_get xs i ≡ Some x
    → slice_get (slice_set xs i y) k ≡ Some z
    → ((k ≡ i) × (z ≡ y)) ⊎ ((k ≡ i → ⊥) × (slice_get xs k ≡ Some z))
slice_get-set xs i k x y z h e = elim (cases_eq k i) [
  | inl same ↦ inl (same, same_Some z y (rw (← e, same) (slice_get-set_same xs i x y h)))
  | inr other ↦ inr (other, sym (slice_get-set_other xs i k y other) ∙ e)
]

-- where the new element has the image of the old one, all images stay
pub map-set_same : {X Y : Type 0} (f : X → Y) (xs : List X) (i : ℕ) (x y : X) → slice_get xs i ≡ Some x
    → f y ≡ f x → map f (slice_set xs i y) ≡ map f xs
map-set_same f [] i x y h e = refl
map-set_same f (z ∷ xs) zero x y h e = let same : z ≡ x = cc in rw (e, ← same)
map-set_same f (z ∷ xs) (suc i) x y h e = rw (map-set_same f xs i x y h e)

-- at place i of a range stands its first number plus i
pub slice_get-range : (first n i x : ℕ) → slice_get (range_with_len first n) i ≡ Some x → x ≡ first + i
slice_get-range first zero i x h = absurd cc
slice_get-range first (suc n) zero x h = let same : first ≡ x = cc in omega (arith, same)
slice_get-range first (suc n) (suc i) x h = omega (arith, slice_get-range (first + 1) n i x h)

-- each element is numbered with the first number plus its own place
pub slice_get-numbered : {X : Type 0} (first : ℕ) (xs : List X) (i : ℕ)
    → slice_get (enumerate_from first xs) i ≡ option_map (λ (x : X). (first + i, x)) (slice_get xs i)
slice_get-numbered first [] i = refl
slice_get-numbered first (x ∷ xs) zero = let same : first ≡ first + 0 = omega arith in rw (← same)
slice_get-numbered {X = X} first (y ∷ xs) (suc i) = let same : (first + 1) + i ≡ first + suc i =
    omega arith in rw (slice_get-numbered (first + 1) xs i, same)

-- each place below the length has an element
pub there-is : {X : Type 0} (xs : List X) (i : ℕ) → i < length xs → (x : X) × (slice_get xs i ≡ Some x)
there-is [] i h = absurd (omega (arith, h))
there-is (x ∷ xs) zero h = (x, refl)
there-is (x ∷ xs) (suc i) h = there-is xs i (omega (arith, h))

-- an element of a map
pub record IsImage {X Y : Type 0} (f : X → Y) (o : Option X) (y : Y) : Type 0 where
  -- the element that has the image
  pub from : X
  -- the element is there
  pub is : o ≡ Some from
  -- its image is the one that is asked for
  pub same : f from ≡ y

-- an image that is there is the image of an element that is there
pub option_map-some : {X Y : Type 0} (f : X → Y) (o : Option X) (y : Y) → option_map f o ≡ Some y
    → IsImage f o y
option_map-some f None y h = absurd cc
option_map-some f (Some x) y h = record { from = x; is = refl; same = cc }

-- Those that a test keeps

pub record IsAt {X : Type 0} (p : X → Bool) (xs : List X) (x : X) : Type 0 where
  -- the place at which the element stands
  pub index : ℕ
  -- the element is there
  pub is : slice_get xs index ≡ Some x
  -- the element passes the test
  pub passes : p x ≡ true

at_behind : {X : Type 0} (p : X → Bool) (y : X) (xs : List X) (x : X) → IsAt p xs x → IsAt p (y ∷ xs) x
at_behind p y xs x a = record { index = suc a.index; is = a.is; passes = a.passes }

-- what a test keeps stands in the list and passes the test
pub slice_get-filter : {X : Type 0} (p : X → Bool) (xs : List X) (k : ℕ) (x : X)
    → slice_get (filter p xs) k ≡ Some x → IsAt p xs x
slice_get-filter p [] k x h = absurd cc
slice_get-filter p (y ∷ xs) k x h = by_flag (p y) refl k (λ (j : ℕ) e. slice_get-filter p xs j x e) h
  where
    by_flag : (b : Bool) → p y ≡ b → (k : ℕ) → ((j : ℕ) → slice_get (filter p xs) j ≡ Some x → IsAt p xs x)
        → slice_get (cond b (y ∷ filter p xs) (filter p xs)) k ≡ Some x → IsAt p (y ∷ xs) x
    by_flag true e zero more h = let same : y ≡ x =
        cc in record { index = 0; is = h; passes = ap p (sym same) ∙ e }
    by_flag true e (suc j) more h = at_behind p y xs x (more j h)
    by_flag false e j more h = at_behind p y xs x (more j h)

-- a test of the images keeps the same before the map as after it
pub map-filter : {X Y : Type 0} (f : X → Y) (q : Y → Bool) (xs : List X)
    → map f (filter (λ x. q (f x)) xs) ≡ filter q (map f xs)
map-filter f q [] = refl
map-filter f q (x ∷ xs) = by_flag (q (f x)) (map-filter f q xs)
  where
    by_flag : (b : Bool) → map f (filter (λ z. q (f z)) xs) ≡ filter q (map f xs)
        → map f (cond b (x ∷ filter (λ z. q (f z)) xs) (filter (λ z. q (f z)) xs))
        ≡ cond b (f x ∷ filter q (map f xs)) (filter q (map f xs))
    by_flag true e = rw e
    by_flag false e = e

-- tests that agree on all keep the same
pub filter-same : {X : Type 0} (p q : X → Bool) (xs : List X)
    → ((k : ℕ) (x : X) → slice_get xs k ≡ Some x → p x ≡ q x) → filter p xs ≡ filter q xs
filter-same p q [] h = refl
filter-same p q (x ∷ xs) h = rw (h 0 x refl, filter-same p q xs (λ k y e. h (suc k) y e))

-- an element that the test leaves out counts as 0
pub sum_by-kept : {X Y : Type 0} (f : Y → ℕ) (g : X → Y) (p : X → Bool) (xs : List X)
    → sum_by f (map g (filter p xs)) ≡ sum_by (λ x. if p x then f (g x) else 0) xs
sum_by-kept f g p [] = refl
sum_by-kept f g p (x ∷ xs) =
    by_flag (p x) (sum_by-kept f g p xs) ∙ sym (sum_by-cons (λ z. if p z then f (g z) else 0) x xs)
  where
    by_flag : (b : Bool) → sum_by f (map g (filter p xs)) ≡ sum_by (λ z. if p z then f (g z) else 0) xs
        → sum_by f (map g (cond b (x ∷ filter p xs) (filter p xs)))
        ≡ (if b then f (g x) else 0) + sum_by (λ z. if p z then f (g z) else 0) xs
    by_flag true e = rw (sum_by-cons, e)
    by_flag false e = e ∙ sym (zero-add (sum_by (λ z. if p z then f (g z) else 0) xs))

-- one term is another one
pub sum_by-replaced : {X : Type 0} (f : X → ℕ) (xs : List X) (i : ℕ) (x y : X) → slice_get xs i ≡ Some x
    → sum_by f (slice_set xs i y) + f x ≡ sum_by f xs + f y
sum_by-replaced f xs i x y h =
    rw (← get_or_from_slice_get xs i x x h) (sum_by-set f xs i y x (slice_get_within xs i x h))

-- where each term is 0 the sum is 0
pub sum_by-none : {X Y : Type 0} (f : Y → ℕ) (g : X → Y) (xs : List X) → ((x : X) → f (g x) ≡ 0)
    → sum_by f (map g xs) ≡ 0
sum_by-none f g [] h = refl
sum_by-none f g (x ∷ xs) h = rw (sum_by-cons, h, zero-add) (sum_by-none f g xs h)

-- Sums over the views of all seats.
use Rattle.std.proofs.Common.{◌≡◌, ◌≢◌, ℕ, zero, suc, ◌+◌, ◌≤◌, List, [], ◌∷◌, set, refl, sym, ap, arith}
use Rattle.std.specs.Prelude.{sum_by}
use Rattle.std.proofs.lemmas.List.Sums.{sum_by-cons}
use mathlib.Core.Option.{some, some-injective, some-ne-none}
use lib.ListN.{get_elem?}

module _ {V : Type 0} (f : V → ℕ) where
  pub sum-set : (l : List V) (i : ℕ) (v w : V) → get_elem? l i ≡ some v
      → sum_by f (set l i w) + f v ≡ sum_by f l + f w
  sum-set [] i v w e = absurd (some-ne-none v (sym e))
  sum-set (x ∷ xs) zero v w e = let is : f x ≡ f v =
      ap f (some-injective x v e) in omega (arith, sum_by-cons f x xs, sum_by-cons f w xs)
  sum-set (x ∷ xs) (suc i) v w e = let r =
      sum-set xs i v w e in omega (arith, sum_by-cons f x xs, sum_by-cons f x (set xs i w))

  pub at-le-sum : (l : List V) (i : ℕ) (v : V) → get_elem? l i ≡ some v → f v ≤ sum_by f l
  at-le-sum [] i v e = absurd (some-ne-none v (sym e))
  at-le-sum (x ∷ xs) zero v e = let is : f x ≡ f v =
      ap f (some-injective x v e) in omega (arith, sum_by-cons f x xs)
  at-le-sum (x ∷ xs) (suc i) v e = omega (arith, at-le-sum xs i v e, sum_by-cons f x xs)

  pub two-le-sum : (l : List V) (i j : ℕ) (v w : V) → j ≢ i → get_elem? l i ≡ some v → get_elem? l j ≡ some w
      → f v + f w ≤ sum_by f l
  two-le-sum [] i j v w n e h = absurd (some-ne-none v (sym e))
  two-le-sum (x ∷ xs) zero zero v w n e h = absurd (n refl)
  two-le-sum (x ∷ xs) zero (suc j) v w n e h = let is : f x ≡ f v =
      ap f (some-injective x v e) in omega (arith, at-le-sum xs j w h, sum_by-cons f x xs)
  two-le-sum (x ∷ xs) (suc i) zero v w n e h = let is : f x ≡ f w =
      ap f (some-injective x w h) in omega (arith, at-le-sum xs i v e, sum_by-cons f x xs)
  two-le-sum (x ∷ xs) (suc i) (suc j) v w n e h =
      omega (arith, two-le-sum xs i j v w (λ s. n (ap suc s)) e h, sum_by-cons f x xs)

  pub sum-zero : (l : List V) → ((j : ℕ) (w : V) → get_elem? l j ≡ some w → f w ≡ 0) → sum_by f l ≡ 0
  sum-zero [] h = refl
  sum-zero (x ∷ xs) h = omega (arith, h 0 x refl, sum-zero xs (λ j w e. h (suc j) w e), sum_by-cons f x xs)

  -- where all others have nothing, the sum is the one's
  pub sum-alone : (l : List V) (i : ℕ) (v : V) → get_elem? l i ≡ some v
      → ((j : ℕ) (w : V) → j ≢ i → get_elem? l j ≡ some w → f w ≡ 0) → sum_by f l ≡ f v
  sum-alone [] i v e h = absurd (some-ne-none v (sym e))
  sum-alone (x ∷ xs) zero v e h = let is : f x ≡ f v = ap f (some-injective x v e) in
      omega (arith, sum-zero xs (λ j w k. h (suc j) w (λ s. omega arith) k), sum_by-cons f x xs)
  sum-alone (x ∷ xs) (suc i) v e h =
      omega (
        arith,
        h 0 x (λ s. omega arith) refl,
        sum-alone xs i v e (λ j w n k. h (suc j) w (λ s. n (omega arith)) k),
        sum_by-cons f x xs,
      )

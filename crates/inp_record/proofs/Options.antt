-- What an option or a result holds, and what a list that grew.
use Rattle.std.proofs.Common.{◌≡◌, ℕ, zero, suc, ◌<◌, Bool, true, false, if◌then◌else◌, List, [], ◌∷◌, ◌++◌}
use Rattle.std.proofs.Common.{length, Option, Some, None, Result, Ok, Err, refl, arith, ◌⊎◌, inl, inr}
use Rattle.std.specs.Prelude.{option_and_then, slice_get}

-- what an option holds that another one is made of
pub and_then_is : {A B : Type 0} (f : A → Option B) (o : Option A) (y : B) → option_and_then f o ≡ Some y
    → (x : A) × (o ≡ Some x) × (f x ≡ Some y)
and_then_is f None y e = absurd (cc)
and_then_is f (Some x) y e = (x, refl, e)

-- what a test that refuses let pass
pub unrefused : {A E : Type 0} (b : Bool) (why : E) (r : Result A E) (a : A)
    → (if b then Err why else r) ≡ Ok a → (b ≡ false) × (r ≡ Ok a)
unrefused true why r a e = absurd (cc e)
unrefused false why r a e = (refl, e)

-- which one of two it is
pub chosen : {A : Type 0} (b : Bool) (x y z : A) → (if b then x else y) ≡ z
    → ((b ≡ true) × (x ≡ z)) ⊎ ((b ≡ false) × (y ≡ z))
chosen true x y z e = inl (refl, e)
chosen false x y z e = inr (refl, e)

-- the item that was pushed stands at the end
pub push_at : {X : Type 0} (xs : List X) (y : X) (i : ℕ) (a : X) → slice_get (xs ++ y ∷ []) i ≡ Some a
    → (slice_get xs i ≡ Some a) ⊎ ((i ≡ length xs) × (a ≡ y))
push_at [] y zero a e = inr (refl, cc e)
push_at [] y (suc i) a e = absurd (cc e)
push_at (x ∷ xs) y zero a e = inl e
push_at (x ∷ xs) y (suc i) a e = elim (push_at xs y i a e) [
  | inl g ↦ inl g
  | inr g ↦ inr (rw g.0, g.1)
]

-- an item of the longer list is one of the list before, or the one that was pushed
pub push_get : {X : Type 0} (xs : List X) (y : X) (i : ℕ) (a : X) → slice_get (xs ++ y ∷ []) i ≡ Some a
    → (slice_get xs i ≡ Some a) ⊎ (a ≡ y)
push_get xs y i a e = elim (push_at xs y i a e) [ inl g ↦ inl g | inr g ↦ inr g.1 ]

-- a place within the front list has that list's item
pub front_get : {X : Type 0} (xs ys : List X) (i : ℕ) (a : X) → i < length xs
    → slice_get (xs ++ ys) i ≡ Some a → slice_get xs i ≡ Some a
front_get [] ys i a h e = absurd (omega arith)
front_get (x ∷ xs) ys zero a h e = e
front_get (x ∷ xs) ys (suc i) a h e = front_get xs ys i a (omega arith) e

-- What holds of each item of a list, by recursion on the list, and tests of lists.
use Rattle.std.proofs.Common.{◌≡◌, ℕ, suc, zero, Bool, true, false, ◌&&◌, List, [], ◌∷◌, ◌++◌, map, take}
use Rattle.std.proofs.Common.{drop, refl, inl, inr}
use Rattle.std.proofs.lemmas.Bool.{cases_Bool, and_from}
use Rattle.std.specs.List.{list_all, filter}

abbrev pub Each : {X : Type 0} → (X → Type 0) → List X → Type 0
Each P [] = Unit {0}
Each P (x ∷ xs) = P x × Each P xs

pub Each-append : {X : Type 0} (P : X → Type 0) (xs ys : List X) → Each P xs → Each P ys → Each P (xs ++ ys)
Each-append P [] ys h k = k
Each-append P (x ∷ xs) ys h k = (h.0, Each-append P xs ys h.1 k)

pub Each-left : {X : Type 0} (P : X → Type 0) (xs ys : List X) → Each P (xs ++ ys) → Each P xs
Each-left P [] ys h = tt
Each-left P (x ∷ xs) ys h = (h.0, Each-left P xs ys h.1)

pub Each-right : {X : Type 0} (P : X → Type 0) (xs ys : List X) → Each P (xs ++ ys) → Each P ys
Each-right P [] ys h = h
Each-right P (x ∷ xs) ys h = Each-right P xs ys h.1

pub Each-weaker : {X : Type 0} (P Q : X → Type 0) → ((x : X) → P x → Q x) → (xs : List X)
    → Each P xs → Each Q xs
Each-weaker P Q f [] h = tt
Each-weaker P Q f (x ∷ xs) h = (f x h.0, Each-weaker P Q f xs h.1)

pub Each-map : {X Y : Type 0} (P : Y → Type 0) (f : X → Y) (xs : List X) → Each (λ x. P (f x)) xs
    → Each P (map f xs)
Each-map P f [] h = tt
Each-map P f (x ∷ xs) h = (h.0, Each-map P f xs h.1)

pub Each-take : {X : Type 0} (P : X → Type 0) (n : ℕ) (xs : List X) → Each P xs → Each P (take n xs)
Each-take P zero xs h = tt
Each-take P (suc n) [] h = tt
Each-take P (suc n) (x ∷ xs) h = (h.0, Each-take P n xs h.1)

pub Each-drop : {X : Type 0} (P : X → Type 0) (n : ℕ) (xs : List X) → Each P xs → Each P (drop n xs)
Each-drop P zero xs h = h
Each-drop P (suc n) [] h = tt
Each-drop P (suc n) (x ∷ xs) h = Each-drop P n xs h.1

pub Each-filtered : {X : Type 0} (P : X → Type 0) (p : X → Bool) (xs : List X) → Each P xs
    → Each P (filter p xs)
Each-filtered P p [] h = tt
Each-filtered P p (x ∷ xs) h =
    let rest = Each-filtered P p xs h.1 in
    elim (cases_Bool (p x)) [ inl l ↦ rw l (h.0, rest) | inr l ↦ rw l rest ]

-- ---- tests

pub and-left : (a b : Bool) → (a && b) ≡ true → a ≡ true
and-left true b h = refl
and-left false b h = h

pub and-right : (a b : Bool) → (a && b) ≡ true → b ≡ true
and-right true b h = h
and-right false b h = cc

pub Each-from_all : {X : Type 0} (p : X → Bool) (xs : List X) → list_all p xs ≡ true
    → Each (λ x. p x ≡ true) xs
Each-from_all p [] h = tt
Each-from_all p (x ∷ xs) h =
    (and-left (p x) (list_all p xs) h, Each-from_all p xs (and-right (p x) (list_all p xs) h))

pub all-left : {X : Type 0} (p : X → Bool) (xs ys : List X) → list_all p (xs ++ ys) ≡ true
    → list_all p xs ≡ true
all-left p [] ys h = refl
all-left p (x ∷ xs) ys h = and_from (p x) _ (and-left (p x) _ h) (all-left p xs ys (and-right (p x) _ h))

pub all-right : {X : Type 0} (p : X → Bool) (xs ys : List X) → list_all p (xs ++ ys) ≡ true
    → list_all p ys ≡ true
all-right p [] ys h = h
all-right p (x ∷ xs) ys h = all-right p xs ys (and-right (p x) _ h)

pub all-take_drop : {X : Type 0} (p : X → Bool) (n : ℕ) (xs : List X) → list_all p (take n xs) ≡ true
    → list_all p (drop n xs) ≡ true → list_all p xs ≡ true
all-take_drop p zero xs h k = k
all-take_drop p (suc n) [] h k = refl
all-take_drop p (suc n) (x ∷ xs) h k =
    and_from (p x) _ (and-left (p x) _ h) (all-take_drop p n xs (and-right (p x) _ h) k)

-- what a test finds of those that another one keeps
pub Each-filter : {X : Type 0} (keeps p : X → Bool) (xs : List X) → list_all p (filter keeps xs) ≡ true
    → Each (λ x. keeps x ≡ true → p x ≡ true) xs
Each-filter keeps p [] h = tt
Each-filter keeps p (x ∷ xs) h = elim (cases_Bool (keeps x)) [
  | inl k ↦ (let all = rw k at h in ((λ _. and-left _ _ all), Each-filter keeps p xs (and-right _ _ all)))
  | inr k ↦ ((λ e. cc), Each-filter keeps p xs (rw k at h))
]

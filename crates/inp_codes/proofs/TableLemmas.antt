-- What a table gives, read by number and by name.
use Rattle.std.proofs.Common.{◌≡◌, ◌↔◌, ℕ, suc, Bool, true, false, List, [], ◌∷◌, Option, Some, None}
use Rattle.std.proofs.Common.{Contains, refl, sym, ap, ◌∙◌, subst, inl, inr, arith}
use Rattle.std.specs.List.{list_all}
use Rattle.std.specs.Str.{bytes_eq}
use Rattle.std.proofs.lemmas.Bool.{cases_Bool, false≢true}
use Rattle.std.proofs.lemmas.List.Recursion.{and_at}
use Rattle.std.proofs.lemmas.Slice.Eq.{bytes_eq-Decides}
use Rattle.inp_codes.specs.Table.{NamedNumber, name_in, number_in, is_name_word}

-- one more entry before those that contain another
Contains-more : {X : Type 0} (y : X) (xs : List X) (x : X) → Contains xs x → Contains (y ∷ xs) x
Contains-more y xs x h = (suc h.0, omega (arith, h.1), h.2)

-- the test answers for each entry that the list has
passes : {X : Type 0} (p : X → Bool) (xs : List X) (x : X) → list_all p xs ≡ true → Contains xs x → p x ≡ true
passes p xs x all h = subst (λ y. p y ≡ true) h.2 (and_at (list_all p) p refl (λ _ _. refl) xs h.0 x h.1 all)

-- a look-up gave this name
abbrev pub is_name : Option (List ℕ) → List ℕ → Bool
is_name None name = false
is_name (Some found) name = bytes_eq found name

-- the test means an equation
is_name-true : (o : Option (List ℕ)) (name : List ℕ) → is_name o name ≡ true → o ≡ Some name
is_name-true None name h = absurd (false≢true h)
is_name-true (Some found) name h = ap Some ((bytes_eq-Decides found name).0 h)

module _ {N : Type 0} (same : N → N → Bool) where
  -- a look-up gave this number
  abbrev pub is_number : Option N → N → Bool
  is_number None number = false
  is_number (Some found) number = same found number

  -- the table gives each entry's name at its number
  unfoldable pub names_found : List (NamedNumber N) → List (NamedNumber N) → Bool
  names_found table es = list_all (λ e. is_name (name_in same table e.0) e.1) es

  -- the table gives each entry's number at its name
  unfoldable pub numbers_found : List (NamedNumber N) → List (NamedNumber N) → Bool
  numbers_found table es = list_all (λ e. is_number (number_in table e.1) e.0) es

module _ {N : Type 0} (same : N → N → Bool) (same_is : (a b : N) → same a b ≡ true → a ≡ b) where
  -- the test means an equation
  is_number-true : (o : Option N) (number : N) → is_number same o number ≡ true → o ≡ Some number
  is_number-true None number h = absurd (false≢true h)
  is_number-true (Some found) number h = ap Some (same_is found number h)

  -- what is found by number is an entry
  pub Contains-name_in : (es : List (NamedNumber N)) (number : N) (name : List ℕ)
      → name_in same es number ≡ Some name → Contains es (number, name)
  unfolding name_in
  Contains-name_in [] number name h = cc
  Contains-name_in (e ∷ es) number name h =
      elim (cases_Bool (same e.0 number)) [
        | inl hit ↦
            let found : Some e.1 ≡ Some name = rw hit at h in
            let text : e.1 ≡ name = cc in
            (0, omega arith, λ i. (same_is e.0 number hit i, text i))
        | inr miss ↦ Contains-more e es (number, name) (Contains-name_in es number name (rw miss at h))
      ]

  -- what is found by name is an entry
  pub Contains-number_in : (es : List (NamedNumber N)) (number : N) (name : List ℕ)
      → number_in es name ≡ Some number → Contains es (number, name)
  unfolding number_in
  Contains-number_in [] number name h = cc
  Contains-number_in (e ∷ es) number name h =
      elim (cases_Bool (bytes_eq e.1 name)) [
        | inl hit ↦
            let found : Some e.0 ≡ Some number = rw hit at h in
            let first : e.0 ≡ number = cc in
            (0, omega arith, λ i. (first i, (bytes_eq-Decides e.1 name).0 hit i))
        | inr miss ↦ Contains-more e es (number, name) (Contains-number_in es number name (rw miss at h))
      ]

  -- each entry whose name is found is read by its number
  pub name_in-Contains : (table es : List (NamedNumber N)) → names_found same table es ≡ true
      → (number : N) (name : List ℕ) → Contains es (number, name) → name_in same table number ≡ Some name
  unfolding names_found
  name_in-Contains table es all number name h =
      is_name-true _ name (passes (λ e. is_name (name_in same table e.0) e.1) es (number, name) all h)

  -- each entry whose number is found is read by its name
  pub number_in-Contains : (table es : List (NamedNumber N)) → numbers_found same table es ≡ true
      → (number : N) (name : List ℕ) → Contains es (number, name) → number_in table name ≡ Some number
  unfolding numbers_found
  number_in-Contains table es all number name h =
      is_number-true _ number (passes (λ e. is_number same (number_in table e.1) e.0) es (number, name) all h)

  -- two tables that find each other's entries give each name one number
  same_numbers : (xs ys : List (NamedNumber N)) → numbers_found same ys xs ≡ true
      → numbers_found same xs ys ≡ true → (name : List ℕ) (o p : Option N) → number_in xs name ≡ o
      → number_in ys name ≡ p → o ≡ p
  same_numbers xs ys there back name None None h k = refl
  same_numbers xs ys there back name None (Some n) h k =
      sym h ∙ number_in-Contains xs ys back n name (Contains-number_in ys n name k)
  same_numbers xs ys there back name (Some n) p h k =
      sym (number_in-Contains ys xs there n name (Contains-number_in xs n name h)) ∙ k

  pub number_in-same : (xs ys : List (NamedNumber N)) → numbers_found same ys xs ≡ true
      → numbers_found same xs ys ≡ true → (name : List ℕ) → number_in xs name ≡ number_in ys name
  number_in-same xs ys there back name = same_numbers xs ys there back name _ _ refl refl

  -- a table that finds the name of each of its entries names nothing else
  pub name_in-iff_entry : (es : List (NamedNumber N)) → names_found same es es ≡ true
      → (number : N) (name : List ℕ) → (name_in same es number ≡ Some name) ↔ Contains es (number, name)
  name_in-iff_entry es found number name =
      (Contains-name_in es number name, name_in-Contains es es found number name)

  -- and one that finds both the name and the number of each of its entries is read alike both ways
  pub name_in-iff_number : (es : List (NamedNumber N)) → names_found same es es ≡ true
      → numbers_found same es es ≡ true → (number : N) (name : List ℕ) → (name_in same es number ≡ Some name)
      ↔ (number_in es name ≡ Some number)
  name_in-iff_number es names numbers number name = (
    λ h. number_in-Contains es es numbers number name (Contains-name_in es number name h),
    λ h. name_in-Contains es es names number name (Contains-number_in es number name h),
  )

  -- where each entry's name is a word, so is each name that is found
  pub is_name_word-name_in : (es : List (NamedNumber N)) → list_all (λ e. is_name_word e.1) es ≡ true
      → (number : N) (name : List ℕ) → name_in same es number ≡ Some name → is_name_word name ≡ true
  is_name_word-name_in es words number name h =
      passes (λ e. is_name_word e.1) es (number, name) words (Contains-name_in es number name h)

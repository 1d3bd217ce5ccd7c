-- The table of codes, read by type and then by code.
use Rattle.std.proofs.Common.{◌≡◌, ℕ, ◌+◌, ◌<◌, Bool, true, false, ◌&&◌, ◌==◌, cond, List, [], ◌∷◌, ◌++◌}
use Rattle.std.proofs.Common.{Option, Some, None, nat_eq, nat_le, ◌≤◌, refl, ap, ◌∙◌, inl, inr, arith, eq-eqb}
use Rattle.std.proofs.Common.{eqb-true, ne_eqb, leb-true}
use Rattle.std.specs.List.{flat_map}
use Rattle.std.specs.Option.{option_or}
use Rattle.std.proofs.lemmas.Bool.{and_parts, cases_Bool, cases_eq}
use Rattle.inp_codes.specs.CodeNames.{codes_in, entries_of_kind, is_same_code}
use Rattle.inp_codes.specs.Table.{NamedNumber, name_in}
use Rattle.inp_codes.proofs.ByNumberLemmas.{numbers_rise}

-- the test of two codes says that they are the same
pub is_same_code-true : (p q : ℕ × ℕ) → is_same_code p q ≡ true → p ≡ q
is_same_code-true p q h =
    let parts = and_parts (p.0 == q.0) (p.1 == q.1) h in
    let kind = eqb-true p.0 q.0 parts.0 in
    let code = eqb-true p.1 q.1 parts.1 in
    λ i. (kind i, code i)

module _ {N : Type 0} (same : N → N → Bool) where
  -- what a list does not name, the list behind it may
  name_in-append : (xs ys : List (NamedNumber N)) (n : N)
      → name_in same (xs ++ ys) n ≡ option_or (name_in same xs n) (name_in same ys n)
  unfolding name_in
  name_in-append [] ys n = refl
  name_in-append (x ∷ xs) ys n =
      elim (cases_Bool (same x.0 n)) [ inl hit ↦ rw hit | inr miss ↦ rw miss (name_in-append xs ys n) ]

-- the entries of one type, by the code alone
name_in-this_kind : (k : ℕ) (es : List (NamedNumber ℕ)) (kind code : ℕ) → (k == kind) ≡ true
    → name_in is_same_code (entries_of_kind (k, es)) (kind, code) ≡ name_in nat_eq es code
unfolding name_in
name_in-this_kind k [] kind code this = refl
name_in-this_kind k (e ∷ es) kind code this =
    rw this (ap (λ later. cond (e.0 == code) (Some e.1) later) (name_in-this_kind k es kind code this))

-- they have no name for a code of another type
name_in-other_kind : (k : ℕ) (es : List (NamedNumber ℕ)) (kind code : ℕ) → (k == kind) ≡ false
    → name_in is_same_code (entries_of_kind (k, es)) (kind, code) ≡ None
unfolding name_in
name_in-other_kind k [] kind code other = refl
name_in-other_kind k (e ∷ es) kind code other = rw other (name_in-other_kind k es kind code other)

-- the numbers of the types rise from `low` on
unfoldable pub kinds_rise_from : ℕ → List (ℕ × List (NamedNumber ℕ)) → Bool
kinds_rise_from low [] = true
kinds_rise_from low (k ∷ ks) = nat_le low k.0 && kinds_rise_from (k.0 + 1) ks

-- no entry has a type below the first
none_below : (ks : List (ℕ × List (NamedNumber ℕ))) (low kind code : ℕ) → kinds_rise_from low ks ≡ true
    → kind < low → name_in is_same_code (flat_map entries_of_kind ks) (kind, code) ≡ None
unfolding kinds_rise_from name_in
none_below [] low kind code rise below = refl
none_below (k ∷ ks) low kind code rise below =
    let parts = and_parts (nat_le low k.0) (kinds_rise_from (k.0 + 1) ks) rise in
    let from : low ≤ k.0 = leb-true low k.0 parts.0 in
    name_in-append is_same_code (entries_of_kind k) (flat_map entries_of_kind ks) (kind, code)
    ∙ ap (λ o. option_or o (name_in is_same_code (flat_map entries_of_kind ks) (kind, code)))
    (name_in-other_kind k.0 k.1 kind code (ne_eqb k.0 kind (λ s. omega arith)))
    ∙ none_below ks (k.0 + 1) kind code parts.1 (omega arith)

-- with nothing else to take, an `Option` stays
option_or-none : {X : Type 0} (o : Option X) → option_or o None ≡ o
option_or-none None = refl
option_or-none (Some x) = refl

-- the table has the names that the list of the type has
pub name_in-codes_in : (ks : List (ℕ × List (NamedNumber ℕ))) (low kind code : ℕ)
    → kinds_rise_from low ks ≡ true
    → name_in is_same_code (flat_map entries_of_kind ks) (kind, code) ≡ name_in nat_eq (codes_in ks kind) code
unfolding kinds_rise_from name_in codes_in
name_in-codes_in [] low kind code rise = refl
name_in-codes_in (k ∷ ks) low kind code rise =
    let parts = and_parts (nat_le low k.0) (kinds_rise_from (k.0 + 1) ks) rise in
    let rest = name_in is_same_code (flat_map entries_of_kind ks) (kind, code) in
    let split = name_in-append is_same_code (entries_of_kind k) (flat_map entries_of_kind ks) (kind, code) in
    elim (cases_eq k.0 kind) [
      | inl this ↦
          let same = eq-eqb k.0 kind this in
          let here = name_in-this_kind k.0 k.1 kind code same in
          let none = none_below ks (k.0 + 1) kind code parts.1 (omega arith) in
          rw same (split ∙ ap (λ o. option_or o rest) here ∙ ap (option_or (name_in nat_eq k.1 code)) none
          ∙ option_or-none _)
      | inr other ↦
          let apart = ne_eqb k.0 kind other in
          rw apart (split ∙ ap (λ o. option_or o rest) (name_in-other_kind k.0 k.1 kind code apart)
          ∙ name_in-codes_in ks (k.0 + 1) kind code parts.1)
    ]

-- the codes of each type rise, and each has a name
unfoldable pub codes_rise : List (ℕ × List (NamedNumber ℕ)) → Bool
codes_rise [] = true
codes_rise (k ∷ ks) = numbers_rise 0 k.1 && codes_rise ks

-- so do those of any one type
pub numbers_rise-codes_in : (ks : List (ℕ × List (NamedNumber ℕ))) (kind : ℕ) → codes_rise ks ≡ true
    → numbers_rise 0 (codes_in ks kind) ≡ true
unfolding codes_rise codes_in numbers_rise
numbers_rise-codes_in [] kind rise = refl
numbers_rise-codes_in (k ∷ ks) kind rise =
    let parts = and_parts (numbers_rise 0 k.1) (codes_rise ks) rise in
    elim (cases_Bool (k.0 == kind))
    [ inl this ↦ rw this parts.0 | inr other ↦ rw other (numbers_rise-codes_in ks kind parts.1) ]

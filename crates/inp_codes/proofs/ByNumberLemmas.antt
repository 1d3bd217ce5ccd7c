-- What stands at an index of names that are laid out by their numbers.
use Rattle.std.proofs.Common.{◌≡◌, ℕ, zero, suc, ◌+◌, ◌-◌, ◌<◌, ◌≤◌, Bool, true, false, ◌&&◌, List, [], ◌∷◌}
use Rattle.std.proofs.Common.{◌++◌, replicate, length, get_or, ◌==◌, Some, None, nat_le, nat_eq, refl, sym}
use Rattle.std.proofs.Common.{ap, ◌∙◌, inl, inr, arith, leb-true, eq-eqb, eqb-true, ne_eqb}
use Rattle.std.proofs.lemmas.Bool.{and_parts, cases_order, true≢false, false≢true}
use Rattle.std.specs.Borrow.{Bor}
use Rattle.inp_codes.specs.Table.{NamedNumber, name_in}
use Rattle.inp_codes.specs.ByNumber.{texts, names_by_number, names_from, name_at, unless_empty}

-- the text has a byte
abbrev pub is_some_text : List ℕ → Bool
is_some_text [] = false
is_some_text (b ∷ bs) = true

-- such a text is a name
unless_empty-some : (t : List ℕ) → is_some_text t ≡ true → unless_empty t ≡ Some t
unless_empty-some [] h = absurd (false≢true h)
unless_empty-some (b ∷ bs) h = refl

-- the numbers rise from `first` on, and each has a name
unfoldable pub numbers_rise : ℕ → List (NamedNumber ℕ) → Bool
numbers_rise first [] = true
numbers_rise first (e ∷ es) = (nat_le first e.0 && is_some_text e.1) && numbers_rise (e.0 + 1) es

-- no name is found below the first number
name_in-below : (es : List (NamedNumber ℕ)) (first number : ℕ) → numbers_rise first es ≡ true → number < first
    → name_in nat_eq es number ≡ None
unfolding name_in numbers_rise
name_in-below [] first number rise below = refl
name_in-below (e ∷ es) first number rise below =
    let parts = and_parts (nat_le first e.0 && is_some_text e.1) _ rise in
    let from : first ≤ e.0 = leb-true first e.0 (and_parts (nat_le first e.0) _ parts.0).0 in
    rw (ne_eqb e.0 number (λ s. omega arith)) (name_in-below es (e.0 + 1) number parts.1 (omega arith))

-- no name stands at the index of a hole
name_at-hole : (holes i : ℕ) (ts : List (List ℕ)) → i < holes → name_at (replicate holes [] ++ ts) i ≡ None
unfolding name_at
name_at-hole zero i ts h = absurd (omega arith)
name_at-hole (suc holes) zero ts h = refl
name_at-hole (suc holes) (suc i) ts h = name_at-hole holes i ts (omega arith)

-- behind the holes stands what stood without them
name_at-after : (holes i : ℕ) (ts : List (List ℕ))
    → name_at (replicate holes [] ++ ts) (holes + i) ≡ name_at ts i
unfolding name_at
name_at-after zero i ts = ap (name_at ts) (omega arith)
name_at-after (suc holes) i ts =
    let sum : suc holes + i ≡ suc (holes + i) = omega arith in
    rw sum (name_at-after holes i ts)

-- the name of a number stands at its index
name_at-names_from : (es : List (NamedNumber ℕ)) (first i : ℕ) → numbers_rise first es ≡ true
    → name_at (names_from first es) i ≡ name_in nat_eq es (first + i)
unfolding names_from name_in numbers_rise name_at
name_at-names_from [] first i rise = refl
name_at-names_from (e ∷ es) first i rise =
    let parts = and_parts (nat_le first e.0 && is_some_text e.1) (numbers_rise (e.0 + 1) es) rise in
    let this = and_parts (nat_le first e.0) (is_some_text e.1) parts.0 in
    let from : first ≤ e.0 = leb-true first e.0 this.0 in
    let rest = e.1 ∷ names_from (e.0 + 1) es in
    elim (cases_order (first + i) e.0) [
      | inl at ↦
          let i_is : i ≡ (e.0 - first) + 0 = omega arith in
          rw (eq-eqb e.0 (first + i) (sym at))
          (ap (name_at (replicate (e.0 - first) [] ++ rest)) i_is ∙ name_at-after (e.0 - first) 0 rest
          ∙ unless_empty-some e.1 this.1)
      | inr apart ↦ elim apart [
        | inl before ↦
            rw (ne_eqb e.0 (first + i) (λ s. omega arith))
            (name_at-hole (e.0 - first) i rest (omega arith)
            ∙ sym (name_in-below es (e.0 + 1) (first + i) parts.1 (omega arith)))
        | inr after ↦
            let j = i - (e.0 - first) - 1 in
            let i_is : i ≡ (e.0 - first) + suc j = omega arith in
            let sum : (e.0 + 1) + j ≡ first + i = omega arith in
            rw (ne_eqb e.0 (first + i) (λ s. omega arith))
            (ap (name_at (replicate (e.0 - first) [] ++ rest)) i_is ∙ name_at-after (e.0 - first) (suc j) rest
            ∙ name_at-names_from es (e.0 + 1) j parts.1 ∙ ap (name_in nat_eq es) sum)
      ]
    ]

-- no name stands past the end
pub name_at-past : (names : List (Bor (List ℕ))) (i : ℕ) → length names ≤ i → name_at (texts names) i ≡ None
unfolding name_at
name_at-past [] i h = refl
name_at-past (n ∷ ns) zero h = absurd (omega arith)
name_at-past (n ∷ ns) (suc i) h = name_at-past ns i (omega arith)

-- the text at an index is the name there, unless it is empty
pub name_at-item : (names : List (Bor (List ℕ))) (i : ℕ) (x : Bor (List ℕ)) → i < length names
    → x ≡ get_or names i x → name_at (texts names) i ≡ unless_empty x.now
unfolding name_at
name_at-item [] i x h e = absurd (omega arith)
name_at-item (n ∷ ns) zero x h e = ap (λ y. unless_empty y.now) (sym e)
name_at-item (n ∷ ns) (suc i) x h e = name_at-item ns i x (omega arith) e

-- what the test of the length says of a text
pub unless_empty-none : (t : List ℕ) → (length t == 0) ≡ true → unless_empty t ≡ None
unless_empty-none [] h = refl
unless_empty-none (b ∷ bs) h = absurd (omega (arith, eqb-true _ _ h))

pub unless_empty-is : (t : List ℕ) → (length t == 0) ≡ false → unless_empty t ≡ Some t
unless_empty-is [] h = absurd (true≢false h)
unless_empty-is (b ∷ bs) h = refl

-- the name of a number stands at its index, from 0 on
pub name_at-names_by_number : (es : List (NamedNumber ℕ)) (i : ℕ) → numbers_rise 0 es ≡ true
    → name_at (names_by_number es) i ≡ name_in nat_eq es i
name_at-names_by_number es i rise = let sum : 0 + i ≡ i = omega arith in name_at-names_from es 0 i rise
    ∙ ap (name_in nat_eq es) sum

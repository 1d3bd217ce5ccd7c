-- What words say as numbers, types and codes can be said again: it is within its limits.
use Rattle.std.proofs.Common.{inl, inr, ◌≡◌, ◌≤◌, ◌-◌, ◌^◌, ℕ, zero, suc, ℤ, pos, neg_ℤ, Bool, true, nat_le}
use Rattle.std.proofs.Common.{nat_eq, List, [], ◌∷◌, Option, Some, None, option_map, FitsSigned, w32}
use Rattle.std.proofs.Common.{Contains, refl, ◌∙◌, arith}
use Rattle.std.specs.List.{list_all}
use Rattle.std.proofs.lemmas.Bool.{eqb-true, leb-true}
use Rattle.std.proofs.lemmas.Option.{cond_some}
use Rattle.inp_record.proofs.Options.{chosen}
use Rattle.std.proofs.lemmas.List.Recursion.{and_at}
use Rattle.inp_codes.specs.Table.{NamedNumber}
use Rattle.inp_codes.specs.KindNames.{kind_entries, kind_of}
use Rattle.inp_codes.specs.CodeNames.{code_entries, code_of, is_same_code}
use Rattle.inp_codes.proofs.Computation.{event_codes}
use Rattle.inp_codes.proofs.CodeNamesLemmas.{is_same_code-true}
use Rattle.inp_codes.proofs.TableLemmas.{Contains-number_in}
use Rattle.inp_texts.specs.Number.{number, signed_number}
use Rattle.inp_texts.specs.Code.{kind_word, code_word, or_number, code_of_kind}
use Rattle.inp_texts.proofs.Numerals.{number_within}

-- numbers

-- what an option holds that is mapped
map_is : {A B : Type 0} (f : A → B) (o : Option A) (y : B) → option_map f o ≡ Some y
    → (x : A) × (o ≡ Some x) × (y ≡ f x)
map_is f None y e = absurd (cc)
map_is f (Some x) y e = (x, refl, cc)

-- a number above the limit is not read
pub number_most : (most : ℕ) (w : List ℕ) (n : ℕ) → number most w ≡ Some n → n ≤ most
number_most most w n e = leb-true _ _ (number_within most w n e)

fits_minus : (n : ℕ) → n ≤ 2 ^ 31 → FitsSigned w32 (neg_ℤ (pos n))
fits_minus zero h = record { sfits = omega arith }
fits_minus (suc n) h = record { sfits = omega arith }

fits_plus : (n : ℕ) → n ≤ 2 ^ 31 - 1 → FitsSigned w32 (pos n)
fits_plus n h = record { sfits = omega arith }

-- the digits are read with a limit, which is one greater behind a minus
pub signed_fits : (w : List ℕ) (z : ℤ) → signed_number w ≡ Some z → FitsSigned w32 z
unfolding signed_number
signed_fits [] z e = absurd (cc e)
signed_fits (b ∷ digits) z e = elim (chosen (nat_eq b 45) _ _ (Some z) e) [
  | inl m ↦ let h =
      map_is (λ n. neg_ℤ (pos n)) (number (2 ^ 31) digits) z m.1 in
      rw h.2 (fits_minus h.0 (number_most (2 ^ 31) digits h.0 h.1))
  | inr p ↦ let h =
      map_is (λ n. pos n) (number (2 ^ 31 - 1) (b ∷ digits)) z p.1 in
      rw h.2 (fits_plus h.0 (number_most (2 ^ 31 - 1) (b ∷ digits) h.0 h.1))
]

-- types and codes

at_entry : {X : Type 0} (p : X → Bool) (xs : List X) (x : X) → list_all p xs ≡ true
    → Contains xs x → p x ≡ true
at_entry p xs x all h = rw h.2 at (and_at (list_all p) p refl (λ _ _. refl) xs h.0 x h.1 all)

kinds_small : list_all (λ (e : NamedNumber ℕ). nat_le e.0 65535) kind_entries ≡ true
unfolding event_codes
kinds_small = refl

codes_small : list_all (λ (e : NamedNumber (ℕ × ℕ)). nat_le e.0.1 65535) code_entries ≡ true
unfolding event_codes
codes_small = refl

named_kind : (w : List ℕ) (kind : ℕ) → kind_of w ≡ Some kind → kind ≤ 65535
unfolding kind_of
named_kind w kind e =
    leb-true _ _ (at_entry (λ (e : NamedNumber ℕ). nat_le e.0 65535) kind_entries (kind, w) kinds_small
    (Contains-number_in nat_eq eqb-true kind_entries kind w e))

named_code : (w : List ℕ) (named : ℕ × ℕ) → code_of w ≡ Some named → named.1 ≤ 65535
unfolding code_of
named_code w named e =
    leb-true _ _
    (at_entry (λ (e : NamedNumber (ℕ × ℕ)). nat_le e.0.1 65535) code_entries (named, w) codes_small
    (Contains-number_in is_same_code is_same_code-true code_entries named w e))

-- a name is that of a known type, and a number is read with the limit
pub kind_fits : (w : List ℕ) (kind : ℕ) → kind_word w ≡ Some kind → kind ≤ 65535
unfolding kind_word
kind_fits w kind e = by_name (kind_of w) refl e
  where
    by_name : (o : Option ℕ) → kind_of w ≡ o → or_number o w ≡ Some kind → kind ≤ 65535
    by_name (Some found) h e = named_kind w kind (h ∙ e)
    by_name None h e = number_most 65535 w kind e

-- a name is that of a known code, and a number is read with the limit
pub code_fits : (kind : ℕ) (w : List ℕ) (code : ℕ) → code_word kind w ≡ Some code → code ≤ 65535
unfolding code_word
code_fits kind w code e = by_name (code_of w) refl e
  where
    by_name : (o : Option (ℕ × ℕ)) → code_of w ≡ o → code_of_kind kind o w ≡ Some code → code ≤ 65535
    by_name (Some named) h e = let same = (cond_some (nat_eq named.0 kind) named.1 code e).1 in
        rw same at (named_code w named h)
    by_name None h e = number_most 65535 w code e

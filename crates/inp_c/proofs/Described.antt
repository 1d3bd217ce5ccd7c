-- Calls that a description is given one after another, and codes that are gone through one after another.
use Rattle.std.proofs.Common.{◌≡◌, ℕ, suc, ◌+◌, ◌-◌, ◌*◌, ◌<◌, ◌≤◌, Bool, true, false, cond, List, length, []}
use Rattle.std.proofs.Common.{◌∷◌, ◌++◌, map, Ok, Err, refl, ap, ◌∙◌, arith}
use Rattle.std.specs.List.{filter, range_with_len}
use Rattle.inp_model.specs.Description.{Description}
use Rattle.inp_caps.specs.declared.caps_refused.CapsRefused.{CapsRefused}
use Rattle.inp_c.specs.DescriptionOfC.{Described, described_then, with_calls, has_bit, set_codes}

-- one list of calls behind another
pub with_calls-append : (d : Description) (xs ys : List (Description → Described))
    → with_calls d (xs ++ ys) ≡ described_then (with_calls d xs) (λ more. with_calls more ys)
with_calls-append d [] ys = refl
with_calls-append d (call ∷ xs) ys =
    elim (call d) as (λ r. described_then r (λ more. with_calls more (xs ++ ys))
    ≡ described_then (described_then r (λ more. with_calls more xs)) (λ more. with_calls more ys))
    [ Ok e ↦ with_calls-append e xs ys | Err why ↦ refl ]

module _ (call : ℕ → Description → Described) (test : ℕ → Bool) where
  -- the calls with the codes from i on
  abbrev pub rest : ℕ → ℕ → List (Description → Described)
  rest i n = map call (filter test (range_with_len i (n - i)))

  pub rest_on : (i n : ℕ) → i < n → test i ≡ true → rest i n ≡ call i ∷ rest (i + 1) n
  rest_on i n h e =
      let more : n - i ≡ suc (n - (i + 1)) = omega arith in
      let others = filter test (range_with_len (i + 1) (n - (i + 1))) in
      ap (λ (k : ℕ). map call (filter test (range_with_len i k))) more
      ∙ ap (λ (b : Bool). map call (cond b (i ∷ others) others)) e

  pub rest_off : (i n : ℕ) → i < n → test i ≡ false → rest i n ≡ rest (i + 1) n
  rest_off i n h e =
      let more : n - i ≡ suc (n - (i + 1)) = omega arith in
      let others = filter test (range_with_len (i + 1) (n - (i + 1))) in
      ap (λ (k : ℕ). map call (filter test (range_with_len i k))) more
      ∙ ap (λ (b : Bool). map call (cond b (i ∷ others) others)) e

  -- no code is left from the last one on, so no call is
  pub rest_none : (i n : ℕ) → n ≤ i → rest i n ≡ []
  rest_none i n h =
      let none : n - i ≡ 0 = omega arith in
      ap (λ (k : ℕ). map call (filter test (range_with_len i k))) none

  -- a code whose call is taken
  pub taken : (d e : Description) (i n : ℕ) → i < n → test i ≡ true → call i d ≡ Ok e
      → with_calls d (rest i n) ≡ with_calls e (rest (i + 1) n)
  taken d e i n h on ok =
      ap (with_calls d) (rest_on i n h on)
      ∙ ap (λ (r : Described). described_then r (λ more. with_calls more (rest (i + 1) n))) ok

  -- a code whose call is refused
  pub stopped : (d : Description) (i n : ℕ) (why : CapsRefused) → i < n → test i ≡ true → call i d ≡ Err why
      → with_calls d (rest i n) ≡ Err why
  stopped d i n why h on bad =
      ap (with_calls d) (rest_on i n h on)
      ∙ ap (λ (r : Described). described_then r (λ more. with_calls more (rest (i + 1) n))) bad

  -- a code that is not there
  pub passed : (d : Description) (i n : ℕ) → i < n → test i ≡ false
      → with_calls d (rest i n) ≡ with_calls d (rest (i + 1) n)
  passed d i n h off = ap (with_calls d) (rest_off i n h off)

-- the codes of a list of words are those from 0 on
pub all_codes : (call : ℕ → Description → Described) (words : List ℕ)
    → rest call (has_bit words) 0 (64 * length words) ≡ map call (set_codes words)
unfolding set_codes
all_codes call words =
    let whole : 64 * length words - 0 ≡ 64 * length words = omega arith in
    ap (λ (k : ℕ). map call (filter (has_bit words) (range_with_len 0 k))) whole

-- these calls, one after another, make this of a description
pub record Reaches (s : Description) (calls : List (Description → Described))
    (made : Described) : Type 0 where
  -- the calls make the description, or the refusal, that is named
  pub is : with_calls s calls ≡ made

-- calls that are taken leave a description, from which the others go on
pub going : {s e : Description} {xs ys : List (Description → Described)} {made : Described}
    → Reaches s xs (Ok e) → Reaches e ys made → Reaches s (xs ++ ys) made
going {s = s} {xs = xs} {ys = ys} p q =
    record {
      is = with_calls-append s xs ys
          ∙ ap (λ (t : Described). described_then t (λ more. with_calls more ys)) p.is ∙ q.is;
    }

-- where a call is refused those behind it are not made
pub halting : {s : Description} {xs : List (Description → Described)} {why : CapsRefused}
    → (ys : List (Description → Described)) → Reaches s xs (Err why) → Reaches s (xs ++ ys) (Err why)
halting {s = s} {xs = xs} ys p =
    record {
      is = with_calls-append s xs ys
          ∙ ap (λ (t : Described). described_then t (λ more. with_calls more ys)) p.is;
    }

-- Items one after another: what holds behind them, and lists that they write anew.
use Rattle.std.proofs.Common.{◌≡◌, ℕ, zero, suc, ◌+◌, ◌<◌, ◌≤◌, Bool, true, false, if◌then◌else◌, List, []}
use Rattle.std.proofs.Common.{◌∷◌, ◌++◌, length, get_or, set, refl, sym, subst, ◌∙◌, arith, add-one, inl, inr}
use Rattle.std.specs.List.{flat_map, range_with_len, list_all}
use Rattle.std.proofs.lemmas.Bool.{and_from, cases_Bool}
use Rattle.std.proofs.lemmas.List.{ext_get_or}
use Rattle.std.proofs.lemmas.List.Folds.{list_all-append}
use Rattle.inp_record.specs.declared.item.Item.{Item}
use Rattle.inp_record.specs.declared.context.Context.{Context}
use Rattle.inp_record.specs.ItemsBefore.{after}
use Rattle.inp_record.proofs.Sayable.{IsAccepted, after_all, AreAccepted}

-- two lists of items

-- items one behind the other leave what the second list leaves behind the first
pub after_all-append : (xs ys : List Item) (c : Context)
    → after_all (xs ++ ys) c ≡ after_all ys (after_all xs c)
after_all-append [] ys c = refl
after_all-append (i ∷ xs) ys c = after_all-append xs ys (after i c)

-- items that are accepted, and then others behind them
pub accepted_then : (c : Context) (xs ys : List Item) → AreAccepted c xs → AreAccepted (after_all xs c) ys
    → AreAccepted c (xs ++ ys)
accepted_then c [] ys a b = b
accepted_then c (i ∷ xs) ys a b = (a.0, accepted_then (after i c) xs ys a.1 b)

-- they are accepted, and this holds behind them
abbrev pub AreLaid : (Context → Type 0) → Context → List Item → Type 0
AreLaid P c items = AreAccepted c items × P (after_all items c)

-- the second items are accepted behind whatever the first ones leave
pub then_laid : (P Q : Context → Type 0) (c : Context) (xs ys : List Item) → AreLaid P c xs
    → ((new : Context) → P new → AreLaid Q new ys) → AreLaid Q c (xs ++ ys)
then_laid P Q c xs ys a on =
    let rest = on (after_all xs c) a.1 in
    (accepted_then c xs ys a.0 rest.0, subst Q (sym (after_all-append xs ys c)) rest.1)

-- An item for each number of a range that passes a test: what holds before each number holds behind the last
-- one.
module _ (Before : ℕ → Context → Type 0) (test : ℕ → Bool) (item : ℕ → Item) (to : ℕ)
    (one : (k : ℕ) (c : Context) → k < to → Before k c → test k ≡ true
    → IsAccepted c (item k) × Before (suc k) (after (item k) c)) (none : (k : ℕ) (c : Context) → Before k c
    → test k ≡ false → Before (suc k) c) where
  abbrev tested : ℕ → ℕ → List Item
  tested from n = flat_map (λ k. if test k then item k ∷ [] else []) (range_with_len from n)

  -- what holds before a number holds before the next one, by its item or, off the test, by none
  pub range_laid : (from n : ℕ) → from + n ≡ to → (c : Context) → Before from c
      → AreLaid (Before to) c (tested from n)
  range_laid from zero at c h = (tt, (let same : from ≡ to = omega arith in rw same at h))
  range_laid from (suc n) at c h = elim (cases_Bool (test from)) [
    | inl e ↦
        let here = one from c (omega arith) h e in
        let rest = range_laid (from + 1) n (omega arith) (after (item from) c) (rw add-one here.1) in
        rw e ((here.0, rest.0), rest.1)
    | inr e ↦ rw e (range_laid (from + 1) n (omega arith) c (rw add-one (none from c h e)))
  ]

-- lists of which each item passes a test

module _ (test : Item → Bool) where
  -- an item that passes, or none
  pub all_if : (b : Bool) (i : Item) → test i ≡ true → list_all test (if b then i ∷ [] else []) ≡ true
  all_if true i e = and_from _ _ e refl
  all_if false i e = refl

  -- none, or an item that passes
  pub all_unless : (b : Bool) (i : Item) → test i ≡ true → list_all test (if b then [] else i ∷ []) ≡ true
  all_unless true i e = refl
  all_unless false i e = and_from _ _ e refl

  -- the items of two lists that pass, one behind the other
  pub all_both : (xs ys : List Item) → list_all test xs ≡ true → list_all test ys ≡ true
      → list_all test (xs ++ ys) ≡ true
  all_both xs ys a b = list_all-append test xs ys ∙ and_from _ _ a b

  -- the items of many lists that pass, one behind the other
  pub all_each : {X : Type 0} (items : X → List Item) → ((x : X) → list_all test (items x) ≡ true)
      → (xs : List X) → list_all test (flat_map items xs) ≡ true
  all_each items each [] = refl
  all_each items each (x ∷ xs) = all_both (items x) (flat_map items xs) (each x) (all_each items each xs)

-- a list that is written anew value by value: the first values of one list, and then those of the other

-- the old list, whose first values were written anew by those of the goal
pub mixed : {X : Type 0} → ℕ → List X → List X → List X
mixed zero goal old = old
mixed (suc k) [] old = old
mixed (suc k) (x ∷ goal) [] = []
mixed (suc k) (x ∷ goal) (y ∷ old) = x ∷ mixed k goal old

-- no value was written anew yet
pub mixed_none : {X : Type 0} (goal old : List X) → mixed 0 goal old ≡ old
unfolding mixed
mixed_none goal old = refl

-- one value more
pub mixed_set : {X : Type 0} (k : ℕ) (goal old : List X) (x d : X) → length goal ≡ length old
    → get_or goal k d ≡ x → set (mixed k goal old) k x ≡ mixed (suc k) goal old
unfolding mixed
mixed_set zero [] [] x d size e = refl
mixed_set zero (y ∷ goal) (z ∷ old) x d size e = rw (← e)
mixed_set (suc k) [] [] x d size e = refl
mixed_set (suc k) (y ∷ goal) (z ∷ old) x d size e = rw (mixed_set k goal old x d (omega arith) e)
mixed_set k goal old x d size e = absurd (omega arith)

-- the same value in both lists
pub mixed_kept : {X : Type 0} (k : ℕ) (goal old : List X) (d : X) → get_or goal k d ≡ get_or old k d
    → mixed k goal old ≡ mixed (suc k) goal old
unfolding mixed
mixed_kept zero (y ∷ goal) (z ∷ old) d e = rw (← e)
mixed_kept (suc k) (y ∷ goal) (z ∷ old) d e = rw (mixed_kept k goal old d e)
mixed_kept k goal old d e = refl

-- where the rest of both is the same, all of it is written
pub mixed_all : {X : Type 0} (n : ℕ) (goal old : List X) (d : X) → length goal ≡ length old
    → ((k : ℕ) → n ≤ k → get_or goal k d ≡ get_or old k d) → mixed n goal old ≡ goal
unfolding mixed
mixed_all zero goal old d size rest =
    ext_get_or d old goal (sym size) (λ k within. sym (rest k (omega arith)))
mixed_all (suc n) [] [] d size rest = refl
mixed_all (suc n) (y ∷ goal) (z ∷ old) d size rest =
    rw (mixed_all n goal old d (omega arith) (λ k past. rest (suc k) (omega arith)))
mixed_all n goal old d size rest = absurd (omega arith)

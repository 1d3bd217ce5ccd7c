-- How often a place stands among those that were added.
use Rattle.std.proofs.Common.{◌≡◌, ◌≢◌, ℕ, zero, suc, ◌+◌, ◌-◌, ◌<◌, ◌≤◌, nat_eq, cond, List, ◌∷◌, ◌++◌}
use Rattle.std.proofs.Common.{length, refl, arith, eq-eqb, ne_eqb, []}
use Rattle.std.specs.Prelude.{count_by, All}
use Rattle.std.specs.List.{range_with_len}
use Rattle.std.proofs.lemmas.List.Sums.{sum_by-cons, sum_by-append}
use mathlib.Core.Logic.{dite}
use native.Mathlib.Decide.{dec_le, ℕ_discrete}
use Rattle.inp_turn.specs.PassView.{added_places, OwnsSeen, view_after_give}
use Rattle.std.proofs.lemmas.List.Elements.{All-append}
use Rattle.std.proofs.lemmas.List.FromFn.{length-range_with_len, get_or-range_with_len}
use mathlib.Core.List.{IsPrefix}
use Rattle.inp_turn.specs.declared.pass_view.PassView.{PassView}
use Rattle.inp_turn.proofs.Prefixes.{prefix-length}

abbrev count : ℕ → List ℕ → ℕ
count p xs = count_by (nat_eq p) xs

abbrev pub here : ℕ → ℕ → ℕ
here p x = cond (nat_eq p x) 1 0

here-same : (p x : ℕ) → p ≡ x → here p x ≡ 1
here-same p x e = rw (eq-eqb p x e)

pub here-other : (p x : ℕ) → p ≢ x → here p x ≡ 0
here-other p x n = rw (ne_eqb p x n)

pub count-cons : (p x : ℕ) (xs : List ℕ) → count p (x ∷ xs) ≡ here p x + count p xs
count-cons p x xs = sum_by-cons (λ y. cond (nat_eq p y) 1 0) x xs

pub count-append : (p : ℕ) (xs ys : List ℕ) → count p (xs ++ ys) ≡ count p xs + count p ys
count-append p xs ys = sum_by-append (λ y. cond (nat_eq p y) 1 0) xs ys

pub count-below : (p a n : ℕ) → p < a → count p (range_with_len a n) ≡ 0
count-below p a zero l = refl
count-below p a (suc n) l = let h = here-other p a (λ e. omega arith) in let r =
    count-below p (a + 1) n (omega arith) in let c = count-cons p a (range_with_len (a + 1) n) in omega arith

pub count-behind : (p a n : ℕ) → a + n ≤ p → count p (range_with_len a n) ≡ 0
count-behind p a zero l = refl
count-behind p a (suc n) l = let h = here-other p a (λ e. omega arith) in let r =
    count-behind p (a + 1) n (omega arith) in let c = count-cons p a (range_with_len (a + 1) n) in omega arith

pub count-more : (p a m n k : ℕ) → k ≡ m + n
    → count p (range_with_len a k) ≡ count p (range_with_len a m) + count p (range_with_len (a + m) n)
count-more p a zero n k e = let e' : k ≡ n = omega arith in let same : a ≡ a + 0 = omega arith in
    let r : count p (range_with_len a k) ≡ count p (range_with_len (a + 0) n) =
    (λ i. count p (range_with_len (same i) (e' i))) in omega arith
count-more p a (suc m) n zero e = absurd (omega arith)
count-more p a (suc m) n (suc k) e = let r =
    count-more p (a + 1) m n k (omega arith) in let same : a + 1 + m ≡ a + suc m = omega arith in
    let r' : count p (range_with_len (a + 1) k)
    ≡ count p (range_with_len (a + 1) m) + count p (range_with_len (a + suc m) n) = rw same at r in
    omega (arith, count-cons p a (range_with_len (a + 1) k), count-cons p a (range_with_len (a + 1) m))

pub count-within : (p a n : ℕ) → a ≤ p → p < a + n → count p (range_with_len a n) ≡ 1
count-within p a zero l h = absurd (omega arith)
count-within p a (suc n) l h = let c = count-cons p a (range_with_len (a + 1) n) in dite (ℕ_discrete p a)
    (λ same. omega (arith, here-same p a same, count-below p (a + 1) n (omega arith)))
    (λ other. omega (arith, here-other p a other, count-within p (a + 1) n (omega arith) (omega arith)))

module _ {E : Type 0} where
  -- what was added, and then added again
  pub added-more : (p : ℕ) (xs ys zs : List E) → length xs ≤ length ys → length ys ≤ length zs
      → count p (added_places xs zs) ≡ count p (added_places xs ys) + count p (added_places ys zs)
  added-more p xs ys zs l h = let e : length xs + (length ys - length xs) ≡ length ys = omega arith in
      let r =
      count-more p (length xs) (length ys - length xs) (length zs - length ys) (length zs - length xs)
      (omega arith) in rw e at r

  pub added-none : (p : ℕ) (xs : List E) → count p (added_places xs xs) ≡ 0
  added-none p xs = let e : length xs - length xs ≡ 0 = omega arith in rw e refl

  pub added-le-one : (p : ℕ) (xs ys : List E) → count p (added_places xs ys) ≤ 1
  added-le-one p xs ys = let n : ℕ = length ys - length xs in dite (dec_le (length xs) p)
      (λ from. dite (dec_le (length xs + n) p) (λ behind. omega (arith, count-behind p (length xs) n behind))
      (λ within. omega (arith, count-within p (length xs) n from (omega arith))))
      (λ below. omega (arith, count-below p (length xs) n (omega arith)))

-- A pass owns places of entries that it has seen

abbrev Below : ℕ → List ℕ → Type 0
Below n xs = All (λ place. place < n) xs

count-high : (place n : ℕ) (xs : List ℕ) → Below n xs → n ≤ place → count_by (nat_eq place) xs ≡ 0
count-high place n [] below l = refl
count-high place n (x ∷ xs) below l = let first : x < n = below 0 0 (omega arith) in
    omega (
      arith,
      count-cons place x xs,
      here-other place x (λ e. omega arith),
      count-high place n xs (λ k d h. below (suc k) d (omega arith)) l,
    )

below-more : (m n : ℕ) (xs : List ℕ) → m ≤ n → Below m xs → Below n xs
below-more m n xs l below k d h = omega (arith, below k d h)

below-range : (a k n : ℕ) → a + k ≤ n → Below n (range_with_len a k)
below-range a k n l i d h = let inside : i < k =
    omega (arith, length-range_with_len a k) in omega (arith, get_or-range_with_len a k i d inside)

module _ {B E : Type 0} where
  pub count-unseen : (v : PassView B E) (place : ℕ) → OwnsSeen v → length v.seen ≤ place
      → count_by (nat_eq place) v.own ≡ 0
  count-unseen v place owns l = count-high place (length v.seen) v.own owns l

  pub owns-give : (v : PassView B E) (given : List E) → OwnsSeen v → IsPrefix v.seen given
      → OwnsSeen (view_after_give v given)
  owns-give v given owns more = let l = prefix-length v.seen given more in
      All-append (λ place. place < length given) v.own (added_places v.seen given)
      (below-more (length v.seen) (length given) v.own l owns)
      (below-range (length v.seen) (length given - length v.seen) (length given) (omega arith))

-- How often a number is in a list, as the list changes.
use Rattle.std.proofs.Common.{◌≡◌, ◌≢◌, ◌≤◌, ℕ, zero, suc, ◌+◌, Bool, true, false, if◌then◌else◌, nat_eq}
use Rattle.std.proofs.Common.{List, [], ◌∷◌, ◌++◌, length, take, drop, refl, sym, subst, inl, inr, arith}
use Rattle.std.proofs.lemmas.Bool.{cases_eq, eq-eqb, ne_eqb}
use Rattle.inp_ring.specs.Ring.{times, AreDifferent}

-- What holds at one number, and at each other one, holds at each.
pub at_each : (P : ℕ → Type 0) (m : ℕ) → P m → ((n : ℕ) → n ≢ m → P n) → (n : ℕ) → P n
at_each P m here other n = elim (cases_eq n m) [ inl e ↦ subst P (sym e) here | inr d ↦ other n d ]

-- 1 where the numbers are the same one
abbrev pub once : ℕ → ℕ → ℕ
once n m = if nat_eq m n then 1 else 0

pub once_same : (n : ℕ) → once n n ≡ 1
once_same n = rw (eq-eqb n n refl)

pub once_other : (n m : ℕ) → m ≢ n → once n m ≡ 0
once_other n m h = rw (ne_eqb m n h)

pub once-le : (n m : ℕ) → once n m ≤ 1
once-le n m = le (nat_eq m n)
  where
    le : (b : Bool) → (if b then 1 else 0) ≤ 1
    le true = omega arith
    le false = omega arith

pub times-append : (n : ℕ) (q r : List ℕ) → times n (q ++ r) ≡ times n q + times n r
times-append n [] r = omega arith
times-append n (m ∷ q) r = omega (arith, times-append n q r)

pub times_push : (n m : ℕ) (q : List ℕ) → times n (q ++ m ∷ []) ≡ times n q + once n m
times_push n m q = omega (arith, times-append n q (m ∷ []))

pub times-take-drop : (n k : ℕ) (q : List ℕ) → times n (take k q) + times n (drop k q) ≡ times n q
times-take-drop n zero q = omega arith
times-take-drop n (suc k) [] = omega arith
times-take-drop n (suc k) (m ∷ q) = omega (arith, times-take-drop n k q)

pub times-drop-le : (n k : ℕ) (q : List ℕ) → times n (drop k q) ≤ times n q
times-drop-le n k q = omega (arith, times-take-drop n k q)

pub times-le-length : (n : ℕ) (q : List ℕ) → times n q ≤ length q
times-le-length n [] = omega arith
times-le-length n (m ∷ q) = omega (arith, times-le-length n q, once-le n m)

-- the first number is there
pub times_first : (n : ℕ) (q : List ℕ) → 1 ≤ times n (n ∷ q)
times_first n q = omega (arith, once_same n)

-- the numbers stay different where a new one is put
pub AreDifferent_push : (m : ℕ) (q : List ℕ) → AreDifferent q → times m q ≡ 0 → AreDifferent (q ++ m ∷ [])
AreDifferent_push m q h new = at_each _ m (omega (arith, times_push m m q, once_same m, new))
    (λ n d. omega (arith, times_push n m q, once_other n m (λ e. d (sym e)), h n))

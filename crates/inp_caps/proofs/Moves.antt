-- What `defuzz` gives, by its tests.
use Rattle.std.proofs.Common.{◌≡◌, zero, suc, Bool, true, false, ℤ, pos, negsuc, ◌+ℤ◌, ◌*ℤ◌, of_z, w32}
use Rattle.std.proofs.Common.{if◌then◌else◌, refl, arith}
use Rattle.std.specs.Prelude.{int_div}
use Rattle.std.specs.Ordering.{int_eq}
use Rattle.std.proofs.lemmas.Bool.Decides.{nat_tests}
use Rattle.std.proofs.lemmas.Int.{ints}
use Rattle.inp_model.specs.Defuzz.{defuzz, is_within}

pub within_same : (d o v e p w : ℤ) → d ≡ e → o ≡ p → v ≡ w → is_within d o v ≡ is_within e p w
within_same d o v e p w x y z = cc

pub int_eq-nonzero : (f : ℤ) → (of_z w32 f ≡ 0 → ⊥) → int_eq f (pos 0) ≡ false
int_eq-nonzero (pos zero) h = absurd (h refl)
int_eq-nonzero (pos (suc n)) h = grind (arith, ints, nat_tests)
int_eq-nonzero (negsuc n) h = refl

first : (z a b c : Bool) (v o q h : ℤ) → z ≡ false → a ≡ true
    → (if z then v else if a then o else if b then q else if c then h else v) ≡ o
first z a b c v o q h x y = rw (x, y) refl

second : (z a b c : Bool) (v o q h : ℤ) → z ≡ false → a ≡ false → b ≡ true
    → (if z then v else if a then o else if b then q else if c then h else v) ≡ q
second z a b c v o q h x y t = rw (x, y, t) refl

third : (z a b c : Bool) (v o q h : ℤ) → z ≡ false → a ≡ false → b ≡ false → c ≡ true
    → (if z then v else if a then o else if b then q else if c then h else v) ≡ h
third z a b c v o q h x y t u = rw (x, y, t, u) refl

last : (z a b c : Bool) (v o q h : ℤ) → z ≡ false → a ≡ false → b ≡ false → c ≡ false
    → (if z then v else if a then o else if b then q else if c then h else v) ≡ v
last z a b c v o q h x y t u = rw (x, y, t, u) refl

-- within half the fuzz
pub defuzz-stays : (v o f : ℤ) → int_eq f (pos 0) ≡ false → is_within (int_div f (pos 2)) o v ≡ true
    → defuzz v o f ≡ o
defuzz-stays v o f x y =
    first (int_eq f (pos 0)) (is_within (int_div f (pos 2)) o v) (is_within f o v)
    (is_within (pos 2 *ℤ f) o v) v o (int_div (pos 3 *ℤ o +ℤ v) (pos 4)) (int_div (o +ℤ v) (pos 2)) x y

-- within the fuzz
pub defuzz-quarter : (v o f : ℤ) → int_eq f (pos 0) ≡ false → is_within (int_div f (pos 2)) o v ≡ false
    → is_within f o v ≡ true → defuzz v o f ≡ int_div (pos 3 *ℤ o +ℤ v) (pos 4)
defuzz-quarter v o f x y t =
    second (int_eq f (pos 0)) (is_within (int_div f (pos 2)) o v) (is_within f o v)
    (is_within (pos 2 *ℤ f) o v) v o (int_div (pos 3 *ℤ o +ℤ v) (pos 4)) (int_div (o +ℤ v) (pos 2)) x y t

-- within twice the fuzz
pub defuzz-half : (v o f : ℤ) → int_eq f (pos 0) ≡ false → is_within (int_div f (pos 2)) o v ≡ false
    → is_within f o v ≡ false → is_within (pos 2 *ℤ f) o v ≡ true → defuzz v o f ≡ int_div (o +ℤ v) (pos 2)
defuzz-half v o f x y t u =
    third (int_eq f (pos 0)) (is_within (int_div f (pos 2)) o v) (is_within f o v)
    (is_within (pos 2 *ℤ f) o v) v o (int_div (pos 3 *ℤ o +ℤ v) (pos 4)) (int_div (o +ℤ v) (pos 2)) x y t u

-- farther away
pub defuzz-moves : (v o f : ℤ) → int_eq f (pos 0) ≡ false → is_within (int_div f (pos 2)) o v ≡ false
    → is_within f o v ≡ false → is_within (pos 2 *ℤ f) o v ≡ false → defuzz v o f ≡ v
defuzz-moves v o f x y t u =
    last (int_eq f (pos 0)) (is_within (int_div f (pos 2)) o v) (is_within f o v)
    (is_within (pos 2 *ℤ f) o v) v o (int_div (pos 3 *ℤ o +ℤ v) (pos 4)) (int_div (o +ℤ v) (pos 2)) x y t u

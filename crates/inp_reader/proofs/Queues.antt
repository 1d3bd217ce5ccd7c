-- The first item of a part of a buffer, from one index to another, and what is left behind it.
use Rattle.std.proofs.Common.{◌≡◌, ℕ, suc, ◌+◌, ◌-◌, ◌<◌, ◌≤◌, List, [], ◌∷◌, length, take, drop, get_or, ap}
use Rattle.std.proofs.Common.{arith, IsTrue, nat_eq, add-one, length-drop, length-take, Some}
use Rattle.std.proofs.lemmas.Bool.Decides.{nat_tests}
use Rattle.std.proofs.lemmas.List.{drop-drop, drop-take}
use Rattle.std.proofs.lemmas.Option.{get_or_from_slice_get}
use Rattle.std.proofs.Math.Seq.{drop-cons}
use Rattle.std.specs.List.{slice_get}

take_next : {A : Type 0} (m : ℕ) (k : ℕ) (x : A) (rest : List A) → m ≡ suc k
    → take m (x ∷ rest) ≡ x ∷ take k rest
take_next m k x rest h = rw h

-- the first item, and those behind it
pub part-first : {A : Type 0} (buffer : List A) (first end : ℕ) (default : A) → first < end
    → end ≤ length buffer
    → take (end - first) (drop first buffer) ≡ get_or buffer first default
    ∷ take (end - (first + 1)) (drop (first + 1) buffer)
part-first buffer first end default h k =
    let within : first < length buffer = omega (arith, h, k) in
    let n : end - first ≡ suc (end - (first + 1)) = omega (arith, h) in
    let opened = drop-cons buffer first default within in
    rw (
      opened,
      take_next (end - first) (end - (first + 1)) (get_or buffer first default)
          (drop (suc first) buffer) n,
      ← add-one first,
    )

-- a part without an item is as long as nothing
pub part-empty : {A : Type 0} (buffer : List A) (first end : ℕ) → first ≤ end → end ≤ length buffer
    → take (end - first) (drop first buffer) ≡ [] → first ≡ end
part-empty buffer first end h k e =
    omega (arith, h, k, length-take (end - first) (drop first buffer), length-drop first buffer, ap length e)

-- from an index to itself there is no item
pub no_part : {A : Type 0} (buffer : List A) (first end : ℕ) → IsTrue (nat_eq first end)
    → take (end - first) (drop first buffer) ≡ []
no_part buffer first end h =
    let same : first ≡ end = grind (arith, nat_tests, h) in
    let none : end - first ≡ 0 = omega (arith, same) in
    rw none

-- what is behind the first items of a part
pub part-rest : {A : Type 0} (buffer : List A) (first end count : ℕ) → count ≤ end - first
    → take (end - (first + count)) (drop (first + count) buffer)
    ≡ drop count (take (end - first) (drop first buffer))
part-rest buffer first end count h =
    let n : end - first ≡ count + (end - (first + count)) = omega (arith, h) in
    rw (← drop-drop, ← drop-take, ← n)

-- numbers that are equal pass the test of equality
pub is_same : (m n : ℕ) → m ≡ n → IsTrue (nat_eq m n)
is_same m n h = grind (arith, nat_tests, h)

-- the rest of a list from an index on
pub rest-first : {A : Type 0} (list : List A) (next : ℕ) (first : A) → next < length list
    → slice_get list next ≡ Some first → drop next list ≡ first ∷ drop (next + 1) list
rest-first list next first h is =
    rw (drop-cons list next first h, get_or_from_slice_get list next first first is, ← add-one next)

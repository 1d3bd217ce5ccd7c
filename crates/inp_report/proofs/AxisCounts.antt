-- How many axes a device has among some codes, code by code.
use Rattle.std.proofs.Common.{◌≡◌, ◌≤◌, ℕ, ◌+◌, ◌-◌, Bool, true, false, [], ◌∷◌, length, refl, arith}
use Rattle.std.specs.List.{filter, range_with_len}
use Rattle.std.proofs.lemmas.List.{length-append}
use Rattle.std.proofs.lemmas.List.Elements.{filter-append}
use Rattle.inp_model.specs.declared.event.TheConstants.{EV_ABS}
use Rattle.inp_model.specs.Description.{Description, supports}
use Rattle.inp_reader.specs.Reader.{axes_among}
use Rattle.inp_model.proofs.Injection.{range-append}

abbrev one_if : Bool → ℕ
one_if true = 1
one_if false = 0

count-one : (d : Description) (code : ℕ)
    → length (filter (supports d EV_ABS) (code ∷ [])) ≡ one_if (supports d EV_ABS code)
count-one d code = by_flag (supports d EV_ABS code) refl
  where
    by_flag : (b : Bool) → supports d EV_ABS code ≡ b
        → length (filter (supports d EV_ABS) (code ∷ [])) ≡ one_if b
    by_flag true e = rw e refl
    by_flag false e = rw e refl

-- no code
pub count-none : (d : Description) (first : ℕ) → 0 ≡ length (axes_among d first (first - first))
unfolding axes_among
count-none d first = let e : 0 ≡ first - first = omega arith in rw (← e)

-- one code more
count-next : (d : Description) (first code count : ℕ) → first ≤ code
    → count ≡ length (axes_among d first (code - first))
    → count + one_if (supports d EV_ABS code) ≡ length (axes_among d first (code + 1 - first))
unfolding axes_among
count-next d first code count h so_far =
    let n : ℕ = code - first in
    let e : n + 1 ≡ code + 1 - first = omega (arith, h) in
    let f : code ≡ first + n = omega (arith, h) in
    let p : ℕ → Bool = supports d EV_ABS in
    rw (
      ← e,
      range-append first n 1,
      filter-append p (range_with_len first n) (range_with_len (first + n) 1),
      length-append (filter p (range_with_len first n)) (filter p (range_with_len (first + n) 1)),
      ← f,
      count-one d code,
      ← so_far,
    )

-- a supported code adds one axis to those before it
pub count-more : (d : Description) (first code count : ℕ) → first ≤ code → true ≡ supports d EV_ABS code
    → count ≡ length (axes_among d first (code - first))
    → count + 1 ≡ length (axes_among d first (code + 1 - first))
count-more d first code count h is so_far = rw (← is) at (count-next d first code count h so_far)

-- a code that is not supported adds no axis
pub count-skip : (d : Description) (first code count : ℕ) → first ≤ code → false ≡ supports d EV_ABS code
    → count ≡ length (axes_among d first (code - first))
    → count ≡ length (axes_among d first (code + 1 - first))
count-skip d first code count h is so_far = let e : count ≡ count + 0 =
    omega arith in rw (← is, ← e) at (count-next d first code count h so_far)

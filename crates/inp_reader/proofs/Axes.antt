-- The queries of a range of axes are those of its first codes, and then those of the others.
use Rattle.std.proofs.Common.{◌≡◌, ℕ, ◌+◌, ◌-◌, ◌<◌, ◌≤◌, Bool, true, false, cond, [], ◌∷◌, ◌++◌, map, refl}
use Rattle.std.proofs.Common.{sym, arith}
use Rattle.std.specs.List.{range_with_len, filter}
use Rattle.std.proofs.lemmas.List.{map-append}
use Rattle.std.proofs.lemmas.List.Elements.{filter-append}
use Rattle.inp_model.specs.declared.event.TheConstants.{EV_ABS}
use Rattle.inp_model.specs.declared.step.Step.TheVariants.{GetAxis}
use Rattle.inp_model.specs.Description.{Description, supports}
use Rattle.inp_reader.specs.Reader.{axes_among, axis_queries, only_if, plain_axes}
use Rattle.inp_model.proofs.Injection.{range-append}

map-if : (client code : ℕ) (wanted : Bool)
    → map (GetAxis client) (cond wanted (code ∷ []) []) ≡ only_if wanted (GetAxis client code)
map-if client code true = refl
map-if client code false = refl

module _ (d : Description) (client : ℕ) where
  pub axis_queries-append : (first n m : ℕ)
      → axis_queries client (axes_among d first (n + m)) ≡ axis_queries client (axes_among d first n)
      ++ axis_queries client (axes_among d (first + n) m)
  unfolding axes_among
  axis_queries-append first n m =
      rw (range-append, filter-append)
      (map-append (GetAxis client) (filter (supports d EV_ABS) (range_with_len first n))
      (filter (supports d EV_ABS) (range_with_len (first + n) m)))

  axis_queries-one : (code : ℕ)
      → axis_queries client (axes_among d code 1) ≡ only_if (supports d EV_ABS code) (GetAxis client code)
  unfolding axes_among
  axis_queries-one code = map-if client code (supports d EV_ABS code)

  -- one code more
  pub axis_queries-next : (first code : ℕ) (wanted : Bool) → first ≤ code → wanted ≡ supports d EV_ABS code
      → axis_queries client (axes_among d first (code - first)) ++ only_if wanted (GetAxis client code)
      ≡ axis_queries client (axes_among d first (code + 1 - first))
  axis_queries-next first code wanted h w =
      let n : ℕ = code - first in
      let e : code + 1 - first ≡ n + 1 = omega (arith, h) in
      let f : first + n ≡ code = omega (arith, h) in
      rw (e, axis_queries-append first n 1, f, axis_queries-one code, ← w)

  -- the codes up to one, and those behind it
  pub axis_queries-behind : (first code end : ℕ) → first ≤ code → code < end
      → axis_queries client (axes_among d first (code + 1 - first))
      ++ axis_queries client (axes_among d (code + 1) (end - (code + 1)))
      ≡ axis_queries client (axes_among d first (end - first))
  axis_queries-behind first code end h k =
      let n : ℕ = code + 1 - first in
      let m : ℕ = end - (code + 1) in
      let e : first + n ≡ code + 1 = omega (arith, h) in
      let f : n + m ≡ end - first = omega (arith, h, k) in
      rw (← f, axis_queries-append first n m, e)

  -- no code
  pub axis_queries-none : (first : ℕ) → axis_queries client (axes_among d first (first - first)) ≡ []
  unfolding axes_among
  axis_queries-none first = let e : first - first ≡ 0 = omega arith in rw e

  -- the codes below the axes of slots, and then those above them, are all plain axes
  pub plain_axes-parts : axis_queries client (axes_among d 0 47) ++ axis_queries client (axes_among d 62 2)
      ≡ axis_queries client (plain_axes d)
  plain_axes-parts = sym (map-append (GetAxis client) (axes_among d 0 47) (axes_among d 62 2))

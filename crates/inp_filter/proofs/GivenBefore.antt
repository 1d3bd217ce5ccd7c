-- What the first filter was given before each of the frames that a step ends: what it was given before
-- the step, and the frames of the step that end earlier.
use Rattle.std.proofs.Common.{◌≡◌, ℕ, suc, ◌<◌, ◌≤◌, Bool, List, [], ◌∷◌, ◌++◌, length, map, refl, sym, ◌∙◌}
use Rattle.std.proofs.Common.{subst, arith, Option, Some, None, append_assoc}
use Rattle.std.specs.Prelude.{filter, nat_lt, option_to_list, option_map}
use Rattle.std.proofs.lemmas.List.{map-append}
use Rattle.inp_model.specs.declared.event.Event.{Event}
use Rattle.inp_model.specs.declared.step.Step.{Step}
use Rattle.inp_model.specs.Description.{Description}
use Rattle.inp_model.specs.Step.{moment_of}
use Rattle.inp_model.specs.Filter.{Timed, given_after}
use Rattle.inp_model.specs.RawItem.{RawItem, Occurred, Described, Cut, Frame}
use Rattle.inp_model.specs.Cut.{cut_events, cut_for, cuts}
use Rattle.inp_model.specs.Raw.{raw, raw_of_step}
use Rattle.inp_model.specs.Frame.{cuts_of_step, frame_of}
use Rattle.inp_model.specs.Left.{given_by, given_in, given_before}
use Rattle.std.proofs.lemmas.Bool.{lt-ltb, le-ltb}

-- Cuts end one after another

-- each ends later than the one before, and the first one behind so many items
abbrev pub AreInOrder : ℕ → List Cut → Type 0
AreInOrder n [] = Unit {0}
AreInOrder n (c ∷ cs) = (n < length c.until) × AreInOrder (length c.until) cs

in_order-from : (n m : ℕ) (cs : List Cut) → n ≤ m → AreInOrder m cs → AreInOrder n cs
in_order-from n m [] le h = tt
in_order-from n m (c ∷ cs) le h = (omega (arith, le, h.0), h.1)

in_order-cut : (r : List RawItem) (e : Event) (events : Option (List Event)) (cs : List Cut)
    → AreInOrder (suc (length r)) cs
    → AreInOrder (length r)
    (option_to_list
    (option_map (λ (es : List Event). let c : Cut =
    record { events = es; until = Occurred e ∷ r } in c) events) ++ cs)
in_order-cut r e None cs h = in_order-from (length r) (suc (length r)) cs (omega arith) h
in_order-cut r e (Some es) cs h = (omega arith, h)

in_order-item : (d : Description) (r : List RawItem) (x : RawItem) (cs : List Cut)
    → AreInOrder (suc (length r)) cs → AreInOrder (length r) (cut_for d r x ++ cs)
in_order-item d r (Occurred e) cs h = in_order-cut r e (cut_events d r e) cs h
in_order-item d r (Described code axis) cs h = in_order-from (length r) (suc (length r)) cs (omega arith) h

cuts-in_order : (d : Description) (r xs : List RawItem) → AreInOrder (length r) (cuts d r xs)
unfolding cuts
cuts-in_order d r [] = tt
cuts-in_order d r (x ∷ xs) = in_order-item d r x (cuts d (x ∷ r) xs) (cuts-in_order d (x ∷ r) xs)

-- the last of some ends later than all of them began
in_order-last : (n : ℕ) (first : List Cut) (c : Cut) (rest : List Cut) → AreInOrder n (first ++ c ∷ rest)
    → n < length c.until
in_order-last n [] c rest h = h.0
in_order-last n (b ∷ first) c rest h =
    let later : length b.until < length c.until = in_order-last (length b.until) first c rest h.1 in
    omega (arith, later, h.0)

-- The frames that end before one of them

-- the test of a frame by its cut
abbrev is_before : ℕ → Frame → Bool
is_before n g = nat_lt (length g.cut.until) n

module _ (past : List Step) (x : Step) where
  none_before : (n m : ℕ) (cs : List Cut) → n ≤ m → AreInOrder m cs
      → filter (is_before n) (map (frame_of past x) cs) ≡ []
  none_before n m [] le h = refl
  none_before n m (c ∷ cs) le h =
      let later : n ≤ length c.until = omega (arith, le, h.0) in
      rw (le-ltb (length c.until) n later) (none_before n (length c.until) cs later h.1)

  all_before : (n : ℕ) (first : List Cut) (c : Cut) (rest : List Cut) → AreInOrder n (first ++ c ∷ rest)
      → filter (is_before (length c.until)) (map (frame_of past x) (first ++ c ∷ rest))
      ≡ map (frame_of past x) first
  all_before n [] c rest h =
      rw (le-ltb (length c.until) (length c.until) (omega arith))
      (none_before (length c.until) (length c.until) rest (omega arith) h.1)
  all_before n (b ∷ first) c rest h =
      let earlier : length b.until < length c.until = in_order-last (length b.until) first c rest h.1 in
      rw (lt-ltb (length b.until) (length c.until) earlier, all_before (length b.until) first c rest h.1)

given_by-append : (fs gs : List Frame) (before : List Timed)
    → given_by (fs ++ gs) before ≡ given_by gs (given_by fs before)
given_by-append [] gs before = refl
given_by-append (f ∷ fs) gs before = given_by-append fs gs _

-- Behind what the first filter was given so far: before each of these cuts of a step it was given that,
-- and the frames of those before it.
abbrev pub AreGiven : Description → List Step → Step → List Cut → List Timed → Type 0
AreGiven d past x [] given = Unit {0}
AreGiven d past x (c ∷ cs) given =
    (given_before d (frame_of past x c) ≡ given)
    × AreGiven d past x cs (given_after (moment_of x) given c.events)

module _ (d : Description) (past : List Step) (x : Step) where
  first_given : (first : List Cut) (c : Cut) (rest : List Cut)
      → AreInOrder (length (raw d past)) (first ++ c ∷ rest) → cuts_of_step d past x ≡ first ++ c ∷ rest
      → given_before d (frame_of past x c) ≡ given_by (map (frame_of past x) first) (given_in d past)
  first_given first c rest h e = rw (e, all_before past x (length (raw d past)) first c rest h)

  rest_given : (first rest : List Cut) → AreInOrder (length (raw d past)) (first ++ rest)
      → cuts_of_step d past x ≡ first ++ rest
      → AreGiven d past x rest (given_by (map (frame_of past x) first) (given_in d past))
  rest_given first [] h e = tt
  rest_given first (c ∷ rest) h e =
      let here = frame_of past x c in
      let moved : first ++ c ∷ rest ≡ (first ++ c ∷ []) ++ rest = sym (append_assoc first (c ∷ []) rest) in
      let after : given_by (map (frame_of past x) (first ++ c ∷ [])) (given_in d past)
      ≡ given_after (moment_of x) (given_by (map (frame_of past x) first) (given_in d past)) c.events =
      rw (map-append (frame_of past x) first (c ∷ []))
      (given_by-append (map (frame_of past x) first) (here ∷ []) (given_in d past)) in (
        first_given first c rest h e,
        rw after at
            (rest_given (first ++ c ∷ []) rest
            (subst (AreInOrder (length (raw d past))) moved h) (e ∙ moved)),
      )

  -- so before all of its frames
  pub all_given : AreGiven d past x (cuts_of_step d past x) (given_in d past)
  all_given = rest_given [] (cuts_of_step d past x) (cuts-in_order d (raw d past) (raw_of_step d past x)) refl

-- What a job saw is kept in two lists, one with the calls that have no small entry: one call more leaves the
-- entries before it as they were.
use Rattle.std.proofs.Common.{◌≡◌, ◌<◌, ℕ, suc, refl, ap, arith, Result, Ok, Err, Some}
use Rattle.std.proofs.Common.{List, [], ◌∷◌, ◌++◌, length, map, take, drop, get_or, slice_get}
use Rattle.std.specs.Prelude.{OnOk, OnErr}
use Rattle.std.specs.List.{All}
use Rattle.std.proofs.lemmas.List.{get_or_append_left, get_or_push, map_push, map-append, length-map}
use Rattle.std.proofs.lemmas.List.{take-map, drop-map}
use Rattle.std.proofs.lemmas.Option.{slice_get-map, slice_get-get_or}
use Rattle.std.proofs.lemmas.List.Elements.{All-push, All-append, All-map}
use Rattle.std.proofs.lemmas.Simd.{map-map}
use Rattle.inp_model.specs.declared.taken.Taken.{Taken}
use Rattle.inp_reader.specs.declared.call_made.CallMade.{CallMade}
use Rattle.inp_script.specs.declared.kept_sight.KeptSight.{KeptSight}
use Rattle.inp_script.specs.declared.kept_sight.KeptSight.TheVariants.{Took, Call}
use Rattle.inp_script.specs.declared.sight.Sight.{Sight}
use Rattle.inp_script.specs.KeptSight.{no_call, sight_in, IsWithin}
use Rattle.inp_script.specs.Sight.{taken_sight, made_sight}

-- A part of what is kept

-- what a part of the list stands for is that part of what the list stands for
pub part-of : {X Y : Type 0} (f : X → Y) (kept run : List X) (start : ℕ)
    → run ≡ take (length run) (drop start kept)
    → map f run ≡ take (length (map f run)) (drop start (map f kept))
part-of f kept run start is = rw (length-map, drop-map, take-map, ← is) refl

-- what is kept at an index is what the list has there
pub kept-at : (calls : List CallMade) (kept : List KeptSight) (index : ℕ) (d : KeptSight) (sight : Sight)
    → index < length kept → sight ≡ sight_in calls (get_or kept index d)
    → slice_get (map (sight_in calls) kept) index ≡ Some sight
kept-at calls kept index d sight within is =
    rw (slice_get-map (sight_in calls) kept index, slice_get-get_or kept index d within, is) refl

-- One more is kept, or was refused

-- the new entry is within too, and where it was refused nothing changed
pub within-after : {T E : Type 0} (r : Result T E) (calls : List CallMade) (kept new : List KeptSight)
    (entry : KeptSight)
    → All (IsWithin calls) kept → IsWithin calls entry → OnOk r (new ≡ kept ++ entry ∷ [])
    → OnErr r (new ≡ kept)
    → All (IsWithin calls) new
within-after (Ok x) calls kept new entry h k pushed refused =
    rw pushed (All-push (IsWithin calls) kept entry h k)
within-after (Err e) calls kept new entry h k pushed refused = rw refused h

module _ (calls : List CallMade) where
  -- One call more

  same-entry : (call : CallMade) (kept : KeptSight) → IsWithin calls kept
      → sight_in (calls ++ call ∷ []) kept ≡ sight_in calls kept
  same-entry call (Call index) h = ap made_sight (get_or_append_left calls (call ∷ []) no_call index h)
  same-entry call kept h = refl

  -- the entries before it say the same
  same-entries : (call : CallMade) (kept : List KeptSight) → All (IsWithin calls) kept
      → map (sight_in (calls ++ call ∷ [])) kept ≡ map (sight_in calls) kept
  same-entries call [] h = refl
  same-entries call (first ∷ kept) h =
      let more : List CallMade = calls ++ call ∷ [] in
      let same : sight_in more first ≡ sight_in calls first =
      same-entry call first (h 0 first (omega arith)) in
      let rest : map (sight_in more) kept ≡ map (sight_in calls) kept =
      same-entries call kept (λ k d l. h (suc k) d (omega (arith, l))) in
      rw (same, rest)

  -- and with its index behind them it is the last entry
  call-entry : (call : CallMade) (kept : List KeptSight) → All (IsWithin calls) kept
      → map (sight_in (calls ++ call ∷ [])) (kept ++ Call (length calls) ∷ [])
      ≡ map (sight_in calls) kept ++ made_sight call ∷ []
  call-entry call kept h = rw (map_push, same-entries, get_or_push)

  -- the indices before mean the same calls, and the new index means the new one
  pub pushed-call : (more : List CallMade) (call : CallMade) (kept new : List KeptSight) (index : ℕ)
      → All (IsWithin calls) kept → more ≡ calls ++ call ∷ [] → index ≡ length calls
      → new ≡ kept ++ Call index ∷ []
      → map (sight_in more) new ≡ map (sight_in calls) kept ++ made_sight call ∷ []
  pushed-call more call kept new index h longer last pushed =
      rw (longer, pushed, last) (call-entry call kept h)

  -- or its index was refused
  pub refused-call : (more : List CallMade) (call : CallMade) (kept new : List KeptSight)
      → All (IsWithin calls) kept → more ≡ calls ++ call ∷ [] → new ≡ kept
      → map (sight_in more) new ≡ map (sight_in calls) kept
  refused-call more call kept new h longer refused = rw (longer, refused) (same-entries call kept h)

  -- Events were taken

  -- an event that was taken is kept without an index
  pub within-taken : (kept : List KeptSight) (events : List Taken) → All (IsWithin calls) kept
      → All (IsWithin calls) (kept ++ map (λ t. Took t) events)
  within-taken kept events h =
      All-append (IsWithin calls) kept (map (λ t. Took t) events) h
      (All-map (IsWithin calls) (λ t. Took t) events (λ k d l. tt))

  -- an event that was taken is kept as it is, so it is its own entry
  pub sights-taken : (kept : List KeptSight) (events : List Taken)
      → map (sight_in calls) (kept ++ map (λ t. Took t) events) ≡ map (sight_in calls) kept
      ++ map taken_sight events
  sights-taken kept events = rw (map-append, map-map)

-- Calls one after another: how they are split, where they stand, how each was answered, what they leave, and
-- who else used their client.
use Rattle.std.proofs.Common.{◌≡◌, ◌≤◌, ◌⊎◌, inl, inr, ℕ, true, List, [], ◌∷◌, ◌++◌, refl, sym, ap, subst}
use Rattle.std.proofs.Common.{◌∙◌, arith, ◌<◌, length, length-append, Some, append_assoc, if◌then◌else◌}
use Rattle.std.specs.List.{All, Contains, slice_get}
use Rattle.std.proofs.lemmas.List.Elements.{All-nil, All-cons, All-append, All-weaker, All-contains}
use Rattle.std.proofs.lemmas.List.Elements.{Contains-append_cases}
use Rattle.inp_model.specs.declared.step.Step.{Step}
use Rattle.inp_model.specs.declared.reply.Reply.{Reply}
use Rattle.inp_model.specs.declared.reply.Reply.TheVariants.{Again, Refused}
use Rattle.inp_model.specs.Description.{Description}
use Rattle.inp_model.specs.Evdev.{EvdevView, IsCall, own_after}
use Rattle.inp_model.specs.Past.{past_at}
use Rattle.inp_model.specs.Reply.{IsAnswer, is_accepted}
use Rattle.inp_model.specs.Run.{Call, place_of, next_place, IsLegalFrom, HasPlace}
use Rattle.inp_recon.proofs.Each.{Each}
use Rattle.inp_reader.specs.declared.call_made.CallMade.{CallMade}
use Rattle.inp_reader.specs.LeftEvdev.{accepted_places, LeavesMade}
use Rattle.inp_model.specs.Leaves.{AreCalls, places_of as places_of_calls}
use Rattle.inp_reader.specs.FollowsTalk.{kept_call, calls_kept, FollowsTalk}
use Rattle.inp_reader.specs.Talk.{Talk, finish, ask, and_then, LeadsTo, EndsWith}
use Rattle.std.proofs.lemmas.Option.{slice_get_within}
use Rattle.inp_model.proofs.Leaves.{slice_get-longer, own-grown, calls-leave, AreCalls-append}
use Rattle.inp_reader.specs.ReaderPlace.{IsAlone}
use Rattle.inp_reader.proofs.Talks.{calls_kept-append}

-- Own places

pub accepted_places-append : (made more : List CallMade)
    → accepted_places (made ++ more) ≡ accepted_places made ++ accepted_places more
accepted_places-append [] more = refl
accepted_places-append (call ∷ made) more =
    let one : List ℕ = if is_accepted call.reply then place_of call.reply ∷ [] else [] in
    rw (accepted_places-append made more)
    (sym (append_assoc one (accepted_places made) (accepted_places more)))

place-kept : (x : Step) (reply : Reply) → own_after reply [] ≡ accepted_places (kept_call x reply)
place-kept x (Again at n) = refl
place-kept x (Refused at why) = refl
place-kept x _ = refl

-- a call that is not kept has no place
pub places-kept : (calls : List Call) → places_of_calls calls ≡ accepted_places (calls_kept calls)
places-kept [] = refl
places-kept (call ∷ calls) =
    let one : List CallMade = kept_call call.step call.answer.reply in
    rw (places-kept calls, place-kept call.step call.answer.reply)
    (sym (accepted_places-append one (calls_kept calls)))

-- All that calls leave

pub made-left : (before after : EvdevView) (calls : List Call) (made : List CallMade)
    → made ≡ calls_kept calls → AreCalls before after calls → LeavesMade before after made
made-left before after calls made kept are = record {
  calls = calls;
  kept = kept;
  are_calls = are;
  leaves = calls-leave before after calls are;
  own = rw (own-grown before after calls are, places-kept, ← kept);
}

-- the calls of the last `start` or `next` are kept alone
pub says-anew : {A : Type 0} {before after : EvdevView} {old new : List CallMade} {talk : Talk A} {result : A}
    → old ≡ [] → FollowsTalk before after old new talk result → FollowsTalk before after [] new talk result
says-anew h s = rw h at s

-- the calls of a talk are those kept and those answered Again, so they leave what calls leave
pub says-left : {A : Type 0} {before after : EvdevView} {made : List CallMade} {talk : Talk A} {result : A}
    → FollowsTalk before after [] made talk result → LeavesMade before after made
says-left s = made-left _ _ s.calls _ s.kept s.are_calls

-- The law of two calls

-- no call
pub leaves_made-none : (told : EvdevView) → LeavesMade told told []
unfolding AreCalls
leaves_made-none told = made-left told told [] [] refl refl

-- What one call leaves, and then another one, is what both together leave.
pub leaves_made-then : (before between after : EvdevView) (made more : List CallMade)
    → LeavesMade before between made → LeavesMade between after more → LeavesMade before after (made ++ more)
leaves_made-then before between after made more h k =
    made-left before after (h.calls ++ k.calls) (made ++ more)
    (rw (h.kept, k.kept) (sym (calls_kept-append h.calls k.calls)))
    (AreCalls-append before between after h.calls k.calls h.are_calls k.are_calls)

-- The calls of a talk, and of the one that its result says.

pub record IsSplit {A B : Type 0} (talk : Talk A) (next : A → Talk B) (calls : List Call)
    (result : B) : Type 0 where
  -- the calls of the first talk
  pub first : List Call
  -- those of the talk that its result says
  pub later : List Call
  -- the result of the first talk
  pub between : A
  -- the calls are the first ones and then the later ones
  pub calls_are : calls ≡ first ++ later
  -- the first ones are all of the first talk
  pub first_ends : EndsWith talk first between
  -- the later ones are all of the talk that comes next, up to the result
  pub later_ends : EndsWith (next between) later result

-- the calls up to the end of the first talk are its own, and the others are those of the next
pub split-and_then : {A B : Type 0} (talk : Talk A) (next : A → Talk B) (calls : List Call) (result : B)
    → EndsWith (and_then talk next) calls result → IsSplit talk next calls result
unfolding LeadsTo
split-and_then (finish a) next calls result h =
    record { first = []; later = calls; between = a; calls_are = refl; first_ends = refl; later_ends = h }
split-and_then (ask x rest) next [] result h = absurd cc
split-and_then (ask x rest) next (call ∷ calls) result h =
    let s = split-and_then (rest call.answer) next calls result h.1 in
    record {
      first = call ∷ s.first;
      later = s.later;
      between = s.between;
      calls_are = rw (← s.calls_are);
      first_ends = (h.0, s.first_ends);
      later_ends = s.later_ends;
    }

-- nothing more is asked
pub finished : {A : Type 0} (a result : A) (calls : List Call) → EndsWith (finish a) calls result
    → (calls ≡ []) × (a ≡ result)
unfolding LeadsTo
finished a result [] h = (refl, cc)
finished a result (call ∷ calls) h = absurd h

-- How each was answered: as the one-thread device answers it after some past.

unfoldable pub AreAnswered : Description → List Call → Type 0
AreAnswered d [] = Unit {0}
AreAnswered d (call ∷ calls) =
    (past : List Step) × IsAnswer d past call.step call.answer × AreAnswered d calls

-- a call on an evdev is answered as the device answers it after the past at its place
pub answered : (d : Description) (before after : EvdevView) (calls : List Call) → before.description ≡ d
    → AreCalls before after calls → AreAnswered d calls
unfolding AreCalls AreAnswered
answered d before after [] same h = tt
answered d before after (call ∷ calls) same h =
    let c : IsCall before h.0 call = h.1 in
    let between : EvdevView = h.0 in
    let e : between.description ≡ d = c.description ∙ same in
    let at : List Step = past_at between.seen (place_of call.answer.reply) in
    (at, rw e at c.placed.exact, answered d h.0 after calls e h.2)

-- Their places.

-- an accepted one of these calls has this place
unfoldable pub IsPlaceOf : ℕ → List Call → Type 0
IsPlaceOf place [] = ⊥
IsPlaceOf place (call ∷ calls) =
    ((is_accepted call.answer.reply ≡ true) × (place_of call.answer.reply ≡ place)) ⊎ IsPlaceOf place calls

kept_places : (x : Step) (reply : Reply) (P : ℕ → Type 0) → (is_accepted reply ≡ true → P (place_of reply))
    → All P (accepted_places (kept_call x reply))
kept_places x (Again at n) P h = All-nil P
kept_places x (Refused at why) P h = All-nil P
kept_places x _ P h = All-cons P _ [] (h refl) (All-nil P)

places-known : (calls : List Call) → All (λ place. IsPlaceOf place calls) (accepted_places (calls_kept calls))
unfolding IsPlaceOf
places-known [] = All-nil (λ place. IsPlaceOf place [])
places-known (call ∷ calls) =
    let P : ℕ → Type 0 = λ place. IsPlaceOf place (call ∷ calls) in
    let one : List CallMade = kept_call call.step call.answer.reply in
    let first : All P (accepted_places one) =
    kept_places call.step call.answer.reply P (λ is. inl (is, refl)) in
    let rest : All P (accepted_places (calls_kept calls)) =
    All-weaker (λ place. IsPlaceOf place calls) P (λ place k. inr k) (accepted_places (calls_kept calls))
    (places-known calls) in
    subst (λ (ps : List ℕ). All P ps) (sym (accepted_places-append one (calls_kept calls)))
    (All-append P (accepted_places one) (accepted_places (calls_kept calls)) first rest)

-- kept calls are among the calls, so a place of theirs is that of an accepted call
pub place-known : (calls : List Call) (place : ℕ) → Contains (accepted_places (calls_kept calls)) place
    → IsPlaceOf place calls
place-known calls place h =
    All-contains (λ p. IsPlaceOf p calls) (accepted_places (calls_kept calls)) place (places-known calls) h

-- none is below what was seen before
pub place-least : (d : Description) (history : List Step) (least place : ℕ) (calls : List Call)
    → IsLegalFrom d history least calls → IsPlaceOf place calls → least ≤ place
unfolding IsPlaceOf
place-least d history least place [] legal h = absurd h
place-least d history least place (call ∷ calls) legal (inl same) = omega (arith, legal.0, same.1)
place-least d history least place (call ∷ calls) legal (inr h) =
    let later = place-least d history (next_place call.answer.reply) place calls legal.2 h in
    omega (arith, legal.0, later, place_below_next call.answer.reply)
  where
    place_below_next : (reply : Reply) → place_of reply ≤ next_place reply
    place_below_next (Again at n) = omega arith
    place_below_next (Refused at why) = omega arith
    place_below_next _ = omega arith

-- All of them were accepted.
abbrev pub AreAccepted : List Call → Type 0
AreAccepted calls = Each (λ (call : Call). is_accepted call.answer.reply ≡ true) calls

-- Nobody else used the client in between.

-- the place of an accepted call is one of the history
pub place-within : (d : Description) (history : List Step) (least place : ℕ) (calls : List Call)
    → IsLegalFrom d history least calls → IsPlaceOf place calls → place < length history
unfolding IsPlaceOf
place-within d history least place [] legal h = absurd h
place-within d history least place (call ∷ calls) legal (inl same) =
    let p : HasPlace d history call = legal.1 in
    omega (arith, same.1, slice_get_within history (place_of call.answer.reply) call.step (p.entered same.0))
place-within d history least place (call ∷ calls) legal (inr h) =
    place-within d history (next_place call.answer.reply) place calls legal.2 h

-- the calls that were made stand in what is seen after them, behind what was seen before
record StandsIn (before after : EvdevView) (place : ℕ) : Type 0 where
  least : length before.seen ≤ place
  within : place < length after.seen

-- an accepted one of these calls has this place
abbrev StandsAmong : List CallMade → ℕ → Type 0
StandsAmong made place = Contains (accepted_places made) place

made-between : (before after : EvdevView) (made : List CallMade) (place : ℕ) → LeavesMade before after made
    → StandsAmong made place → StandsIn before after place
made-between before after made place h k =
    let known : IsPlaceOf place h.calls = place-known h.calls place (rw h.kept at k) in
    record {
      least =
          place-least after.description after.seen (length before.seen) place h.calls h.leaves.legal known;
      within =
          place-within after.description after.seen (length before.seen) place h.calls h.leaves.legal known;
    }

-- of two, either the one or the other
either-made : (made more : List CallMade) (place : ℕ) → StandsAmong (made ++ more) place
    → StandsAmong made place ⊎ StandsAmong more place
either-made made more place h =
    Contains-append_cases (accepted_places made) (accepted_places more) place (rw accepted_places-append at h)

-- the places of later calls are further on, so a use up to there is one of the first calls
pub alone-first : (before between after : EvdevView) (client : ℕ) (made more : List CallMade)
    → LeavesMade between after more → IsAlone before after client (made ++ more)
    → IsAlone before between client made
alone-first before between after client made more k alone = record {
  only_own = λ place x from at used.
      let there : slice_get after.seen place ≡ Some x =
      rw k.leaves.seen.1 (slice_get-longer between.seen k.leaves.seen.0 place x at) in
      elim (either-made made more place (alone.only_own place x from there used)) [
        | inl h ↦ h
        | inr h ↦ absurd
            (omega (
              arith,
              slice_get_within between.seen place x at,
              (made-between between after more place k h).least,
            ))
      ];
}

-- the places of the first calls are before, so a use behind them is one of the later calls
pub alone-then : (before between after : EvdevView) (client : ℕ) (made more : List CallMade)
    → LeavesMade before between made → IsAlone before after client (made ++ more)
    → IsAlone between after client more
alone-then before between after client made more h alone = record {
  only_own = λ place x from at used.
      let longer : length before.seen ≤ length between.seen =
      omega (arith, ap length h.leaves.seen.1, length-append before.seen h.leaves.seen.0) in
      elim (either-made made more place (alone.only_own place x (omega (arith, from, longer)) at used)) [
        | inl k ↦ absurd (omega (arith, from, (made-between before between made place h k).within))
        | inr k ↦ k
      ];
}

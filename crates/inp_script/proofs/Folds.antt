-- The view of a tap is the fold of its sight: what the entries make of the first view, one after another.
use Rattle.std.proofs.Common.{◌≡◌, ℕ, List, [], ◌∷◌, ◌++◌, map, refl, sym, ◌∙◌, inl, inr, ℤ}
use Rattle.inp_script.specs.Line.{event_of_taken}
use Rattle.inp_script.proofs.Common.{Taken, Step, Reply, Description, past_at, Answer, answer, IsAnswer, View}
use Rattle.inp_script.proofs.Common.{Sight, Job, call_sight, again_sight, taken_sight, Call, HasPlace}
use Rattle.inp_script.proofs.Common.{place_of, after_tap_call}
use Rattle.inp_model.specs.declared.step.Step.TheVariants.{Open, GetKeys, GetSwitches, GetLeds, GetAxis}
use Rattle.inp_model.specs.declared.step.Step.TheVariants.{SyncSlots}
use Rattle.inp_model.specs.declared.reply.Reply.TheVariants.{Again as NothingVisible}
use Rattle.inp_recon.specs.View.{view_after_answer, view_after_event, view_after_events}
use Rattle.inp_script.specs.Fold.{view_told, view_after_entry, tap_fold}
use Rattle.inp_reader.proofs.Meets.{Runs}

-- an answer Again sets nothing
pub again_sets_nothing : (v : View) (x : Step) (at n : ℕ) (cells : List ℤ)
    → view_after_answer v x (NothingVisible at n) cells ≡ v
unfolding view_after_answer
again_sets_nothing v (GetKeys client) at n cells = refl
again_sets_nothing v (GetSwitches client) at n cells = refl
again_sets_nothing v (GetLeds client) at n cells = refl
again_sets_nothing v (GetAxis client code) at n cells = refl
again_sets_nothing v (SyncSlots client) at n cells = refl
again_sets_nothing v _ at n cells = refl

open_sets_nothing : (v : View) (reply : Reply) (cells : List ℤ) → view_after_answer v Open reply cells ≡ v
unfolding view_after_answer
open_sets_nothing v reply cells = refl

module _ (d : Description) where
  -- what was written is what the one-thread device writes
  pub told-exact : (past : List Step) (v : View) (x : Step) (given : Answer) → IsAnswer d past x given
      → view_after_answer v x given.reply given.cells
      ≡ view_after_answer v x given.reply (answer d past x).cells
  told-exact past v x given (inl h) = rw h
  told-exact past v x given (inr h) =
      rw (h.0) (open_sets_nothing v given.reply given.cells
      ∙ sym (open_sets_nothing v given.reply (answer d past Open).cells))

  module _ (h : List Step) where
    -- the fold goes entry by entry, so the second sight is folded from what the first one gave
    pub tap_fold-append : (v : View) (sight more : List Sight)
        → tap_fold d h v (sight ++ more) ≡ tap_fold d h (tap_fold d h v sight) more
    unfolding tap_fold
    tap_fold-append v [] more = refl
    tap_fold-append v (entry ∷ sight) more = tap_fold-append (view_after_entry d h v entry) sight more

    -- the entry of an event that was read sets the view as the event does
    pub fold-taken : (v : View) (events : List Taken)
        → tap_fold d h v (map taken_sight events) ≡ view_after_events v (map event_of_taken events)
    unfolding tap_fold view_after_events
    fold-taken v [] = refl
    fold-taken v (taken ∷ events) = fold-taken (view_after_event v taken.event) events

    -- a call's entry sets the view as its answer does, and an answer Again sets nothing
    pub entries-fold : (v : View) (x : Step) (given : Answer)
        → IsAnswer d (past_at h (place_of given.reply)) x given
        → tap_fold d h v (call_sight x given.reply ++ again_sight given.reply)
        ≡ view_after_answer v x given.reply given.cells
    unfolding tap_fold
    entries-fold v x given is = by_reply given.reply (told-exact _ v x given is)
      where
        by_reply : (reply : Reply) → view_after_answer v x reply given.cells ≡ view_told d h v x reply
            → tap_fold d h v (call_sight x reply ++ again_sight reply)
            ≡ view_after_answer v x reply given.cells
        by_reply (NothingVisible at n) e = sym (again_sets_nothing v x at n given.cells)
        by_reply reply e = sym e

    -- a call adds its answer and the events that it read, and each sets the view as its entry does
    pub call-folds : (v : View) (j k : Job) (x : Step) (call : Call) → HasPlace d h call → call.step ≡ x
        → after_tap_call j x call.answer ≡ k → tap_fold d h v j.sight ≡ j.reading.view
        → tap_fold d h v k.sight ≡ k.reading.view
    call-folds v j k x call placed step same fold =
        let a : Answer = call.answer in
        let is : IsAnswer d (past_at h (place_of a.reply)) x a = rw step at placed.exact in
        let front : List Sight = call_sight x a.reply ++ again_sight a.reply in
        let events : List Sight = map taken_sight a.events in
        let w : View = view_after_answer j.reading.view x a.reply a.cells in
        simp (
          ← same,
          tap_fold-append v j.sight (front ++ events),
          fold,
          tap_fold-append j.reading.view front events,
          entries-fold j.reading.view x a is,
          fold-taken w a.events,
          same,
        )

    -- each of these calls has its place
    abbrev pub ArePlaced : List Call → Type 0
    ArePlaced [] = Unit {0}
    ArePlaced (call ∷ calls) = HasPlace d h call × ArePlaced calls

    -- a call has its place in this history
    abbrev pub Placed : Unit {0} → Step → Answer → Unit {0} → Type 0
    Placed s x a t = HasPlace d h (record { step = x; answer = a })

    -- calls that all have their places are a run of such calls
    pub placed-run : (calls : List Call) → ArePlaced calls → Runs Placed tt calls tt
    unfolding Runs
    placed-run [] placed = refl
    placed-run (call ∷ calls) placed = (tt, placed.0, placed-run calls placed.1)

    -- in a run of calls that each have their place, all have theirs
    pub run-placed : (s t : Unit {0}) (calls : List Call) → Runs Placed s calls t → ArePlaced calls
    unfolding Runs
    run-placed s t [] run = tt
    run-placed s t (call ∷ calls) run = (run.1, run-placed run.0 t calls run.2)

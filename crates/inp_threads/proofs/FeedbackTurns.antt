-- An owner does its lines by feedback calls under the turn.
use Rattle.std.proofs.Common.{◌≡◌, ℕ, ◌-◌, Bool, true, false, if◌then◌else◌, List, [], ◌∷◌, ◌++◌, length}
use Rattle.std.proofs.Common.{take, reverse, refl, sym, ap, ◌∙◌, arith, inr, Option, Some, None, append_assoc}
use Rattle.std.proofs.Common.{length-append}
use Rattle.std.specs.Prelude.{min}
use Rattle.std.proofs.lemmas.List.{append-nil, length-reverse, reverse-append}
use Rattle.std.proofs.Math.Seq.{take-append_seam}
use Rattle.inp_model.specs.Reply.{written}
use Rattle.inp_script.proofs.Common.{Description, Line, UEntry, steps_in, ActorView, Event, FEEDBACK_MAX}
use Rattle.inp_threads.specs.Owner.{IsFedTurn, HasCallsAt}
use Rattle.inp_script.specs.declared.stop.Stop.{Stop}
use Rattle.inp_threads.proofs.Common.{PassView, rooms_of, HasFedLines}
use Rattle.inp_feedback.specs.declared.u_entry.UEntry.TheVariants.{Feedback}
use Rattle.inp_feedback.specs.declared.fed.Fed.TheVariants.{Took, Full}
use Rattle.inp_feedback.specs.Feeds.{Feeding, taken_count}
use Rattle.inp_feedback.specs.Feedback.{feedback_queue, is_full_of_feedback, taken_by_feedback, fed}
use Rattle.inp_feedback.proofs.Few.{room-enough, room-enough-taken}
use Rattle.inp_uinput.specs.FeedbackTurn.{entries_after_call, IsFeedbackTurn}
use Rattle.inp_script.specs.ActorLine.{FeedCall, AreFeedCalls}
use Rattle.inp_script.specs.Owner.{OwnerState, after_feedback, FeedsUnless}
use Rattle.inp_runs.specs.DoingAll.{AreOwned}
use Rattle.inp_runs.proofs.owners.OwnerLaws.{fed-free, fed-full, kept-free, told-call-so, told-stopped-so}
use Rattle.inp_threads.proofs.CallsAt.{calls-go_on, calls-longer}
use Rattle.inp_feedback.specs.declared.fed.Fed.{Fed}

-- What a call takes and answers

count-of : (full : Bool) (at : ℕ) (es : List Event)
    → taken_count (if full then Full at else Took at (length (if full then [] else es)))
    ≡ length (if full then [] else es)
count-of true at es = refl
count-of false at es = refl

taken-of : (d : Description) (kept : List UEntry) (out new_out : List Event)
    → new_out ≡ written (taken_by_feedback d kept (length out)) out
    → take (taken_count (fed d kept (length out))) new_out ≡ taken_by_feedback d kept (length out)
taken-of d kept out new_out is =
    let count : taken_count (fed d kept (length out)) ≡ length (taken_by_feedback d kept (length out)) =
    count-of (is_full_of_feedback d kept) (length (steps_in kept))
    (take (length out) (feedback_queue d kept)) in
    (λ i. take (count i) (is i)) ∙ take-append_seam (taken_by_feedback d kept (length out)) _

-- One line

module _ (d : Description) (v w : PassView Description UEntry) (room : ℕ) (answer : Fed) (events : List Event)
    (old new : OwnerState) (t : IsFedTurn d v (min room FEEDBACK_MAX) answer events w)
    (noted : new ≡ after_feedback answer events old) where
  abbrev turn : IsFeedbackTurn d v answer t.out t.new_out w
  turn = t.turn

  -- what was kept when the turn was taken, newest first
  abbrev kept : List UEntry
  kept = reverse t.turn.found

  answer-is : answer ≡ fed d kept room
  answer-is = turn.answered ∙ ap (fed d kept) t.has_room ∙ room-enough d kept room

  events-are : events ≡ taken_by_feedback d kept room
  events-are =
      rw (t.taken, turn.answered, taken-of d kept t.out t.new_out turn.out_written, t.has_room)
      (room-enough-taken d kept room)

  told-is : new ≡ after_feedback (fed d kept room) (taken_by_feedback d kept room) old
  told-is = noted ∙ (λ i. after_feedback (answer-is i) (events-are i) old)

  abbrev Before : List ℕ → OwnerState → Type 0
  Before done o = HasCallsAt d (reverse v.seen) v.own done o

  abbrev After : List ℕ → OwnerState → Type 0
  After done o = HasCallsAt d (reverse w.seen) w.own done o

  before-it : (done : List ℕ) (o : OwnerState) → Before done o → HasCallsAt d kept v.own done o
  before-it done o calls =
      let whole : kept ≡ reverse turn.begins.0 ++ reverse v.seen =
      ap reverse (sym turn.begins.1) ∙ reverse-append v.seen turn.begins.0 in
      rw whole (calls-longer d (reverse turn.begins.0) (reverse v.seen) v.own done o calls)

  -- the call was refused
  refused : is_full_of_feedback d kept ≡ true
      → (reverse w.seen ≡ kept) × ((done : List ℕ) (o : OwnerState) → Before done o → After done o)
  refused full =
      let is : answer ≡ Full (length (steps_in kept)) = answer-is ∙ fed-full d kept room full in
      let seen : reverse w.seen ≡ kept =
      ap reverse (turn.seen ∙ ap (λ (a : Fed). entries_after_call a turn.found) is) in
      let own : w.own ≡ v.own = rw (turn.own, is) (append-nil v.own) in
      (seen, λ done o h. rw (seen, own) (before-it done o h))

  -- the call was kept behind what was found
  answered : is_full_of_feedback d kept ≡ false → (done : List ℕ) → Before done old
      → After (room ∷ done) (after_feedback (fed d kept room) (taken_by_feedback d kept room) old)
  unfolding HasCallsAt
  answered full done h =
      let count : ℕ = length (taken_by_feedback d kept room) in
      let is : answer ≡ Took (length (steps_in kept)) count = answer-is ∙ fed-free d kept room full in
      let found : w.seen ≡ turn.found ++ Feedback count ∷ [] =
      turn.seen ∙ ap (λ (a : Fed). entries_after_call a turn.found) is in
      let seen : reverse w.seen ≡ Feedback count ∷ kept =
      ap reverse found ∙ reverse-append turn.found (Feedback count ∷ []) in
      let place : length w.seen - 1 ≡ length kept =
      omega (
        arith,
        ap length found,
        length-append turn.found (Feedback count ∷ []),
        length-reverse turn.found,
      ) in
      let own : w.own ≡ v.own ++ length kept ∷ [] = rw (turn.own, is, place) in
      rw seen
      (inr (
        v.own,
        done,
        old,
        before-it done old h,
        record {
          room = room;
          place = own;
          rooms_are = refl;
          answered = sym (kept-free d kept room full);
          told = refl;
        },
      ))

  one-line : (rooms : List ℕ) → old.stop ≡ None → HasFedLines d rooms v old
      → HasFedLines d (rooms ++ room ∷ []) w new
  one-line rooms goes h =
      let told =
      told-call-so Before After d (reverse v.seen) kept (reverse w.seen) room old refused answered rooms goes
      (record { done = h.done; before = h.before; fed = h.calls; ends = h.ends }) in
      rw told-is (record { done = told.done; before = told.before; calls = told.fed; ends = told.ends })

-- a line of an owner that stopped
stopped-line : (d : Description) (v : PassView Description UEntry) (rooms : List ℕ) (room : ℕ)
    (o : OwnerState)
    (stop : Stop) → o.stop ≡ Some stop → HasFedLines d rooms v o → HasFedLines d (rooms ++ room ∷ []) v o
stopped-line d v rooms room o stop stops h =
    let told =
    told-stopped-so (λ done last. HasCallsAt d (reverse v.seen) v.own done last) d
    (reverse v.seen) rooms room o stop (calls-go_on d (reverse v.seen) v.own) stops
    (record { done = h.done; before = h.before; fed = h.calls; ends = h.ends }) in
    record { done = told.done; before = told.before; calls = told.fed; ends = told.ends }

-- All lines, by whatever makes such turns

module _ {S : Type 0} (feeds : Feeding S) where
  -- what no call changes
  pub calls-keep : {X : Type 0} (f : S → X)
      → ((before after : S) (room : ℕ) (answer : Fed) (events : List Event)
      → feeds before after room answer events → f after ≡ f before)
      → (before after : S) (calls : List FeedCall) → AreFeedCalls feeds before after calls
      → f after ≡ f before
  unfolding AreFeedCalls
  calls-keep f keeps before after [] h = ap f h
  calls-keep f keeps before after (call ∷ calls) (between, first, rest) =
      calls-keep f keeps between after calls rest
      ∙ keeps before between call.room call.answer call.events first

  -- Its job stays.
  pub owner-stays : (lines : List Line) (before after : S) (old new : ActorView)
      → AreOwned feeds before after lines old new → new ≡ record old { owning = new.owning }
  unfolding AreOwned
  owner-stays [] before after old new h = rw (h.1, ← h.1)
  owner-stays (line ∷ lines) before after old new (between, mid, owns, rest) =
      rw (owner-stays lines between after mid new rest, owns.actor)

  module _ (d : S → Description) (view : S → PassView Description UEntry)
      (turns : (before after : S) (room : ℕ) (answer : Fed) (events : List Event)
      → feeds before after room answer events
      → (d after ≡ d before) × IsFedTurn (d before) (view before) room answer events (view after)) where
    line-more : (before after : S) (rooms : List ℕ) (room : ℕ) (old new : OwnerState) (stop : Option Stop)
        → old.stop ≡ stop → FeedsUnless feeds stop before after (min room FEEDBACK_MAX) old new
        → HasFedLines (d before) rooms (view before) old
        → (d after ≡ d before) × HasFedLines (d before) (rooms ++ room ∷ []) (view after) new
    line-more before after rooms room old new None goes h fed =
        let t = turns before after (min room FEEDBACK_MAX) h.answer h.events h.fed in (
          t.0,
          one-line (d before) (view before)
              (view after) room h.answer h.events old new t.1 h.noted rooms goes fed,
        )
    line-more before after rooms room old new (Some stop) stops h fed = (
      ap d h.0,
      rw (h.0, h.1) (stopped-line (d before) (view before) rooms room old stop stops fed),
    )

    -- a line is one turn for a feedback call, or none behind a stop, and follows the lines before it
    pub all-lines : (lines : List Line) (rooms : List ℕ) (before after : S) (old new : ActorView)
        → HasFedLines (d before) rooms (view before) old.owning → AreOwned feeds before after lines old new
        → HasFedLines (d before) (rooms ++ rooms_of lines) (view after) new.owning
    unfolding AreOwned
    all-lines [] rooms before after old new fed h = rw (append-nil rooms, h.0) (rw h.1 fed)
    all-lines (line ∷ lines) rooms before after old new fed (between, mid, o, rest) =
        let more : List ℕ = rooms ++ o.room ∷ [] in
        let one =
        line-more before between rooms o.room old.owning mid.owning old.owning.stop refl o.fed fed in
        let all = all-lines lines more between after mid new (rw one.0 one.1) rest in
        rw (o.is_room, ← append_assoc rooms (o.room ∷ []) (rooms_of lines))
        (rw one.0 at all)

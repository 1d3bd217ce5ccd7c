-- The entries of a device made by requests, oldest first, as a port serves them.
use Rattle.std.proofs.Common.{◌≡◌, ◌+◌, ◌≤◌, Bool, true, false, if◌then◌else◌, List, [], ◌∷◌, ◌++◌, length}
use Rattle.std.proofs.Common.{map, take, reverse, Some, refl, sym, ap, ◌∙◌, subst, ℤ, ℕ, ◌-◌, not, arith}
use Rattle.std.proofs.Common.{append_assoc, append-nil, length-append}
use Rattle.std.proofs.lemmas.List.{reverse-reverse, append-nil, length-reverse}
use Rattle.std.proofs.lemmas.List.Elements.{filter_map-append, filter-append}
use Rattle.inp_model.specs.declared.taken.Taken.{Taken}
use Rattle.inp_model.specs.declared.step.Step.{Step}
use Rattle.inp_model.specs.declared.reply.Reply.{Reply}
use Rattle.inp_model.specs.Description.{Description}
use Rattle.inp_model.specs.History.{IsHistory}
use Rattle.inp_model.specs.Reply.{is_accepted, past_after, IsDeviceStep, written}
use Rattle.inp_model.specs.declared.limits.TheConstants.{LOG_MAX}
use Rattle.inp_model.specs.declared.stamped.Stamped.{Stamped}
use Rattle.inp_model.specs.declared.injected.Injected.{Injected}
use Rattle.inp_model.specs.Injection.{inject_of, entered_count}
use Rattle.std.proofs.lemmas.Simd.{map-map}
use Rattle.inp_port.specs.Entries.{past_of, Grown, GrownBy, steps_among, is_step_at, step_places}
use Rattle.inp_port.specs.Entries.{other_places}
use Rattle.inp_port.specs.Served.{IsServed, IsServedAll}
use Rattle.inp_feedback.specs.declared.u_entry.UEntry.{UEntry}
use Rattle.inp_feedback.specs.declared.u_entry.UEntry.TheVariants.{Made, Feedback}
use Rattle.inp_feedback.specs.UEntry.{step_made, steps_in, kept_after_step, kept_after_events}
use Rattle.inp_feedback.proofs.Lists.{reverse-cons}
use Rattle.inp_uinput.proofs.Udevs.{reverse-kept}
use mathlib.Core.List.{IsPrefix}
use Rattle.inp_model.specs.declared.event.Event.{Event}
use Rattle.inp_turn.specs.declared.pass_view.PassView.{PassView}
use Rattle.inp_turn.specs.PassView.{added_places, OwnsSeen, view_after_take, view_after_give}
use Rattle.inp_turn.proofs.Prefixes.{prefix-refl, prefix-trans}
use Rattle.inp_port.specs.Turn.{told_of}
use Rattle.inp_port.proofs.Places.{slice_get-seam, added-one, added-none, steps-begins, step_places-begins}
use Rattle.inp_port.proofs.Places.{other_places-begins, step_places-append}
use Rattle.inp_feedback.specs.declared.fed.Fed.{Fed}
use Rattle.inp_feedback.specs.declared.fed.Fed.TheVariants.{Took, Full}
use Rattle.inp_feedback.specs.Feedback.{is_full_of_feedback, taken_by_feedback, fed, kept_after_feedback}
use Rattle.inp_uinput.specs.FeedbackTurn.{history_length, entries_after_call, call_places, IsFeedbackTurn}
use Rattle.inp_uinput.specs.FeedbackTurn.{IsToldFeedback}

-- the steps of entries that are turned round are turned round too
pub steps-reverse : (kept : List UEntry) → steps_in (reverse kept) ≡ reverse (steps_in kept)
steps-reverse [] = refl
steps-reverse (Made x ∷ kept) =
    rw (
      reverse-cons kept (Made x),
      filter_map-append step_made (reverse kept) (Made x ∷ []),
      steps-reverse kept,
    ) (sym (reverse-cons (steps_in kept) x))
steps-reverse (Feedback count ∷ kept) =
    ap steps_in (reverse-cons kept (Feedback count))
    ∙ filter_map-append step_made (reverse kept) (Feedback count ∷ [])
    ∙ append-nil (steps_in (reverse kept)) ∙ steps-reverse kept

past-same : (kept : List UEntry) → past_of step_made (reverse kept) ≡ steps_in kept
past-same kept = ap reverse (steps-reverse kept) ∙ reverse-reverse (steps_in kept)

grown : (kept new : List UEntry) (x : Step) (b : Bool) → new ≡ (if b then Made x ∷ kept else kept)
    → Grown step_made (reverse kept) x b (reverse new)
grown kept new x true e = (Made x, refl, ap reverse e ∙ reverse-cons kept (Made x))
grown kept new x false e = ap reverse e

-- an accepted step is the last entry, and feedback calls among the entries change no answer
pub udev_served : (d : Description) (kept new : List UEntry) (x : Step) (reply : Reply)
    (out new_out : List Taken) (cells new_cells : List ℤ)
    → IsDeviceStep d (steps_in kept) x reply out new_out cells new_cells (steps_in new)
    → new ≡ kept_after_step reply x kept → IsHistory d (steps_in kept)
    → IsServed step_made d (reverse kept) x reply out new_out cells new_cells (reverse new)
udev_served d kept new x reply out new_out cells new_cells s e h =
    let P : List Step → Type 0 =
    λ p. IsDeviceStep d p x reply out new_out cells new_cells (past_after reply x p) in
    let same : P (steps_in kept) =
    record {
      given = s.given;
      exact = s.exact;
      replied = s.replied;
      out_written = s.out_written;
      cells_written = s.cells_written;
      entered = refl;
    } in
    record {
      step = subst P (sym (past-same kept)) same;
      grown = grown kept new x (is_accepted reply) e;
      accepted = subst (IsHistory d) (sym (past-same kept)) h;
    }

-- many events

steps-events : (events : List Stamped)
    → map step_made (map (λ stamped. Made (inject_of stamped)) events) ≡ map Some (map inject_of events)
steps-events events = map-map step_made (λ stamped. Made (inject_of stamped)) events
    ∙ sym (map-map (λ x. Some x) inject_of events)

grown_by : (kept new : List UEntry) (events : List Stamped) → new ≡ kept_after_events events kept
    → GrownBy step_made (reverse kept) (map inject_of events) (reverse new)
grown_by kept new events e = (
  map (λ stamped. Made (inject_of stamped)) events,
  ap reverse e
      ∙ reverse-kept events kept,
  steps-events events,
)

-- the events for which there was room are the last entries, each of them a step
pub udev_served_all : (d e : Description) (kept new : List UEntry) (events : List Stamped)
    (injected : Injected) → e ≡ d → injected.from ≡ length (steps_in kept)
    → injected.count ≡ entered_count d injected.from events
    → injected.from + injected.count ≤ LOG_MAX → new ≡ kept_after_events (take injected.count events) kept
    → IsHistory e (steps_in new) → IsServedAll step_made d (reverse kept) events injected (reverse new)
udev_served_all d e kept new events injected same from count within grows h = record {
  from = from ∙ sym (length-reverse (steps_in kept)) ∙ sym (ap length (steps-reverse kept));
  count = count;
  within = within;
  grown = grown_by kept new (take injected.count events) grows;
  accepted = subst (IsHistory d) (sym (past-same new)) (rw same at h);
}

-- A feedback call under the turn: an entry more that is no step

-- One entry more

module _ (found : List UEntry) (count : ℕ) where
  abbrev longer : List UEntry
  longer = found ++ Feedback count ∷ []

  steps-call : steps_among step_made longer ≡ steps_among step_made found
  steps-call =
      filter_map-append step_made found (Feedback count ∷ []) ∙ append-nil (steps_among step_made found)

  is_no_step : is_step_at step_made longer (length found) ≡ false
  is_no_step = rw (slice_get-seam found [] (Feedback count))

  last_place : length longer - 1 ≡ length found
  last_place = omega (arith, length-append found (Feedback count ∷ []))

  step_places-call : step_places step_made longer ((length longer - 1) ∷ []) ≡ []
  step_places-call = rw (last_place, is_no_step)

  other_places-call : other_places step_made longer ((length longer - 1) ∷ []) ≡ (length longer - 1) ∷ []
  other_places-call = rw (last_place, is_no_step, ← last_place)

-- The entries after a call, by its answer

begins-after : (answer : Fed) (found : List UEntry) → IsPrefix found (entries_after_call answer found)
begins-after (Took at count) found = (Feedback count ∷ [], refl)
begins-after (Full at) found = prefix-refl found

steps-after : (answer : Fed) (found : List UEntry)
    → steps_among step_made (entries_after_call answer found) ≡ steps_among step_made found
steps-after (Took at count) found = steps-call found count
steps-after (Full at) found = refl

added-after : (answer : Fed) (found : List UEntry)
    → added_places found (entries_after_call answer found)
    ≡ call_places answer (entries_after_call answer found)
added-after (Took at count) found = rw (added-one found (Feedback count), ← last_place found count)
added-after (Full at) found = added-none found

step_places-after : (answer : Fed) (found : List UEntry)
    → step_places step_made (entries_after_call answer found)
    (call_places answer (entries_after_call answer found)) ≡ []
step_places-after (Took at count) found = step_places-call found count
step_places-after (Full at) found = refl

other_places-after : (answer : Fed) (found : List UEntry)
    → other_places step_made (entries_after_call answer found)
    (call_places answer (entries_after_call answer found))
    ≡ call_places answer (entries_after_call answer found)
other_places-after (Took at count) found = other_places-call found count
other_places-after (Full at) found = refl

-- The turn

entered : (full : Bool) (at count : ℕ) (kept : List UEntry)
    → reverse (if full then kept else Feedback count ∷ kept)
    ≡ entries_after_call (if full then Full at else Took at count) (reverse kept)
entered true at count kept = refl
entered false at count kept = reverse-cons kept (Feedback count)

now-kept : (d : Description) (kept : List UEntry) (room : ℕ)
    → reverse (kept_after_feedback d kept room) ≡ entries_after_call (fed d kept room) (reverse kept)
now-kept d kept room =
    entered (is_full_of_feedback d kept) (length (steps_in kept))
    (length (taken_by_feedback d kept room)) kept

-- what was taken and what was given back
pub feedback-begins : (base : Description) (kept new : List UEntry) (room : ℕ)
    → new ≡ kept_after_feedback base kept room → IsPrefix (reverse kept) (reverse new)
feedback-begins base kept new room grows =
    subst (IsPrefix (reverse kept)) (sym (ap reverse grows ∙ now-kept base kept room))
    (begins-after (fed base kept room) (reverse kept))

turn_at : (d : Description) (v w : PassView Description UEntry) (kept : List UEntry) (answer : Fed)
    (out new_out : List Event) → IsPrefix v.seen (reverse kept) → answer ≡ fed d kept (length out)
    → new_out ≡ written (taken_by_feedback d kept (length out)) out
    → w ≡ view_after_give (view_after_take v (reverse kept)) (entries_after_call answer (reverse kept))
    → IsFeedbackTurn d v answer out new_out w
turn_at d v w kept answer out new_out begins answered out_written view =
    let found : List UEntry = reverse kept in
    let back : kept ≡ reverse found = sym (reverse-reverse kept) in
    let seen : w.seen ≡ entries_after_call answer found = rw view in
    record {
      found = found;
      begins = begins;
      answered = rw (← back, ← answered);
      out_written = rw (← back, ← out_written);
      seen = seen;
      own = rw (view, added-after answer found, ← seen);
      steps = ap (steps_among step_made) seen ∙ steps-after answer found;
      turns = rw view;
      share = rw view;
      base = rw view;
    }

-- the call was answered from what was kept at its turn, and is the last entry if it is kept
pub feedback-turn : (d base : Description) (v w : PassView Description UEntry) (kept new : List UEntry)
    (answer : Fed) (out new_out : List Event) → base ≡ d → IsPrefix v.seen (reverse kept)
    → answer ≡ fed base kept (length out) → new_out ≡ written (taken_by_feedback base kept (length out)) out
    → new ≡ kept_after_feedback base kept (length out)
    → w ≡ view_after_give (view_after_take v (reverse kept)) (reverse new)
    → IsFeedbackTurn d v answer out new_out w
feedback-turn d base v w kept new answer out new_out same begins answered out_written grows view =
    let room : ℕ = length out in
    let is : answer ≡ fed d kept room = rw (answered, same) in
    let now : reverse new ≡ entries_after_call answer (reverse kept) =
    rw (grows, now-kept base kept room, ← answered) in
    turn_at d v w kept answer out new_out begins is (rw (out_written, same))
    (view ∙ ap (view_after_give (view_after_take v (reverse kept))) now)

-- what the pass has seen is still there
pub feedback-seen : (d : Description) (v w : PassView Description UEntry) (answer : Fed)
    (out new_out : List Event) → IsFeedbackTurn d v answer out new_out w → IsPrefix v.seen w.seen
feedback-seen d v w answer out new_out t =
    prefix-trans v.seen t.found w.seen t.begins
    (subst (IsPrefix t.found) (sym t.seen) (begins-after answer t.found))

-- What is told

length-of : (full : Bool) (n count : ℕ) → history_length (if full then Full n else Took n count) ≡ n
length-of true n count = refl
length-of false n count = refl

-- the call is no step: the caller's steps stay, and a call that is kept goes to its tie
pub feedback-told : (d : Description) (name : List ℕ) (v w : PassView Description UEntry) (answer : Fed)
    (out new_out : List Event) → OwnsSeen v → IsFeedbackTurn d v answer out new_out w
    → (agains : ℕ)
    → IsToldFeedback answer w.seen (told_of step_made d name v agains) (told_of step_made d name w agains)
feedback-told d name v w answer out new_out owns t agains =
    let whole : IsPrefix v.seen w.seen = feedback-seen d v w answer out new_out t in
    let begun = steps-begins step_made v.seen w.seen whole in
    let calls : List ℕ = call_places answer w.seen in
    let kept : List UEntry = reverse t.found in
    let place : history_length answer ≡ length (steps_in kept) =
    ap history_length t.answered
    ∙ length-of (is_full_of_feedback d kept) (length (steps_in kept))
    (length (taken_by_feedback d kept (length out))) in
    let no_steps : step_places step_made w.seen calls ≡ [] = rw t.seen (step_places-after answer t.found) in
    let all_calls : other_places step_made w.seen calls ≡ calls =
    rw (t.seen, other_places-after answer t.found, ← t.seen) in
    let others : other_places step_made w.seen w.own ≡ other_places step_made v.seen v.own ++ calls =
    ap (other_places step_made w.seen) t.own
    ∙ filter-append (λ n. not (is_step_at step_made w.seen n)) v.own calls
    ∙ (λ i. other_places-begins step_made v.seen w.seen v.own whole owns i ++ all_calls i) in
    record {
      description = refl;
      seen = (begun.0, sym begun.1);
      at =
          place ∙ ap length (steps-reverse t.found) ∙ length-reverse (steps_in t.found)
          ∙ ap length (sym t.steps);
      own = ap (step_places step_made w.seen) t.own ∙ step_places-append step_made w.seen v.own calls
          ∙ (λ i. step_places-begins step_made v.seen w.seen v.own whole owns i ++ no_steps i)
          ∙ append-nil (step_places step_made v.seen v.own);
      agains = refl;
      turns = omega (arith, t.turns);
      tie = (λ i. Some (t.share i ∷ length name ∷ name ++ others i))
          ∙ ap (λ (l : List ℕ). Some (v.share ∷ length name ∷ l))
          (sym (append_assoc name (other_places step_made v.seen v.own) calls));
    }

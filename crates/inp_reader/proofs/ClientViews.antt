-- The view that a client makes of a history, by what it read and asked for since its start.
use Rattle.std.proofs.Common.{◌≡◌, ◌≤◌, ◌<◌, inl, inr, ℕ, suc, ◌+◌, ◌-◌, nat_eq, nat_lt, true, false, List}
use Rattle.std.proofs.Common.{[], ◌∷◌, ◌++◌, length, map, take, refl, sym, ap, ◌∙◌, arith, append-nil}
use Rattle.std.proofs.Common.{append_assoc, length-append, if◌then◌else◌, ℤ, Some, None}
use Rattle.std.proofs.lemmas.Bool.{true≢false, false_from_ne_true, eqb-true, and_from, and_parts, cases_lt}
use Rattle.std.proofs.lemmas.Bool.{lt-ltb, le-ltb, cond_both, cases_Bool}
use Rattle.std.proofs.lemmas.List.{map-append, take-append-le, length-map, take-map}
use Rattle.std.proofs.lemmas.List.Concat.{flat_map-append}
use Rattle.std.proofs.Math.Seq.{take-append-add}
use Rattle.inp_model.specs.declared.taken.Taken.{Taken}
use Rattle.inp_model.specs.declared.step.Step.{Step}
use Rattle.inp_model.specs.declared.step.Step.TheVariants.{Open, Read, Discard, GetKeys, GetSwitches, GetLeds}
use Rattle.inp_model.specs.declared.step.Step.TheVariants.{GetAxis, SyncSlots}
use Rattle.inp_model.specs.declared.reply.Reply.{Reply}
use Rattle.inp_model.specs.Description.{Description}
use Rattle.inp_model.specs.Queue.{Entry, event_of, taken_by, took, took_with}
use Rattle.inp_model.specs.Reply.{Answer, IsAnswer, answer, accepted, refused, is_accepted, taken_of}
use Rattle.inp_model.specs.Run.{Call}
use Rattle.inp_model.specs.Step.{client_of, is_same}
use Rattle.inp_recon.specs.declared.view.View.{View}
use Rattle.inp_recon.specs.View.{IsSizedFor, first_view, view_after_events, view_after_answer}
use Rattle.inp_recon.specs.ClientView.{ReadEntry, view_after_step, client_view, client_view_with}
use Rattle.inp_recon.specs.ClientView.{read_entries, view_at}
use Rattle.inp_recon.proofs.ReadEntries.{IsOfRead, of-read, entry-before, entry-behind}
use Rattle.inp_model.specs.Left.{eaten}
use Rattle.std.specs.Prelude.{slice_get}
use Rattle.inp_model.specs.History.{IsHistory}
use Rattle.inp_recon.proofs.Folds.{view_after_events-append}
use Rattle.inp_recon.proofs.Sizes.{IsSizedFor-first_view}
use Rattle.inp_recon.proofs.ViewSteps.{client_view-sized}
use Rattle.inp_reader.proofs.QueryAnswers.{answered-as}
use Rattle.inp_reader.specs.Reader.{queries}
use Rattle.inp_recon.specs.Synchronised.{is_start}
use Rattle.inp_reader.specs.ReaderPlace.{is_use, is_use_of, calls_since, steps_of, view_after_answers}
use Rattle.inp_reader.specs.ReaderPlace.{taken_by_calls, taken_events, is_read, AreReads}
use Rattle.inp_reader.proofs.Calls.{AreAnswered, AreAccepted}
use Rattle.inp_recon.proofs.Each.{Each}
use Rattle.inp_reader.proofs.AgainCounts.{IsNoRead, no_read-queries}

-- One call

-- a view after a call: what it took, and then its answer
abbrev pub after_call : View → Call → View
after_call v call =
    view_after_answer (view_after_events v (taken_events call.answer.events)) call.step call.answer.reply
    call.answer.cells

-- a view after calls
unfoldable pub fold_calls : View → List Call → View
fold_calls v [] = v
fold_calls v (call ∷ calls) = fold_calls (after_call v call) calls

fold_calls-push : (v : View) (calls : List Call) (call : Call)
    → fold_calls v (calls ++ call ∷ []) ≡ after_call (fold_calls v calls) call
unfolding fold_calls
fold_calls-push v [] call = refl
fold_calls-push v (c ∷ calls) call = fold_calls-push (after_call v c) calls call

pub map-taken : (es : List Entry) → taken_events (map taken_of es) ≡ map event_of es
map-taken [] = refl
map-taken (e ∷ es) = rw (map-taken es)

-- a view that takes no events stays as it is
pub no-events : (v : View) → view_after_events v [] ≡ v
unfolding view_after_events
no-events v = refl

taken_by_calls-push : (calls : List Call) (call : Call)
    → taken_by_calls (calls ++ call ∷ []) ≡ taken_by_calls calls ++ call.answer.events
taken_by_calls-push calls call = rw (flat_map-append, append-nil)

-- the view when event j of what calls took was taken
unfoldable pub view_upto : View → List Call → ℕ → View
view_upto v [] j = v
view_upto v (call ∷ calls) j =
    if nat_lt j (length call.answer.events)
    then view_after_events v (taken_events (take (suc j) call.answer.events))
    else view_upto (after_call v call) calls (j - length call.answer.events)

upto-before : (v : View) (calls : List Call) (call : Call) (j : ℕ) → j < length (taken_by_calls calls)
    → view_upto v (calls ++ call ∷ []) j ≡ view_upto v calls j
unfolding view_upto
upto-before v [] call j h = absurd (omega (arith, h))
upto-before v (c ∷ calls) call j h =
    let n : ℕ = length c.answer.events in
    elim (cases_lt j n) [
      | inl below ↦ rw (lt-ltb j n below)
      | inr above ↦ rw
          (upto-before (after_call v c) calls call (j - n)
          (omega (arith, h, above, length-append c.answer.events (taken_by_calls calls))))
    ]

upto-last : (v : View) (calls : List Call) (call : Call) (j : ℕ) → length (taken_by_calls calls) ≤ j
    → j < length (taken_by_calls calls) + length call.answer.events
    → view_upto v (calls ++ call ∷ []) j
    ≡ view_after_events (fold_calls v calls)
    (taken_events (take (suc j - length (taken_by_calls calls)) call.answer.events))
unfolding view_upto fold_calls
upto-last v [] call j h k =
    let same : suc j ≡ suc j - 0 = omega arith in
    cc (lt-ltb j (length call.answer.events) (omega (arith, k)), same)
upto-last v (c ∷ calls) call j h k =
    let n : ℕ = length c.answer.events in
    let long = length-append c.answer.events (taken_by_calls calls) in
    let above : n ≤ j = omega (arith, h, long) in
    let same : suc (j - n) - length (taken_by_calls calls) ≡ suc j - length (taken_by_calls (c ∷ calls)) =
    omega (arith, h, long, above) in
    rw (
      le-ltb j n above,
      upto-last (after_call v c) calls call (j - n) (omega (arith, h, long))
          (omega (arith, k, long, above)),
      same,
    )

-- none of these calls took anything
abbrev NoneTakes : List Call → Type 0
NoneTakes calls = Each (λ (call : Call). call.answer.events ≡ []) calls

upto-asked : (v : View) (calls more : List Call) (j : ℕ) → NoneTakes calls
    → view_upto v (calls ++ more) j ≡ view_upto (view_after_answers v calls) more j
unfolding view_upto
upto-asked v [] more j h = refl
upto-asked v (call ∷ calls) more j h =
    let n : ℕ = length call.answer.events in
    let none : n ≡ 0 = rw h.0 in
    let same : view_after_events v (taken_events call.answer.events) ≡ v = rw h.0 (no-events v) in
    let whole : j - n ≡ j = omega (arith, none) in
    rw (le-ltb j n (omega (arith, none)), whole, same)
    (upto-asked (view_after_answer v call.step call.answer.reply call.answer.cells) calls more j h.1)

-- the reply to a read tells no state: its events alone change the view
pub read-view : (x : Step) (v : View) (reply : Reply) (cells : List ℤ) → is_read x ≡ true
    → view_after_answer v x reply cells ≡ v
unfolding view_after_answer
read-view (Read client count) v reply cells h = refl
read-view _ v reply cells h = absurd cc

upto-reads : (v : View) (reads : List Call) (j : ℕ) → AreReads reads → j < length (taken_by_calls reads)
    → view_upto v reads j ≡ view_after_events v (taken_events (take (suc j) (taken_by_calls reads)))
unfolding view_upto
upto-reads v [] j are h = absurd (omega (arith, h))
upto-reads v (call ∷ reads) j are h =
    let E : List Taken = call.answer.events in
    let n : ℕ = length E in
    let R : List Taken = taken_by_calls reads in
    let mid : View = view_after_events v (taken_events E) in
    elim (cases_lt j n) [
      | inl below ↦ rw (lt-ltb j n below, ← take-append-le (suc j) E R (omega (arith, below)))
      | inr above ↦
          (let same : n + suc (j - n) ≡ suc j = omega (arith, above) in
          rw (
            le-ltb j n above,
            read-view call.step mid call.answer.reply call.answer.cells are.0,
            upto-reads mid reads (j - n) are.1 (omega (arith, h, above, length-append E R)),
            ← view_after_events-append v (taken_events E) (taken_events (take (suc (j - n)) R)),
            ← map-append (λ (t : Taken). t.event) E (take (suc (j - n)) R),
            ← take-append-add E R (suc (j - n)),
            same,
          ))
    ]

module _ (d : Description) where
  -- a history's answers are those to accepted steps
  pub accepted-answer : (past : List Step) (x : Step) → refused d past x ≡ None
      → answer d past x ≡ accepted d past x
  accepted-answer past x h = rw h

  -- what a client's own step takes, as its answer tells
  same-read : (past : List Step) (named client count : ℕ) → nat_eq named client ≡ true
      → taken_by d past named (Read named count) ≡ taken_by d past client (Read named count)
  same-read past named client count h = rw (eqb-true named client h)

  pub taken-told : (past : List Step) (client : ℕ) (x : Step) → is_use_of client x ≡ true
      → (accepted d past x).events ≡ map taken_of (taken_by d past client x)
  taken-told past client (Read named count) used = rw (same-read past named client count used)
  taken-told past client _ used = refl

  -- a step that is no use of a client takes nothing and tells nothing
  idle-own : (past : List Step) (client : ℕ) (x : Step) (v : View) → is_use x ≡ false
      → view_after_answer (view_after_events v (map event_of (taken_by d past client x))) x
      (accepted d past x).reply (accepted d past x).cells ≡ v
  unfolding view_after_answer
  idle-own past client (Read named count) v h = absurd cc
  idle-own past client (GetKeys named) v h = absurd cc
  idle-own past client (GetSwitches named) v h = absurd cc
  idle-own past client (GetLeds named) v h = absurd cc
  idle-own past client (GetAxis named code) v h = absurd cc
  idle-own past client (SyncSlots named) v h = absurd cc
  idle-own past client _ v h = no-events v

  -- a step that is no use of the client takes nothing of it and tells it nothing, so its view stays
  pub idle-step : (past : List Step) (client : ℕ) (x : Step) (v : View) → is_use_of client x ≡ false
      → view_after_step (eaten d) d past client x v ≡ v
  idle-step past client x v h =
      cond_both (is_same (client_of x) client) _ _ (λ (w : View). w ≡ v)
      (λ same. idle-own past client x v (false_from_ne_true (is_use x) (λ used.
      true≢false (sym (and_from (is_use x) (is_same (client_of x) client) used same) ∙ h))))
      (λ _. refl)

  -- The view at a client's last start, and what it had taken before

  unfoldable pub view_at_start : List Step → ℕ → View
  view_at_start [] client = first_view d
  view_at_start (x ∷ past) client =
      if is_start past client x then client_view d past client else view_at_start past client

  unfoldable pub taken_at_start : List Step → ℕ → List Entry
  taken_at_start [] client = []
  taken_at_start (x ∷ past) client =
      if is_start past client x then took d past client else taken_at_start past client

  -- what is called with a step that the device answers
  abbrev answered_call : List Step → Step → Call
  answered_call past x = record { step = x; answer = answer d past x }

  -- What a step makes of all that is since a client's start: a start begins anew, and a use is one call more.
  since-step : (past : List Step) (client : ℕ) (x : Step) (P : View → List Entry → List Call → Type 0)
      → (is_start past client x ≡ true → P (client_view d past client) (took d past client) [])
      → (is_use_of client x ≡ true
      → P (view_at_start past client) (taken_at_start past client)
      (calls_since d past client ++ answered_call past x ∷ []))
      → (is_use_of client x ≡ false
      → P (view_at_start past client) (taken_at_start past client) (calls_since d past client))
      → P (view_at_start (x ∷ past) client) (taken_at_start (x ∷ past) client)
      (calls_since d (x ∷ past) client)
  unfolding calls_since view_at_start taken_at_start
  since-step past client x P starts used idle = elim (cases_Bool (is_start past client x)) [
    | inl s ↦ rw s (starts s)
    | inr s ↦ elim (cases_Bool (is_use_of client x)) [
      | inl u ↦ rw (s, u) (used u)
      | inr u ↦ rw (s, u) (idle u)
    ]
  ]

  -- a start changes nothing of the view, and takes nothing
  start-idle : (past : List Step) (client : ℕ) (x : Step) (v : View) → is_start past client x ≡ true
      → (view_after_step (eaten d) d past client x v ≡ v) × (taken_by d past client x ≡ [])
  unfolding view_after_answer
  start-idle past client Open v h = (refl, refl)
  start-idle past client (Discard named) v h =
      (cond_both (nat_eq named client) _ _ (λ x. x ≡ v) (λ _. no-events v) (λ _. refl), refl)
  start-idle past client _ v h = absurd cc

  -- an accepted use sets the view by the events that its answer brings, and then by its reply
  pub used-view : (past : List Step) (client : ℕ) (x : Step) (v : View) → refused d past x ≡ None
      → is_use_of client x ≡ true
      → view_after_step (eaten d) d past client x v
      ≡ view_after_answer (view_after_events v (taken_events (answer d past x).events)) x
      (answer d past x).reply (answer d past x).cells
  used-view past client x v accepts used =
      let told : answer d past x ≡ accepted d past x = accepted-answer past x accepts in
      let events : map event_of (taken_by d past client x) ≡ taken_events (answer d past x).events =
      rw (told, taken-told past client x used, map-taken) in
      let both = and_parts (is_use x) (is_same (client_of x) client) used in
      cc (both.1, events, told)

  -- the view is the one at the start, and what the calls since then make of it
  pub client_view-since : (past : List Step) (client : ℕ) → IsHistory d past
      → client_view d past client ≡ fold_calls (view_at_start past client) (calls_since d past client)
  unfolding client_view_with calls_since view_at_start fold_calls
  client_view-since [] client h = refl
  client_view-since (x ∷ past) client h =
      let rest = client_view-since past client h.0 in
      since-step past client x
      (λ v taken calls. view_after_step (eaten d) d past client x (client_view d past client)
      ≡ fold_calls v calls)
      (λ s. (start-idle past client x (client_view d past client) s).0)
      (λ u.
      rw (
        fold_calls-push (view_at_start past client) (calls_since d past client) (answered_call past x),
        ← rest,
      ) (used-view past client x (client_view d past client) h.1 u))
      (λ u. idle-step past client x (client_view d past client) u ∙ rest)

  -- a read by the client itself takes its events, and no other step does
  pub idle-taken : (past : List Step) (client : ℕ) (x : Step) → is_use_of client x ≡ false
      → taken_by d past client x ≡ []
  idle-taken past client (Read named count) h = rw h
  idle-taken past client _ h = refl

  -- what an accepted use takes is what its answer brings
  pub used-taken : (past : List Step) (client : ℕ) (x : Step) → refused d past x ≡ None
      → is_use_of client x ≡ true → map taken_of (taken_by d past client x) ≡ (answer d past x).events
  used-taken past client x accepts used = rw (accepted-answer, taken-told past client x used)

  -- all that it took is what it had taken at its start, and what the calls since then took
  pub took-since : (past : List Step) (client : ℕ) → IsHistory d past
      → map taken_of (took d past client) ≡ map taken_of (taken_at_start past client)
      ++ taken_by_calls (calls_since d past client)
  unfolding took_with calls_since taken_at_start
  took-since [] client h = refl
  took-since (x ∷ past) client h =
      let T : List Entry = took d past client in
      let E : List Entry = taken_by d past client x in
      let B : List Taken = map taken_of (taken_at_start past client) in
      let C : List Call = calls_since d past client in
      since-step past client x
      (λ v taken calls. map taken_of (T ++ E) ≡ map taken_of taken ++ taken_by_calls calls)
      (λ s. rw ((start-idle past client x (first_view d) s).1, append-nil T)
      (sym (append-nil (map taken_of T))))
      (λ u. rw (
        map-append taken_of T E,
        took-since past client h.0,
        used-taken past client x h.1 u,
        taken_by_calls-push C (answered_call past x),
      )
      (append_assoc B (taken_by_calls C) (answer d past x).events))
      (λ u. rw (idle-taken past client x u, append-nil T) (took-since past client h.0))

  -- as many as it had taken at its start, and those that the calls since then took
  pub length-took : (past : List Step) (client : ℕ) → IsHistory d past
      → length (took d past client) ≡ length (taken_at_start past client) + length
      (taken_by_calls (calls_since d past client))
  length-took past client h =
      rw (← length-map (took d past client) taken_of, took-since, length-append, length-map)

  -- The view at an event

  -- the view at an event of the last step
  pub at-last : (past : List Step) (client i : ℕ) (x : Step) (at : ReadEntry)
      → length (took d past client) ≤ i → slice_get (read_entries d (x ∷ past) client) i ≡ Some at
      → view_at d client at ≡ view_after_events (client_view d past client)
      (map event_of (take (suc i - length (took d past client)) (taken_by d past client x)))
  at-last past client i x at h is =
      let k : ℕ = i - length (took d past client) in
      let E : List Entry = taken_by d past client x in
      let n : suc k ≡ suc i - length (took d past client) = omega (arith, h) in
      let o : IsOfRead past [] E k at =
      of-read past [] E k at (sym (entry-behind (eaten d) d past client i x h) ∙ is) in
      rw (o.is_before, o.is_taken, n)

  -- the first events that a use takes are the first ones that its answer brings
  pub taken-events : (past : List Step) (client n : ℕ) (x : Step) → refused d past x ≡ None
      → is_use_of client x ≡ true
      → map event_of (take n (taken_by d past client x)) ≡ taken_events (take n (answer d past x).events)
  taken-events past client n x accepts used = rw (← map-taken, ← take-map, used-taken)

  -- the view at event j of what the client took since its start
  pub view_at-since : (past : List Step) (client j : ℕ) (at : ReadEntry) → IsHistory d past
      → j < length (taken_by_calls (calls_since d past client))
      → slice_get (read_entries d past client) (length (taken_at_start past client) + j) ≡ Some at
      → view_at d client at ≡ view_upto (view_at_start past client) (calls_since d past client) j
  unfolding calls_since view_at_start taken_at_start
  view_at-since [] client j at h k is = absurd (omega (arith, k))
  view_at-since (x ∷ past) client j at h k is =
      let call : Call = answered_call past x in
      let i : ℕ = length (taken_at_start past client) + j in
      let C : List Call = calls_since d past client in
      let v : View = view_at_start past client in
      let long = length-took past client h.0 in
      since-step past client x
      (λ w taken calls. j < length (taken_by_calls calls)
      → slice_get (read_entries d (x ∷ past) client) (length taken + j) ≡ Some at
      → view_at d client at ≡ view_upto w calls j)
      (λ s below found. absurd (omega (arith, below)))
      (λ u below found. elim (cases_lt j (length (taken_by_calls C))) [
        | inl before ↦ view_at-since past client j at h.0 before
            (sym (entry-before (eaten d) d past client i x (omega (arith, long, before))) ∙ found)
            ∙ sym (upto-before v C call j before)
        | inr behind ↦
            (let same : suc i - length (took d past client) ≡ suc j - length (taken_by_calls C) =
            omega (arith, long, behind) in
            let within : j < length (taken_by_calls C) + length call.answer.events =
            omega (
              arith,
              below,
              ap length (taken_by_calls-push C call),
              length-append (taken_by_calls C) call.answer.events,
            ) in
            rw (
              at-last past client i x at (omega (arith, long, behind)) found,
              taken-events past client (suc i - length (took d past client)) x h.1 u,
              client_view-since past client h.0,
              same,
            ) (sym (upto-last v C call j behind within)))
      ])
      (λ u below found. view_at-since past client j at h.0 below
      (sym (entry-before (eaten d) d past client i x (omega (arith, long, below))) ∙ found))
      k is

  -- Queries, and then reads

  accepted-takes : (past : List Step) (x : Step) → is_read x ≡ false → (accepted d past x).events ≡ []
  accepted-takes past (Read client count) h = absurd cc
  accepted-takes past _ h = refl

  query-takes : (past : List Step) (x : Step) (given : Answer) → is_read x ≡ false → IsAnswer d past x given
      → given.events ≡ []
  query-takes past x given h are =
      answered-as d past x given (λ a. a.events ≡ []) are (accepted-takes past x h) (λ reply off. refl)

  -- a query takes nothing
  pub no_read-takes : (past : List Step) (x : Step) → is_read x ≡ false → (answer d past x).events ≡ []
  no_read-takes past x h = query-takes past x (answer d past x) h (inl refl)

  none-takes : (asked : List Call) → AreAnswered d asked → Each IsNoRead (steps_of asked) → NoneTakes asked
  unfolding AreAnswered
  none-takes [] are no_reads = tt
  none-takes (call ∷ asked) are no_reads =
      (query-takes are.0 call.step call.answer no_reads.0 are.1, none-takes asked are.2 no_reads.1)

  -- each call since the start was accepted, and answered as the one-thread device answers it
  pub accepted-accepts : (past : List Step) (x : Step) → is_accepted (accepted d past x).reply ≡ true
  accepted-accepts past Open = refl
  accepted-accepts past _ = refl

  -- all were answered, and accepted
  abbrev pub AreGood : List Call → Type 0
  AreGood calls = AreAnswered d calls × AreAccepted calls

  good-push : (calls : List Call) (call : Call) (past : List Step) → IsAnswer d past call.step call.answer
      → is_accepted call.answer.reply ≡ true → AreGood calls → AreGood (calls ++ call ∷ [])
  unfolding AreAnswered
  good-push [] call past are is h = ((past, are, tt), (is, tt))
  good-push (c ∷ calls) call past are is h =
      let rest = good-push calls call past are is (h.0.2, h.1.1) in
      ((h.0.0, h.0.1, rest.0), (h.1.0, rest.1))

  -- a history has accepted steps alone, each answered after the past before it
  pub since-good : (past : List Step) (client : ℕ) → IsHistory d past → AreGood (calls_since d past client)
  unfolding calls_since AreAnswered
  since-good [] client h = (tt, tt)
  since-good (x ∷ past) client h =
      since-step past client x (λ v taken calls. AreGood calls)
      (λ s. (tt, tt))
      (λ u. good-push (calls_since d past client) (answered_call past x) past (inl refl)
      (rw (accepted-answer past x h.1) (accepted-accepts past x)) (since-good past client h.0))
      (λ u. since-good past client h.0)

  -- what holds of each of the calls holds of each of the first ones
  pub good-first : (calls more : List Call) → AreGood (calls ++ more) → AreGood calls
  unfolding AreAnswered
  good-first [] more h = (tt, tt)
  good-first (c ∷ calls) more h =
      let rest = good-first calls more (h.0.2, h.1.1) in
      ((h.0.0, h.0.1, rest.0), (h.1.0, rest.1))

  -- the view at a start is the client's view there, or a new one, and both are sized
  pub sized-at-start : (past : List Step) (client : ℕ) → IsSizedFor d.slots (view_at_start past client)
  unfolding view_at_start
  sized-at-start [] client = IsSizedFor-first_view d
  sized-at-start (x ∷ past) client =
      since-step past client x (λ v taken calls. IsSizedFor d.slots v)
      (λ s. client_view-sized d past client) (λ u. sized-at-start past client)
      (λ u. sized-at-start past client)

-- A client whose queries, all of a start, came first, and then its reads.
module _ (d : Description) (past : List Step) (client : ℕ) (asked reads : List Call) (h : IsHistory d past)
    (since : calls_since d past client ≡ asked ++ reads) (steps : steps_of asked ≡ queries d client) where
  -- the queries took nothing
  none-asked : NoneTakes asked
  none-asked =
      none-takes d asked (good-first d asked reads (rw since at (since-good d past client h))).0
      (rw steps (no_read-queries d client))

  -- what the client took since its start
  pub taken-behind : taken_by_calls (calls_since d past client) ≡ taken_by_calls reads
  taken-behind = rw (since, flat_map-append, none-taken asked none-asked)
    where
      none-taken : (calls : List Call) → NoneTakes calls → taken_by_calls calls ≡ []
      none-taken [] k = refl
      none-taken (call ∷ calls) k = rw k.0 (none-taken calls k.1)

  -- the view at event j of what it read
  pub view_at-behind : (j : ℕ) (at : ReadEntry) → AreReads reads → j < length (taken_by_calls reads)
      → slice_get (read_entries d past client) (length (taken_at_start d past client) + j) ≡ Some at
      → view_at d client at ≡ view_after_events (view_after_answers (view_at_start d past client) asked)
      (taken_events (take (suc j) (taken_by_calls reads)))
  view_at-behind j at are below is =
      rw (
        view_at-since d past client j at h (rw taken-behind below) is,
        since,
        upto-asked (view_at_start d past client) asked reads j none-asked,
      )
      (upto-reads (view_after_answers (view_at_start d past client) asked) reads j are below)

-- Where a reader stands, by the calls that it made, and after a start of which a call was refused.
use Rattle.std.proofs.Common.{◌≡◌, inl, inr, ℕ, true, List, [], ◌∷◌, reverse, refl, sym, ◌∙◌, false, ◌++◌, ap}
use Rattle.std.proofs.Common.{Option, None, if◌then◌else◌, length, drop, arith}
use Rattle.std.specs.Prelude.{Result, Ok, Err, IfSome}
use Rattle.inp_model.specs.declared.step.Step.{Step}
use Rattle.inp_model.specs.declared.reply.Reply.{Reply}
use Rattle.inp_model.specs.Description.{Description, IsDescription}
use Rattle.inp_model.specs.Evdev.{EvdevView, IsCall}
use Rattle.inp_model.specs.History.{IsHistory}
use Rattle.inp_model.specs.Leaves.{AreCalls}
use Rattle.inp_model.proofs.Leaves.{description-kept, history-kept}
use Rattle.inp_model.specs.Run.{Call}
use Rattle.inp_recon.specs.declared.view.View.{View}
use Rattle.inp_reader.specs.declared.call_made.CallMade.{CallMade}
use Rattle.inp_reader.specs.declared.mode.Mode.{Mode}
use Rattle.inp_reader.specs.declared.next.Next.{Next}
use Rattle.inp_reader.specs.declared.next.Next.TheVariants.{Success}
use Rattle.inp_reader.specs.declared.started.Started.{Started}
use Rattle.inp_reader.specs.Reader.{ReaderState, start_talk, next_talk, sync_talk, ask_each, queries}
use Rattle.inp_reader.specs.Reader.{start_stop_of, after_open, after_queries, first_run, has_loss}
use Rattle.inp_reader.specs.Reader.{is_plain_phase, queued_run, after_run}
use Rattle.inp_reader.specs.FollowsTalk.{FollowsTalk, kept_call, calls_kept}
use Rattle.inp_reader.specs.Spare.{IsSpare, HasSpare}
use Rattle.inp_reader.specs.TrueView.{ShowsTheDevice, AnswerShows}
use Rattle.inp_model.specs.declared.taken.Taken.{Taken}
use Rattle.inp_reader.specs.declared.phase.Phase.{Phase}
use Rattle.inp_reader.specs.declared.phase.Phase.TheVariants.{Plain, Needed, Handing}
use Rattle.inp_reader.proofs.Runs.{keeps-run, queue-run}
use Rattle.std.proofs.lemmas.List.{length_push}
use Rattle.inp_reader.specs.ReaderPlace.{StandsAt, IsAlone, has_opened, is_needed}
use Rattle.inp_reader.specs.Talk.{LeadsTo, EndsWith, Talk, finish}
use Rattle.inp_recon.proofs.FaithfulHistories.{faithful_by_reads}
use Rattle.inp_recon.proofs.FaithfulReads.{reads-faithful}
use Rattle.inp_reader.proofs.ShowsDevice.{shows-device}
use Rattle.inp_reader.proofs.Meets.{Any, AnyAnswer, any-run, meets-always}
use Rattle.inp_reader.proofs.NextWalk.{Renewed, NextRules, next-ends}
use Rattle.inp_reader.proofs.TalksKeepSpare.{says-keeps_next}
use Rattle.inp_reader.proofs.AgreedViews.{spare-made_anew}
use Rattle.inp_reader.proofs.PastsAtCalls.{says-met}
use Rattle.inp_reader.proofs.StandsAfterTalks.{HandsOut, handed-run, IsOpenInStep, Leaves, StoodOrOpened}
use Rattle.inp_reader.proofs.StandsAfterTalks.{stands-after-next, stands-after-start}
use Rattle.std.proofs.lemmas.Bool.{true≢false}
use Rattle.inp_model.specs.declared.reply.Reply.TheVariants.{Opened, Again}
use Rattle.inp_reader.specs.FailedStart.{opened_by, client_opened, after_refused_query}
use Rattle.inp_reader.proofs.Calls.{split-and_then, finished}

-- What is seen is a history of accepted steps

-- after calls, where it was before
history-still : (d : Description) (before after : EvdevView) (calls : List Call) → before.description ≡ d
    → AreCalls before after calls → IsHistory d (reverse before.seen) → IsHistory d (reverse after.seen)
history-still d before after calls same are h =
    rw (description-kept before after calls are, same) at
    (history-kept before after calls are (rw same h))

-- after any start, which makes a call
history-started : (d : Description) (before after : EvdevView) (r : ReaderState) (calls : List Call)
    (result : Started × ReaderState) → before.description ≡ d → AreCalls before after calls
    → EndsWith (start_talk d r) calls result → IsHistory d (reverse after.seen)
unfolding start_talk LeadsTo AreCalls
history-started d before after r [] result same are h = absurd cc
history-started d before after r (call ∷ calls) result same are h =
    let c : IsCall before are.0 call = are.1 in
    history-still d are.0 after calls (c.description ∙ same) are.2 (rw (c.description, same) at c.history)

stands-with : (d : Description) (past : List Step) (r : ReaderState) → IsHistory d past
    → IsOpenInStep d past r → StandsAt d past r
stands-with d past r h s = record { history = h; opened = s.opened; in_step = s.in_step }

open-in-step : (d : Description) (past : List Step) (r : ReaderState) → StandsAt d past r
    → IsOpenInStep d past r
open-in-step d past r s = record { opened = s.opened; in_step = s.in_step }

-- `start`

module _ (d : Description) {before after : EvdevView} {made : List CallMade}
    (r : ReaderState) {s : ReaderState} {started : Started} (same : before.description ≡ d)
    (spare : HasSpare d r) (h : FollowsTalk before after [] made (start_talk d r) (started, s)) where
  start-leaves : StoodOrOpened d (reverse before.seen) r started → IsAlone before after s.client made
      → StandsAt d (reverse after.seen) s
  start-leaves stood alone =
      stands-with d (reverse after.seen) s
      (history-started d before after r h.calls (started, s) same h.are_calls h.talk_ends)
      (stands-after-start d (reverse before.seen) (reverse after.seen) r h.calls (started, s)
      (λ client. spare-made_anew d client r.view spare.view)
      (says-met d s.client before after made h.calls same h.are_calls h.kept alone.only_own)
      stood h.talk_ends)

  -- a start that opened a client
  pub start-opens : has_opened started ≡ true → IsAlone before after s.client made
      → StandsAt d (reverse after.seen) s
  unfolding StoodOrOpened
  start-opens opened alone = start-leaves (inr opened) alone

  -- any start of a reader that stood
  pub start-stands : StandsAt d (reverse before.seen) r → IsAlone before after s.client made
      → StandsAt d (reverse after.seen) s
  unfolding StoodOrOpened
  start-stands stood alone = start-leaves (inl (open-in-step d (reverse before.seen) r stood)) alone

-- `next` keeps the client

-- a reader of this client, and an end that leaves it such
abbrev IsOfClient : ℕ → Unit {0} → ReaderState → Type 0
IsOfClient client s r = r.client ≡ client

abbrev EndsOfClient : ℕ → Unit {0} → Next × ReaderState → Type 0
EndsOfClient client s o = o.1.client ≡ client

client-rules : (d : Description) (mode : Mode) (client : ℕ)
    → NextRules Any AnyAnswer (IsOfClient client) (EndsOfClient client) d mode
client-rules d mode client = record {
  asks_read = λ s r h. tt;
  reads = λ s t r a h plain none any is. h;
  stops = λ s t r a h plain none any is. h;
  hands = λ s r taken rest h plain q is. h;
  loses = λ s r taken rest h plain q is. h;
  empty = λ s r h plain q. h;
  idles = λ s r h plain is. h;
  syncs = λ s r h needed. meets-always AnyAnswer (Renewed (IsOfClient client) (EndsOfClient client) r) s
      (sync_talk d r) (renewed r h);
  makes = λ s r event left h handing sync is. h;
  made_all = λ s r h handing sync is. h;
  goes_on = λ s r h handing is. h;
}
  where
    renewed : (r : ReaderState) → r.client ≡ client → (t : Unit {0}) (asked : Result View Reply)
        → Renewed (IsOfClient client) (EndsOfClient client) r t asked
    renewed r h t (Ok view) = h
    renewed r h t (Err reply) = h

-- on no way through `next` does the reader change its client
pub client-next : (d : Description) (mode : Mode) (r : ReaderState) (calls : List Call)
    (result : Next × ReaderState) → EndsWith (next_talk d mode r) calls result → result.1.client ≡ r.client
client-next d mode r calls result ends =
    next-ends Any AnyAnswer (IsOfClient r.client) (EndsOfClient r.client) d mode
    (client-rules d mode r.client) tt tt r calls result refl (any-run calls) ends

-- what an event that was handed out shows
answer-shows : (d : Description) (told : EvdevView) (s : ReaderState) (made : List CallMade) (next : Next)
    → IsDescription d → IsHistory d (reverse told.seen) → IsSpare d s.view
    → HandsOut d (reverse told.seen) next s
    → AnswerShows told (record { description = d; reading = s; made = made }) next
answer-shows d told s made (Success taken) is history spare h =
    shows-device (faithful_by_reads reads-faithful) d (reverse told.seen) s taken is history spare h
answer-shows d told s made _ is history spare h = tt

module _ (d : Description) {before after : EvdevView} {made : List CallMade} (mode : Mode)
    (r : ReaderState) {s : ReaderState} {next : Next} (same : before.description ≡ d) (spare : HasSpare d r)
    (h : FollowsTalk before after [] made (next_talk d mode r) (next, s))
    (stood : StandsAt d (reverse before.seen) r) (alone : IsAlone before after s.client made) where
  -- any `next` of a reader that stood
  pub next-leaves : Leaves d (reverse after.seen) (next, s)
  next-leaves =
      let client : s.client ≡ r.client = client-next d mode r h.calls (next, s) h.talk_ends in
      let met = says-met d s.client before after made h.calls same h.are_calls h.kept alone.only_own in
      stands-after-next d mode (reverse before.seen) (reverse after.seen) r h.calls (next, s)
      (open-in-step d (reverse before.seen) r stood) (spare-made_anew d r.client r.view spare.view)
      (rw client at met) h.talk_ends

  -- the reader stood, and what its client did in between is what `next` called
  pub next-stands : StandsAt d (reverse after.seen) s
  next-stands =
      stands-with d (reverse after.seen) s
      (history-still d before after h.calls same h.are_calls stood.history)
      next-leaves.stands

  -- the reader is in step, so its view agrees with its client's view at the event handed out
  pub next-shows : IsDescription d
      → AnswerShows after (record { description = d; reading = s; made = made }) next
  next-shows is =
      answer-shows d after s made next is
      (history-still d before after h.calls same h.are_calls stood.history)
      (says-keeps_next d mode r same spare h).view next-leaves.hands_out

-- Several events that are handed out in one go: the last one shows what it does where `next` answers it.
pub run-shows : (d : Description) (past : List Step) (most : ℕ) (r : ReaderState) (front : List Taken)
    (last : Taken) → IsDescription d → HasSpare d r → StandsAt d past r
    → queued_run most r ≡ front ++ last ∷ []
    → ShowsTheDevice d past (after_run r (queued_run most r)) last
run-shows d past most r front last described spare stood is =
    let run : List Taken = queued_run most r in
    shows-device (faithful_by_reads reads-faithful) d past (after_run r run) last described stood.history
    (keeps-run d most r spare).view
    (handed-run (stood.in_step (at_hand r.phase is)) front last run (drop (length run) r.queue)
    (if has_loss run then Needed else r.phase) is (sym (queue-run most r)))
  where
    at_hand : (p : Phase) → (if is_plain_phase p then first_run most r.queue else []) ≡ front ++ last ∷ []
        → is_needed p ≡ false
    at_hand Plain h = refl
    at_hand Handing h = refl
    at_hand Needed h = absurd (omega (arith, ap length h, length_push front last))

-- A start of which a call was refused

-- The open

-- a first call that opened a client is kept
none-first : (x : Step) (reply : Reply) (rest : List CallMade)
    → client_opened (kept_call x reply ++ rest) ≡ None → opened_by reply ≡ None
none-first x (Opened at client ring) rest h = absurd cc
none-first x reply rest h = refl

same-after_open : (d : Description) (r : ReaderState) (reply : Reply) (calls : List Call)
    (result : Started × ReaderState) → opened_by reply ≡ None
    → EndsWith (after_open d r reply) calls result → result.1 ≡ r
same-after_open d r (Opened at client ring) calls result none h = absurd cc
same-after_open d r reply calls result none h = rw (← (finished (start_stop_of reply, r) result calls h).1)

same-start : (d : Description) (r : ReaderState) (calls : List Call) (result : Started × ReaderState)
    → client_opened (calls_kept calls) ≡ None → EndsWith (start_talk d r) calls result → result.1 ≡ r
unfolding start_talk LeadsTo
same-start d r [] result none h = absurd cc
same-start d r (call ∷ calls) result none h =
    same-after_open d r call.answer.reply calls result
    (none-first call.step call.answer.reply (calls_kept calls) none) h.1

-- where no client was opened all that the reader keeps is as before
pub says-open_refused : (d : Description) {before after : EvdevView} {made : List CallMade}
    (r : ReaderState) {result : Started × ReaderState}
    → FollowsTalk before after [] made (start_talk d r) result → client_opened made ≡ None → result.1 ≡ r
says-open_refused d r s none = same-start d r s.calls _ (ap client_opened (sym s.kept) ∙ none) s.talk_ends

-- The queries

-- the reader has this client, and is to synchronise
abbrev IsBegun : ReaderState → ReaderState → Option ℕ → Type 0
IsBegun r s opened = IfSome opened (λ client. s ≡ after_refused_query client r)

begun-queries : (client ring : ℕ) (r : ReaderState) (asked : Result View Reply)
    (result : Started × ReaderState)
    → after_queries client ring r asked ≡ result → has_opened result.0 ≡ false
    → result.1 ≡ after_refused_query client r
begun-queries client ring r (Ok view) result same not = absurd (true≢false (rw (← same) at not))
begun-queries client ring r (Err reply) result same not = rw (← same)

begun-after_open : (d : Description) (r : ReaderState) (x : Step) (reply : Reply) (calls : List Call)
    (result : Started × ReaderState) → has_opened result.0 ≡ false
    → EndsWith (after_open d r reply) calls result
    → IsBegun r result.1 (client_opened (kept_call x reply ++ calls_kept calls))
begun-after_open d r x (Opened at client ring) calls result not h =
    let next : Result View Reply → Talk (Started × ReaderState) =
    λ asked. finish (after_queries client ring r asked) in
    let p = split-and_then (ask_each (queries d client) r.view) next calls result h in
    begun-queries client ring r p.between result
    (finished (after_queries client ring r p.between) result p.later p.later_ends).1 not
begun-after_open d r x (Again at ends) calls result not h =
    rw ((finished (start_stop_of (Again at ends), r) result calls h).0) tt
begun-after_open d r x reply calls result not h = tt

begun-start : (d : Description) (r : ReaderState) (calls : List Call) (result : Started × ReaderState)
    → has_opened result.0 ≡ false → EndsWith (start_talk d r) calls result
    → IsBegun r result.1 (client_opened (calls_kept calls))
unfolding start_talk LeadsTo
begun-start d r [] result not h = absurd cc
begun-start d r (call ∷ calls) result not h =
    begun-after_open d r call.step call.answer.reply calls result not h.1

-- where a client was opened and a query was refused the reader has the client, and is to synchronise
pub says-query_refused : (d : Description) {before after : EvdevView} {made : List CallMade}
    (r : ReaderState) {result : Started × ReaderState}
    → FollowsTalk before after [] made (start_talk d r) result → has_opened result.0 ≡ false
    → IfSome (client_opened made) (λ client. result.1 ≡ after_refused_query client r)
says-query_refused d r s not = rw s.kept (begun-start d r s.calls _ not s.talk_ends)

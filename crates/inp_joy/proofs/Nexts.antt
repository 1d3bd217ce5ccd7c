-- What a `next` or a start of a reader leaves, by its talk.
use Rattle.std.proofs.Common.{◌≡◌, ℕ, Bool, true, false, ◌&&◌, List, [], ◌∷◌, None, refl, sym, ap, ◌∙◌, inl}
use Rattle.std.proofs.Common.{inr, ◌⊎◌}
use Rattle.std.specs.Prelude.{Result, Ok, Err}
use Rattle.std.proofs.lemmas.Bool.{true≢false}
use Rattle.inp_model.specs.declared.event.Event.{Event}
use Rattle.inp_model.specs.declared.taken.Taken.{Taken}
use Rattle.inp_model.specs.declared.step.Step.{Step}
use Rattle.inp_model.specs.declared.reply.Reply.{Reply}
use Rattle.inp_model.specs.declared.reply.Reply.TheVariants.{Refused as StepRefused}
use Rattle.inp_model.specs.Description.{Description}
use Rattle.inp_model.specs.Reply.{Answer, is_accepted}
use Rattle.inp_model.specs.Run.{Call}
use Rattle.inp_recon.specs.declared.view.View.{View}
use Rattle.inp_recon.specs.View.{view_after_event}
use Rattle.inp_reader.specs.declared.mode.Mode.{Mode}
use Rattle.inp_reader.specs.declared.mode.Mode.TheVariants.{Normal, Sync as Synchronising}
use Rattle.inp_reader.specs.declared.phase.Phase.{Phase}
use Rattle.inp_reader.specs.declared.phase.Phase.TheVariants.{Needed}
use Rattle.inp_reader.specs.declared.next.Next.{Next}
use Rattle.inp_reader.specs.declared.next.Next.TheVariants.{Success, Dropped, Sync, Synced}
use Rattle.inp_reader.specs.declared.started.Started.{Started}
use Rattle.inp_reader.specs.declared.started.Started.TheVariants.{Opened as StartedOn, Refused}
use Rattle.inp_reader.specs.Reader.{ReaderState, start_stop_of, after_queries, start_talk, ask_each, queries}
use Rattle.inp_reader.specs.Reader.{stop_of as reader_stop, sync_talk, next_talk, hand_synthesised}
use Rattle.inp_reader.specs.Reader.{after_full_sync, after_failed_sync}
use Rattle.inp_reader.specs.ReaderPlace.{is_needed}
use Rattle.inp_reader.specs.Talk.{EndsWith}
use Rattle.inp_reader.proofs.Calls.{AreAccepted}
use Rattle.inp_reader.proofs.Meets.{Any, AnyAnswer, any-run, Runs, meets-always, meets-ends}
use Rattle.inp_reader.proofs.NextWalk.{sync-meets, Queried, start-meets, Renewed, NextRules, Handed}
use Rattle.inp_reader.proofs.NextWalk.{needed-meets, next-ends, stop-cases}
use Rattle.inp_joy.specs.Joy.{joy_read_of}

-- In Normal mode, where no synchronisation is needed

-- an event sets the view and SYN_DROPPED the phase; else both stay, and nothing is synthesised
abbrev pub IsTaken : View → Next → ReaderState → Type 0
IsTaken view (Success taken) s = (s.view ≡ view_after_event view taken.event) × (is_needed s.phase ≡ false)
IsTaken view (Dropped taken) s = is_needed s.phase ≡ true
IsTaken view (Sync event) s = ⊥
IsTaken view Synced s = ⊥
IsTaken view _ s = (s.view ≡ view) × (is_needed s.phase ≡ false)

taken-stopped : (r : ReaderState) (reply : Reply) → is_needed r.phase ≡ false
    → IsTaken r.view (reader_stop reply) r
taken-stopped r reply plain =
    stop-cases (λ next. IsTaken r.view next r) reply (λ at ends is. (refl, plain)) (refl, plain) (refl, plain)
    (λ at. (refl, plain))

abbrev HasStill : View → Unit {0} → ReaderState → Type 0
HasStill view s r = (r.view ≡ view) × (is_needed r.phase ≡ false)

abbrev Takes : View → Unit {0} → Next × ReaderState → Type 0
Takes view s o = IsTaken view o.0 o.1

no_sync : (phase : Phase) → phase ≡ Needed → is_needed phase ≡ false → ⊥
no_sync phase is plain = true≢false (sym (ap is_needed is) ∙ plain)

taken-rules : (d : Description) (view : View) → NextRules Any AnyAnswer (HasStill view) (Takes view) d Normal
taken-rules d view = record {
  asks_read = λ s r h. tt;
  reads = λ s t r a h plain none any is. h;
  stops = λ s t r a h plain none any is. rw (← h.0) (taken-stopped r a.reply h.1);
  hands = λ s r taken rest h plain q is. (rw h.0, h.1);
  loses = λ s r taken rest h plain q is. refl;
  empty = λ s r h plain q. h;
  idles = λ s r h plain is. cc;
  syncs = λ s r h needed. absurd (no_sync r.phase needed h.1);
  makes = λ s r event left h handing sync is. cc;
  made_all = λ s r h handing sync is. cc;
  goes_on = λ s r h handing is. (h.0, refl);
}

-- without a synchronisation, `next` changes the view by an event alone, and the phase by a loss alone
pub next-taken : (d : Description) (r : ReaderState) (calls : List Call) (result : Next × ReaderState)
    → is_needed r.phase ≡ false → EndsWith (next_talk d Normal r) calls result
    → IsTaken r.view result.0 result.1
next-taken d r calls result plain ends =
    next-ends Any AnyAnswer (HasStill r.view) (Takes r.view) d Normal
    (taken-rules d r.view) tt tt r calls result (refl, plain) (any-run calls) ends

-- In Sync mode, where a synchronisation is needed

-- none is needed any more, unless it was stopped
abbrev pub IsSynced : Next → ReaderState → Type 0
IsSynced (Success taken) s = ⊥
IsSynced (Dropped taken) s = ⊥
IsSynced (Sync event) s = is_needed s.phase ≡ false
IsSynced Synced s = is_needed s.phase ≡ false
IsSynced _ s = is_needed s.phase ≡ true

synced-stopped : (s : ReaderState) (reply : Reply) → is_needed s.phase ≡ true → IsSynced (reader_stop reply) s
synced-stopped s reply h = stop-cases (λ next. IsSynced next s) reply (λ at ends is. h) h h (λ at. h)

abbrev Syncs : Unit {0} → Next × ReaderState → Type 0
Syncs s o = IsSynced o.0 o.1

-- after a synchronisation none is needed, unless a reply stopped it
pub next-synced : (d : Description) (r : ReaderState) (calls : List Call) (result : Next × ReaderState)
    → is_needed r.phase ≡ true → EndsWith (next_talk d Synchronising r) calls result
    → IsSynced result.0 result.1
next-synced d r calls result needed ends =
    meets-ends Any AnyAnswer Syncs tt tt (next_talk d Synchronising r) calls result
    (needed-meets Any AnyAnswer Syncs d tt r needed
    (meets-always AnyAnswer (Handed Syncs r) tt (sync_talk d r) so)) (any-run calls) ends
  where
    made : (view : View) (left : List Event)
        → (let o : Next × ReaderState = hand_synthesised (after_full_sync r view) left in IsSynced o.0 o.1)
    made view [] = refl
    made view (event ∷ left) = refl

    so : (s : Unit {0}) (asked : Result View Reply) → Handed Syncs r s asked
    so s (Ok view) = made view (after_full_sync r view).left
    so s (Err reply) = synced-stopped (after_failed_sync r) reply refl

-- Where it answers none of those that end a read, all calls were accepted

-- so far
abbrev all_accepted : Bool → List Call → Bool
all_accepted b [] = b
all_accepted b (call ∷ calls) = all_accepted (b && is_accepted call.answer.reply) calls

abbrev Accepting : Bool → Step → Answer → Bool → Type 0
Accepting b x a c = c ≡ (b && is_accepted a.reply)

accepting-run : (b : Bool) (calls : List Call) → Runs Accepting b calls (all_accepted b calls)
unfolding Runs
accepting-run b [] = refl
accepting-run b (call ∷ calls) =
    (b && is_accepted call.answer.reply, refl, accepting-run (b && is_accepted call.answer.reply) calls)

none-accepted : (calls : List Call) → all_accepted false calls ≡ true → ⊥
none-accepted [] h = cc
none-accepted (call ∷ calls) h = none-accepted calls h

are-accepted : (calls : List Call) → all_accepted true calls ≡ true → AreAccepted calls
are-accepted [] h = tt
are-accepted (call ∷ calls) h = by_flag (is_accepted call.answer.reply) (λ k. are-accepted calls k) h
  where
    by_flag : (b : Bool) → (all_accepted true calls ≡ true → AreAccepted calls) → all_accepted b calls ≡ true
        → (b ≡ true) × AreAccepted calls
    by_flag true more k = (refl, more k)
    by_flag false more k = absurd (none-accepted calls k)

stops : (reply : Reply) → joy_read_of (reader_stop reply) ≡ None → ⊥
stops reply =
    stop-cases (λ next. joy_read_of next ≡ None → ⊥) reply (λ at ends is h. cc) (λ h. cc)
    (λ h. cc) (λ at h. cc)

abbrev AreSoFar : Bool → ReaderState → Type 0
AreSoFar b r = b ≡ true

abbrev AreWhereOn : Bool → Next × ReaderState → Type 0
AreWhereOn b o = joy_read_of o.0 ≡ None → b ≡ true

accepted-rules : (d : Description) (mode : Mode) → NextRules Any Accepting AreSoFar AreWhereOn d mode
accepted-rules d mode = record {
  asks_read = λ s r h. tt;
  reads = λ s t r a h plain none by is. rw (by, h) is;
  stops = λ s t r a h plain none by is goes. absurd (stops a.reply goes);
  hands = λ s r taken rest h plain q is goes. h;
  loses = λ s r taken rest h plain q is goes. h;
  empty = λ s r h plain q goes. h;
  idles = λ s r h plain is goes. h;
  syncs = λ s r h needed.
      sync-meets Any Accepting (λ (b : Bool) (view : View) (left : List Step). b ≡ true)
      (Renewed AreSoFar AreWhereOn r) d s r (record {
        asks = λ u view x xs j. tt;
        told = λ u t view x xs a j by is. rw (by, j) is;
        stopped = λ u t view x xs a j by is goes. absurd (stops a.reply goes);
        whole = λ u view j. j;
      }) h;
  makes = λ s r event left h handing sync is goes. h;
  made_all = λ s r h handing sync is goes. h;
  goes_on = λ s r h handing is. h;
}

-- a reply that was not accepted stops the reader, so where it did not stop all calls were accepted
pub next-accepted : (d : Description) (mode : Mode) (r : ReaderState) (calls : List Call)
    (result : Next × ReaderState) → joy_read_of result.0 ≡ None → EndsWith (next_talk d mode r) calls result
    → AreAccepted calls
next-accepted d mode r calls result goes ends =
    are-accepted calls
    (next-ends Any Accepting AreSoFar AreWhereOn d mode (accepted-rules d mode) true
    (all_accepted true calls) r calls result refl (accepting-run true calls) ends goes)

-- after lost events a synchronisation is needed
pub lost-needed : (d : Description) (r s : ReaderState) (calls : List Call) (taken : Taken)
    → is_needed r.phase ≡ false → EndsWith (next_talk d Normal r) calls (Dropped taken, s)
    → is_needed s.phase ≡ true
lost-needed d r s calls taken plain h = next-taken d r calls (Dropped taken, s) plain h

-- Starting

-- a start that is refused leaves the reader as it was, or to synchronise
abbrev pub IsLeftByStart : ReaderState → Started → ReaderState → Type 0
IsLeftByStart r (StartedOn client ring) s = Unit {0}
IsLeftByStart r (Refused at why) s = (s ≡ r) ⊎ (is_needed s.phase ≡ true)

left-stopped : (r s : ReaderState) (reply : Reply) → (s ≡ r) ⊎ (is_needed s.phase ≡ true)
    → IsLeftByStart r (start_stop_of reply) s
left-stopped r s (StepRefused at why) h = h
left-stopped r s _ h = h

left-queries : (client ring : ℕ) (r : ReaderState) (asked : Result View Reply)
    → (let o : Started × ReaderState = after_queries client ring r asked in IsLeftByStart r o.0 o.1)
left-queries client ring r (Ok view) = tt
left-queries client ring r (Err reply) =
    left-stopped r (record { client = client; queue = []; view = r.view; phase = Needed; left = [] })
    reply (inr refl)

-- a refused open changes nothing, and a refused query leaves a synchronisation needed
pub start-left : (d : Description) (r : ReaderState) (calls : List Call) (result : Started × ReaderState)
    → EndsWith (start_talk d r) calls result → IsLeftByStart r result.0 result.1
start-left d r calls result ends =
    let Q : Unit {0} → Started × ReaderState → Type 0 = λ s o. IsLeftByStart r o.0 o.1 in
    meets-ends Any AnyAnswer Q tt tt (start_talk d r) calls result
    (start-meets Any AnyAnswer Q d r tt (record {
      asks_open = tt;
      opened = λ t a at client ring any is.
          meets-always AnyAnswer (Queried Q client ring r) t (ask_each (queries d client) r.view)
          (λ u asked. left-queries client ring r asked);
      refused = λ t a any other. left-stopped r r a.reply (inl refl);
    })) (any-run calls) ends

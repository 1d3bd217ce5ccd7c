-- Where a reader stands after the talks of `start` and `next`, by the pasts at which its calls were answered.
use Rattle.std.proofs.Common.{◌≡◌, ◌<◌, ◌⊎◌, inl, inr, ℕ, nat_eq, Bool, true, false, List, [], ◌∷◌, ◌++◌}
use Rattle.std.proofs.Common.{refl, sym, ap, ◌∙◌, arith, append-nil, append_assoc, if◌then◌else◌}
use Rattle.std.specs.Prelude.{Result, Ok, Err}
use Rattle.std.proofs.lemmas.Bool.{true≢false, false≢true, ne_eqb, eq-eqb, and_right, cond_both}
use Rattle.std.proofs.lemmas.List.{map-append}
use Rattle.std.proofs.lemmas.List.Concat.{flat_map-append}
use Rattle.inp_model.specs.declared.event.Event.{Event}
use Rattle.inp_model.specs.declared.taken.Taken.{Taken}
use Rattle.inp_model.specs.declared.step.Step.{Step}
use Rattle.inp_model.specs.declared.step.Step.TheVariants.{Open, Read, Discard}
use Rattle.inp_model.specs.declared.reply.Reply.{Reply}
use Rattle.inp_model.specs.declared.reply.Reply.TheVariants.{Opened, Refused}
use Rattle.inp_model.specs.Description.{Description}
use Rattle.inp_model.specs.Past.{opens, is_opening}
use Rattle.inp_model.specs.Reply.{Answer, IsAnswer, answer, accepted, refused, is_accepted, past_after}
use Rattle.inp_model.specs.Run.{Call}
use Rattle.inp_model.specs.Step.{is_open_step}
use Rattle.inp_recon.specs.declared.view.View.{View}
use Rattle.inp_recon.specs.View.{first_view, view_after_event, view_after_events, view_after_answer}
use Rattle.inp_recon.proofs.Each.{Each}
use Rattle.inp_recon.proofs.Folds.{view_after_events-append}
use Rattle.inp_reader.proofs.QueryAnswers.{answered-as}
use Rattle.inp_reader.specs.declared.mode.Mode.{Mode}
use Rattle.inp_reader.specs.declared.phase.Phase.{Phase}
use Rattle.inp_reader.specs.declared.phase.Phase.TheVariants.{Plain, Needed, Handing}
use Rattle.inp_reader.specs.declared.next.Next.{Next}
use Rattle.inp_reader.specs.declared.next.Next.TheVariants.{Success}
use Rattle.inp_reader.specs.declared.started.Started.{Started}
use Rattle.inp_reader.specs.Reader.{ReaderState, ask_each, queries, start_talk, next_talk, sync_talk}
use Rattle.inp_reader.specs.Reader.{after_queries, start_stop_of, stop_of, as_plain, after_full_sync}
use Rattle.inp_reader.specs.Reader.{after_failed_sync}
use Rattle.inp_recon.specs.Synchronised.{is_discard_of, is_start}
use Rattle.inp_reader.specs.ReaderPlace.{is_use_of, calls_since, steps_of, view_after_answers, taken_by_calls}
use Rattle.inp_reader.specs.ReaderPlace.{taken_events, is_read, AreReads, IsInStep, is_needed, has_opened}
use Rattle.inp_reader.specs.Talk.{Talk, finish, LeadsTo, EndsWith}
use Rattle.inp_reader.proofs.Calls.{finished, AreAnswered, AreAccepted}
use Rattle.inp_reader.proofs.Meets.{Meets, Any, Runs, ends-meet, meets-ends}
use Rattle.inp_reader.proofs.NextWalk.{Queried, StartRules, start-meets, each-query, Renewed, NextRules}
use Rattle.inp_reader.proofs.NextWalk.{next-ends, stop-cases}
use Rattle.inp_reader.proofs.PastsAtCalls.{AreQuiet, IsMet, AreMet, AreMet-answered}

-- Steps since the client was opened

-- no step makes the number of opened clients smaller
pub opens-step : (past : List Step) (x : Step) (client : ℕ) → client < opens past → client < opens (x ∷ past)
unfolding opens
opens-step past x client h =
    cond_both (is_open_step x) _ _ (λ (n : ℕ). client < n) (λ _. omega (arith, h)) (λ _. h)

-- nor do several steps
pub opens-steps : (past others : List Step) (client : ℕ) → client < opens past
    → client < opens (others ++ past)
opens-steps past [] client h = h
opens-steps past (x ∷ others) client h =
    opens-step (others ++ past) x client (opens-steps past others client h)

-- an open client is opened by no later step
pub not_opening : (past : List Step) (x : Step) (client : ℕ) → client < opens past
    → is_opening past client x ≡ false
not_opening past x client h =
    and_right (is_open_step x) _ (ne_eqb (opens past) client (λ e. omega (arith, h, e)))

not_beginning : (past : List Step) (x : Step) (client : ℕ) → client < opens past
    → is_discard_of client x ≡ false → is_start past client x ≡ false
not_beginning past x client h k = rw not_opening k

no_discard : (client : ℕ) (x : Step) → is_use_of client x ≡ false → is_discard_of client x ≡ false
no_discard client (Discard named) h = h
no_discard client _ h = refl

-- a step that is no beginning: with its call, where it is a use
quiet-step : (d : Description) (past : List Step) (x : Step) (client : ℕ) → client < opens past
    → is_use_of client x ≡ false → calls_since d (x ∷ past) client ≡ calls_since d past client
unfolding calls_since
quiet-step d past x client h quiet = rw (not_beginning past x client h (no_discard client x quiet), quiet)

quiet-steps : (d : Description) (past others : List Step) (client : ℕ) → client < opens past
    → AreQuiet client others → calls_since d (others ++ past) client ≡ calls_since d past client
unfolding AreQuiet
quiet-steps d past [] client h quiet = refl
quiet-steps d past (x ∷ others) client h quiet =
    quiet-step d (others ++ past) x client (opens-steps past others client h) quiet.0
    ∙ quiet-steps d past others client h quiet.1

use-step : (d : Description) (past : List Step) (x : Step) (client : ℕ) → client < opens past
    → is_use_of client x ≡ true → is_discard_of client x ≡ false
    → calls_since d (x ∷ past) client ≡ calls_since d past client
    ++ record { step = x; answer = answer d past x } ∷ []
unfolding calls_since
use-step d past x client h used kept = rw (not_beginning past x client h kept, used)

discard-step : (d : Description) (past : List Step) (client : ℕ)
    → calls_since d (Discard client ∷ past) client ≡ []
unfolding calls_since
discard-step d past client = rw (eq-eqb client client refl)

-- the Open of a client is its start, and nothing was read or asked for since
pub open-step : (d : Description) (past : List Step) (client : ℕ) → client ≡ opens past
    → calls_since d (Open ∷ past) client ≡ []
unfolding calls_since
open-step d past client h = rw (eq-eqb (opens past) client (sym h))

-- One call

-- a use's answer is the one-thread device's: memory runs out at an Open alone
use-answer : (d : Description) (past : List Step) (client : ℕ) (x : Step) (given : Answer)
    → is_use_of client x ≡ true → IsAnswer d past x given → given ≡ answer d past x
use-answer d past client x given used (inl e) = e
use-answer d past client x given used (inr l) = absurd (false≢true (rw l.0 at used))

pub accepted-past : (reply : Reply) (x : Step) (past : List Step) → is_accepted reply ≡ true
    → past_after reply x past ≡ x ∷ past
accepted-past reply x past h = rw h

pub refused-past : (reply : Reply) (x : Step) (past : List Step) → is_accepted reply ≡ false
    → past_after reply x past ≡ past
refused-past reply x past h = rw h

module _ (d : Description) (client : ℕ) (past after : List Step) (call : Call) (h : client < opens past)
    (m : IsMet d client past after call) where
  -- what is known of the client after a call that is a use of it and was accepted
  pub met-use : is_use_of client call.step ≡ true → is_discard_of client call.step ≡ false
      → is_accepted call.answer.reply ≡ true
      → calls_since d after client ≡ calls_since d past client ++ call ∷ []
  met-use used kept accepted =
      let before : List Step = m.others ++ past in
      let is : after ≡ call.step ∷ before =
      m.entered ∙ accepted-past call.answer.reply call.step before accepted in
      rw (
        is,
        use-step d before call.step client (opens-steps past m.others client h) used kept,
        ← use-answer d before client call.step call.answer used m.exact,
        quiet-steps d past m.others client h m.quiet,
      )

  -- after one that was refused
  pub met-refused : is_accepted call.answer.reply ≡ false
      → calls_since d after client ≡ calls_since d past client
  met-refused refused = rw (m.entered, refused-past) (quiet-steps d past m.others client h m.quiet)

  -- neither the steps of others nor the call make the number of opened clients smaller
  pub met-opens : client < opens after
  met-opens =
      let open_before : client < opens (m.others ++ past) = opens-steps past m.others client h in
      rw m.entered (cond_both (is_accepted call.answer.reply) _ _ (λ (p : List Step). client < opens p)
      (λ _. opens-step (m.others ++ past) call.step client open_before) (λ _. open_before))

  -- a call that is no use of the client leaves what it did
  pub met-unused : is_use_of client call.step ≡ false → calls_since d after client ≡ calls_since d past client
  met-unused unused =
      let quiet = quiet-steps d past m.others client h m.quiet in
      rw m.entered
      (cond_both (is_accepted call.answer.reply) _ _
      (λ (p : List Step). calls_since d p client ≡ calls_since d past client)
      (λ _. quiet-step d (m.others ++ past) call.step client (opens-steps past m.others client h) unused
      ∙ quiet) (λ _. quiet))

pub opens-met : (d : Description) (client : ℕ) (past after : List Step) (calls : List Call)
    → client < opens past → AreMet d client past after calls → client < opens after
unfolding AreMet
opens-met d client past after [] h m = rw m h
opens-met d client past after (call ∷ calls) h m =
    opens-met d client m.0 after calls (met-opens d client past m.0 call h m.1) m.2

-- Steps that are asked for in order

-- the step is a use of the client, and no Discard
abbrev Asks : ℕ → Step → Type 0
Asks client x = (is_use_of client x ≡ true) × (is_discard_of client x ≡ false)

asks-queries : (d : Description) (client : ℕ) → Each (Asks client) (queries d client)
asks-queries d client =
    let same : nat_eq client client ≡ true = eq-eqb client client refl in
    each-query d client (Asks client)
    (record {
      keys = λ h. (same, refl);
      leds = λ h. (same, refl);
      switches = λ h. (same, refl);
      axes =
          λ code h. (same, refl);
      slots = λ h. (same, refl);
    })

-- all were asked for and accepted
record IsAsked (d : Description) (client : ℕ) (past after : List Step) (xs : List Step) (view : View)
    (calls : List Call) (asked : View) : Type 0 where
  since : calls_since d after client ≡ calls_since d past client ++ calls
  steps : steps_of calls ≡ xs
  view_is : asked ≡ view_after_answers view calls
  accepted : AreAccepted calls

accepted_if : (b : Bool) (talk : Talk (Result View Reply)) (reply : Reply) (calls : List Call) (asked : View)
    → EndsWith (if b then talk else finish (Err reply)) calls (Ok asked)
    → (b ≡ true) × EndsWith talk calls (Ok asked)
accepted_if true talk reply calls asked h = (refl, h)
accepted_if false talk reply calls asked h =
    absurd (let e : Err reply ≡ Ok asked = (finished (Err reply) (Ok asked) calls h).1 in cc)

none_asked : (d : Description) (client : ℕ) (past after : List Step) (view asked : View) (calls : List Call)
    → AreMet d client past after calls → calls ≡ [] → view ≡ asked
    → IsAsked d client past after [] view calls asked
unfolding AreMet
none_asked d client past after view asked [] m none same = record {
  since = rw m (sym (append-nil (calls_since d past client)));
  steps = refl;
  view_is = sym same;
  accepted = tt;
}
none_asked d client past after view asked (call ∷ calls) m none same = absurd cc

asks : (d : Description) (client : ℕ) (past after : List Step) (xs : List Step) (view : View)
    (calls : List Call) (asked : View) → client < opens past → Each (Asks client) xs
    → AreMet d client past after calls → EndsWith (ask_each xs view) calls (Ok asked)
    → IsAsked d client past after xs view calls asked
unfolding LeadsTo ask_each AreMet
asks d client past after [] view calls asked h all m ends =
    let e = finished (Ok view) (Ok asked) calls ends in
    none_asked d client past after view asked calls m e.0 (let k : Ok view ≡ Ok asked = e.1 in cc)
asks d client past after (x ∷ xs) view [] asked h all m ends = absurd cc
asks d client past after (x ∷ xs) view (call ∷ calls) asked h all m ends =
    let next : View = view_after_answer view x call.answer.reply call.answer.cells in
    let a =
    accepted_if (is_accepted call.answer.reply) (ask_each xs next) call.answer.reply calls asked ends.1 in
    let one = met-use d client past m.0 call h m.1 (rw ends.0 all.0.0) (rw ends.0 all.0.1) a.0 in
    let rest =
    asks d client m.0 after xs next calls asked (met-opens d client past m.0 call h m.1) all.1 m.2 a.1 in
    record {
      since = rw (rest.since, one) (append_assoc (calls_since d past client) (call ∷ []) calls);
      steps = rw (ends.0, rest.steps);
      view_is = rw (rest.view_is, ← ends.0);
      accepted = (a.0, rest.accepted);
    }

-- Reading

-- a view is made anew by the answers to all queries
unfoldable pub IsMadeAnew : Description → ℕ → View → Type 0
IsMadeAnew d client view =
    (calls : List Call) → steps_of calls ≡ queries d client → AreAccepted calls → AreAnswered d calls
    → view_after_answers view calls ≡ view_after_answers (first_view d) calls

-- the reader is in step, and this is the last event that it handed out
pub record IsHandedOut (d : Description) (past : List Step) (r : ReaderState) (last : Taken) : Type 0 where
  -- the reader is in step
  pub in_step : IsInStep d past r
  -- what it handed out before
  pub before : List Taken
  -- and behind that the last event
  pub handed : in_step.handed ≡ before ++ last ∷ []

AreReads-append : (reads more : List Call) → AreReads reads → AreReads more → AreReads (reads ++ more)
AreReads-append [] more h k = k
AreReads-append (read ∷ reads) more h k = (h.0, AreReads-append reads more h.1 k)

-- A reader that is in step.
module _ {d : Description} {past : List Step} {r : ReaderState} (i : IsInStep d past r) where
  -- It is so after more reads, where this run of what it had and read is handed out and the rest is queued.
  pub in-step-on : (after : List Step) (more : List Call) (run rest : List Taken) (phase : Phase)
      (left : List Event)
      → AreReads more → calls_since d after r.client ≡ calls_since d past r.client ++ more
      → r.queue ++ taken_by_calls more ≡ run ++ rest
      → IsInStep d after
      (record {
        client = r.client;
        queue = rest;
        view = view_after_events r.view (taken_events run);
        phase = phase;
        left = left;
      })
  in-step-on after more run rest phase left are since q = record {
    asked = i.asked;
    reads = i.reads ++ more;
    handed = i.handed ++ run;
    calls = rw (since, i.calls) (append_assoc i.asked i.reads more);
    queries = i.queries;
    reads_only = AreReads-append i.reads more i.reads_only are;
    taken = rw (flat_map-append, i.taken, append_assoc, q) (sym (append_assoc i.handed run rest));
    view = rw (i.view, ← view_after_events-append, ← map-append);
  }

  -- the first events of the queue are handed out
  pub in-step-handed : (run rest : List Taken) (phase : Phase) → r.queue ≡ run ++ rest
      → IsInStep d past
      (record r { queue = rest; view = view_after_events r.view (taken_events run); phase = phase })
  in-step-handed run rest phase q =
      in-step-on past [] run rest phase r.left tt (sym (append-nil (calls_since d past r.client)))
      (append-nil r.queue ∙ q)

  handed : (taken : Taken) (rest : List Taken) → r.queue ≡ taken ∷ rest
      → IsHandedOut d past (record r { queue = rest; view = view_after_event r.view taken.event }) taken
  unfolding view_after_events in-step-handed in-step-on
  handed taken rest q =
      record { in_step = in-step-handed (taken ∷ []) rest r.phase q; before = i.handed; handed = refl }

  -- the last of several is handed out last
  pub handed-run : (front : List Taken) (last : Taken) (run rest : List Taken) (phase : Phase)
      → run ≡ front ++ last ∷ [] → r.queue ≡ run ++ rest
      → IsHandedOut d past
      (record r { queue = rest; view = view_after_events r.view (taken_events run); phase = phase }) last
  unfolding in-step-handed in-step-on
  handed-run front last run rest phase is q = record {
    in_step = in-step-handed run rest phase q;
    before = i.handed ++ front;
    handed = rw is (sym (append_assoc i.handed front (last ∷ [])));
  }

  -- in another phase too, with other events left to make, at a past since which nothing was read or asked for
  in-step-moved : (after : List Step) (phase : Phase) (left : List Event)
      → calls_since d after r.client ≡ calls_since d past r.client
      → IsInStep d after (record r { phase = phase; left = left })
  unfolding view_after_events
  in-step-moved after phase left same =
      in-step-on after [] [] r.queue phase left tt (same ∙ sym (append-nil (calls_since d past r.client)))
      (append-nil r.queue)

  in-step-plain : IsInStep d past (as_plain r)
  in-step-plain = in-step-moved past Plain [] refl

  -- one more read, of which nothing is handed out yet
  in-step-read : (after : List Step) (call : Call) → r.queue ≡ [] → is_read call.step ≡ true
      → calls_since d after r.client ≡ calls_since d past r.client ++ call ∷ []
      → IsInStep d after (record r { queue = call.answer.events })
  unfolding view_after_events
  in-step-read after call empty read since =
      in-step-on after (call ∷ []) [] call.answer.events r.phase r.left (read, tt) since
      (rw empty (append-nil call.answer.events))

-- the same reader, at a past since which nothing was read or asked for
pub in-step-kept : (d : Description) (past after : List Step) (r : ReaderState) → IsInStep d past r
    → calls_since d after r.client ≡ calls_since d past r.client → IsInStep d after r
in-step-kept d past after r i same = in-step-moved i after r.phase r.left same

-- what is known of the event that `next` answers
abbrev pub HandsOut : Description → List Step → Next → ReaderState → Type 0
HandsOut d past (Success taken) r = IsHandedOut d past r taken
HandsOut d past _ r = Unit {0}

-- what of where a reader stands is about its client
pub record IsOpenInStep (d : Description) (past : List Step) (r : ReaderState) : Type 0 where
  -- its client was opened
  pub opened : r.client < opens past
  -- unless it is to synchronise it is in step
  pub in_step : is_needed r.phase ≡ false → IsInStep d past r

-- how `next` leaves a reader
pub record Leaves (d : Description) (past : List Step) (result : Next × ReaderState) : Type 0 where
  -- its client was opened, and it is in step unless it is to synchronise
  pub stands : IsOpenInStep d past result.1
  -- where `next` answered an event, that is the last one handed out
  pub hands_out : HandsOut d past result.0 result.1

-- a stop is no event
stop-hands : (d : Description) (past : List Step) (reply : Reply) (r : ReaderState)
    → HandsOut d past (stop_of reply) r
stop-hands d past reply r =
    stop-cases (λ next. HandsOut d past next r) reply (λ at ends is. tt) tt tt (λ at. tt)

-- Calls that were met so

abbrev MetBy : Description → ℕ → List Step → Step → Answer → List Step → Type 0
MetBy d client past x answer after = IsMet d client past after (record { step = x; answer = answer })

met-run : (d : Description) (client : ℕ) (past after : List Step) (calls : List Call)
    → AreMet d client past after calls → Runs (MetBy d client) past calls after
unfolding AreMet Runs
met-run d client past after [] h = h
met-run d client past after (call ∷ calls) h = (h.0, h.1, met-run d client h.0 after calls h.2)

run-met : (d : Description) (client : ℕ) (past after : List Step) (calls : List Call)
    → Runs (MetBy d client) past calls after → AreMet d client past after calls
unfolding AreMet Runs
run-met d client past after [] h = h
run-met d client past after (call ∷ calls) h = (h.0, h.1, run-met d client h.0 after calls h.2)

-- Synchronising

-- a reader with this view, and nothing read
abbrev just_synchronised : ℕ → View → Phase → List Event → ReaderState
just_synchronised client view phase left =
    record { client = client; queue = []; view = view; phase = phase; left = left }

-- in step after all queries, with nothing read
in-step-anew : (d : Description) (client : ℕ) (past after : List Step) (view told : View) (calls : List Call)
    (phase : Phase) (left : List Event)
    → client < opens past → calls_since d past client ≡ [] → IsMadeAnew d client view
    → AreMet d client past after calls → EndsWith (ask_each (queries d client) view) calls (Ok told)
    → IsInStep d after (just_synchronised client told phase left)
unfolding IsMadeAnew view_after_events
in-step-anew d client past after view told calls phase left opened none anew m ends =
    let a =
    asks d client past after (queries d client) view calls told opened (asks-queries d client) m ends in
    record {
      asked = calls;
      reads = [];
      handed = [];
      calls = rw (a.since, none) (sym (append-nil calls));
      queries = a.steps;
      reads_only = tt;
      taken = refl;
      view = a.view_is ∙ anew calls a.steps a.accepted (AreMet-answered d client past after calls m);
    }

synchronised : (d : Description) (client : ℕ) (past after : List Step) (view told : View) (calls : List Call)
    (phase : Phase) (left : List Event)
    → client < opens past → IsMadeAnew d client view → AreMet d client past after calls
    → EndsWith (ask_each (Discard client ∷ queries d client) view) calls (Ok told)
    → IsInStep d after (just_synchronised client told phase left)
unfolding LeadsTo ask_each AreMet view_after_answer
synchronised d client past after view told [] phase left h anew m ends = absurd cc
synchronised d client past after view told (call ∷ calls) phase left h anew m ends =
    let next : View = view_after_answer view (Discard client) call.answer.reply call.answer.cells in
    let a =
    accepted_if (is_accepted call.answer.reply)
    (ask_each (queries d client) next) call.answer.reply calls told ends.1 in
    let met : IsMet d client past m.0 call = m.1 in
    let none : calls_since d m.0 client ≡ [] =
    rw (met.entered, accepted-past call.answer.reply call.step (met.others ++ past) a.0, ends.0)
    (discard-step d (met.others ++ past) client) in
    in-step-anew d client m.0 after next told calls phase left
    (met-opens d client past m.0 call h met) none anew m.2 a.1

-- `next`

not_needed : (phase is : Phase) → phase ≡ is → is_needed is ≡ false → is_needed phase ≡ false
not_needed phase is e h = ap is_needed e ∙ h

module _ (d : Description) (client : ℕ) where
  -- what is known of a reader, of whose client alone the rule is
  record StandsAs (past : List Step) (r : ReaderState) : Type 0 where
    same : client ≡ r.client
    opened : r.client < opens past
    in_step : is_needed r.phase ≡ false → IsInStep d past r
    anew : r.phase ≡ Needed → IsMadeAnew d r.client r.view

  stands-read : (past after : List Step) (r : ReaderState) (a : Answer) → StandsAs past r → r.phase ≡ Plain
      → r.queue ≡ [] → MetBy d client past (Read r.client 64) a after → is_accepted a.reply ≡ true
      → StandsAs after (record r { queue = a.events })
  stands-read past after r a s plain empty by is =
      let call : Call = record { step = Read r.client 64; answer = a } in
      let m : IsMet d r.client past after call = rw s.same at by in
      record {
        same = s.same;
        opened = met-opens d r.client past after call s.opened m;
        in_step = λ needed. in-step-read (s.in_step needed) after call empty refl
            (met-use d r.client past after call s.opened m (eq-eqb r.client r.client refl) refl is);
        anew = λ e. absurd (let k : Plain ≡ Needed = sym plain ∙ e in cc);
      }

  stands-stopped_read : (past after : List Step) (r : ReaderState) (a : Answer) → StandsAs past r
      → MetBy d client past (Read r.client 64) a after → is_accepted a.reply ≡ false
      → Leaves d after (stop_of a.reply, r)
  stands-stopped_read past after r a s by is =
      let call : Call = record { step = Read r.client 64; answer = a } in
      let m : IsMet d r.client past after call = rw s.same at by in
      record {
        stands = record {
          opened = met-opens d r.client past after call s.opened m;
          in_step =
              λ needed. in-step-kept d past after r (s.in_step needed)
              (met-refused d r.client past after call s.opened m is);
        };
        hands_out = stop-hands d after a.reply r;
      }

  stands-renewed : (past : List Step) (r : ReaderState) → StandsAs past r → r.phase ≡ Needed
      → Meets Any (MetBy d client) (Renewed StandsAs (Leaves d) r) past (sync_talk d r)
  unfolding sync_talk
  stands-renewed past r s needed =
      ends-meet (MetBy d client) (Renewed StandsAs (Leaves d) r) past
      (ask_each (Discard r.client ∷ queries d r.client) r.view) by
    where
      by : (after : List Step) (calls : List Call) (asked : Result View Reply)
          → Runs (MetBy d client) past calls after
          → EndsWith (ask_each (Discard r.client ∷ queries d r.client) r.view) calls asked
          → Renewed StandsAs (Leaves d) r after asked
      by after calls (Ok view) run ends =
          let m : AreMet d r.client past after calls = rw s.same at (run-met d client past after calls run) in
          record {
            same = s.same;
            opened = opens-met d r.client past after calls s.opened m;
            in_step = λ e. synchronised d r.client past after r.view view calls Handing
                (after_full_sync r view).left s.opened (s.anew needed) m ends;
            anew = λ e. absurd cc;
          }
      by after calls (Err reply) run ends =
          let m : AreMet d r.client past after calls = rw s.same at (run-met d client past after calls run) in
          record {
            stands = record {
              opened = opens-met d r.client past after calls s.opened m;
              in_step = λ e. absurd cc;
            };
            hands_out = stop-hands d after reply (after_failed_sync r);
          }

  stands-rules : (mode : Mode) → NextRules Any (MetBy d client) StandsAs (Leaves d) d mode
  stands-rules mode = record {
    asks_read = λ p r s. tt;
    reads = stands-read;
    stops = λ p t r a s plain empty m is. stands-stopped_read p t r a s m is;
    hands = λ p r taken rest s plain q is.
        let h = handed (s.in_step (not_needed r.phase Plain plain refl)) taken rest q in
        record { stands = record { opened = s.opened; in_step = λ e. h.in_step }; hands_out = h };
    loses = λ p r taken rest s plain q is.
        record { stands = record { opened = s.opened; in_step = λ e. absurd cc }; hands_out = tt };
    empty = λ p r s plain q.
        record { stands = record { opened = s.opened; in_step = s.in_step }; hands_out = tt };
    idles = λ p r s plain is.
        record { stands = record { opened = s.opened; in_step = s.in_step }; hands_out = tt };
    syncs = stands-renewed;
    makes = λ p r event left s handing sync is.
        record {
          stands =
              record { opened = s.opened; in_step = λ e. in-step-moved (s.in_step e) p r.phase left refl };
          hands_out = tt;
        };
    made_all = λ p r s handing sync is.
        record {
          stands =
              record {
                opened = s.opened;
                in_step =
                    λ e. in-step-plain (s.in_step (not_needed r.phase Handing handing refl));
              };
          hands_out = tt;
        };
    goes_on = λ p r s handing is. record {
      same = s.same;
      opened = s.opened;
      in_step = λ e. in-step-plain (s.in_step (not_needed r.phase Handing handing refl));
      anew = λ e. absurd cc;
    };
  }

-- a reader that stood stands after `next`, and what that handed out is the last event that was
pub stands-after-next : (d : Description) (mode : Mode) (past after : List Step) (r : ReaderState)
    (calls : List Call) (result : Next × ReaderState) → IsOpenInStep d past r → IsMadeAnew d r.client r.view
    → AreMet d r.client past after calls → EndsWith (next_talk d mode r) calls result → Leaves d after result
stands-after-next d mode past after r calls result s anew m ends =
    let here : StandsAs d r.client past r =
    record { same = refl; opened = s.opened; in_step = s.in_step; anew = λ needed. anew } in
    next-ends Any (MetBy d r.client) (StandsAs d r.client) (Leaves d) d mode
    (stands-rules d r.client mode) past after r calls result here (met-run d r.client past after calls m) ends

-- `start`

-- an Open that was accepted opens the next client
pub opened-number : (d : Description) (past : List Step) (x : Step) (given : Answer) (at client ring : ℕ)
    → x ≡ Open → IsAnswer d past x given → given.reply ≡ Opened at client ring → client ≡ opens past
opened-number d past x given at client ring opening are is =
    answered-as d past Open given (λ a. a.reply ≡ Opened at client ring → client ≡ opens past)
    (rw opening at are) (λ same. cc)
    (λ reply off same. absurd (true≢false (ap is_accepted (sym same) ∙ off))) is

-- an Open makes one client more, and the new one has the number of those before
pub open-opens : (past : List Step) (client : ℕ) → client ≡ opens past → client < opens (Open ∷ past)
unfolding opens
open-opens past client h = omega (arith, h)

-- what a start leaves once its queries ended
pub stands-queried : (d : Description) (client ring : ℕ) (past after : List Step) (r : ReaderState)
    (asked : Result View Reply) (calls : List Call) → client < opens past → calls_since d past client ≡ []
    → IsMadeAnew d client r.view → AreMet d client past after calls
    → EndsWith (ask_each (queries d client) r.view) calls asked
    → IsOpenInStep d after (after_queries client ring r asked).1
stands-queried d client ring past after r (Ok view) calls opened none anew m h =
    record {
      opened = opens-met d client past after calls opened m;
      in_step = λ needed. in-step-anew d client past after r.view view calls Plain [] opened none anew m h;
    }
stands-queried d client ring past after r (Err reply) calls opened none anew m h =
    record { opened = opens-met d client past after calls opened m; in_step = λ needed. absurd cc }

pub client-of-queried : (client ring : ℕ) (r : ReaderState) (asked : Result View Reply)
    → (after_queries client ring r asked).1.client ≡ client
client-of-queried client ring r (Ok view) = refl
client-of-queried client ring r (Err reply) = refl

not-opened : (reply : Reply) → has_opened (start_stop_of reply) ≡ false
not-opened (Refused at why) = refl
not-opened _ = refl

-- how a reader may have stood before a start: it did, or the start opened a client
unfoldable pub StoodOrOpened : Description → List Step → ReaderState → Started → Type 0
StoodOrOpened d past r started = IsOpenInStep d past r ⊎ (has_opened started ≡ true)

stands-stopped : (d : Description) (past after : List Step) (r : ReaderState) (call : Call) (reply : Reply)
    → call.step ≡ Open → IsMet d r.client past after call
    → IsOpenInStep d past r ⊎ (has_opened (start_stop_of reply) ≡ true) → IsOpenInStep d after r
stands-stopped d past after r call reply opening m (inl s) = record {
  opened = met-opens d r.client past after call s.opened m;
  in_step = λ needed. in-step-kept d past after r (s.in_step needed)
      (met-unused d r.client past after call s.opened m (rw opening));
}
stands-stopped d past after r call reply opening m (inr o) = absurd (cc (not-opened reply))

-- once an Open was accepted and the queries ended
stands-opened : (d : Description) (past mid after : List Step) (r : ReaderState) (a : Answer)
    (at client ring : ℕ) (asked : Result View Reply) (calls : List Call) → IsMadeAnew d client r.view
    → MetBy d client past Open a mid → a.reply ≡ Opened at client ring → AreMet d client mid after calls
    → EndsWith (ask_each (queries d client) r.view) calls asked
    → IsOpenInStep d after (after_queries client ring r asked).1
stands-opened d past mid after r a at client ring asked calls anew met is m ends =
    let before : List Step = met.others ++ past in
    let number : client ≡ opens before = opened-number d before Open a at client ring refl met.exact is in
    let entered : mid ≡ Open ∷ before = met.entered ∙ accepted-past a.reply Open before (ap is_accepted is) in
    let none : calls_since d mid client ≡ [] = rw entered (open-step d before client number) in
    let opened : client < opens mid = rw entered (open-opens before client number) in
    stands-queried d client ring mid after r asked calls opened none anew m ends

-- as the client that it has then, where it stood or the start opened one
abbrev StandsOn : Description → ℕ → List Step → ReaderState → List Step → Started × ReaderState → Type 0
StandsOn d client past r after o = o.1.client ≡ client → StoodOrOpened d past r o.0 → IsOpenInStep d after o.1

start-rules : (d : Description) (client : ℕ) (past : List Step) (r : ReaderState)
    → ((n : ℕ) → IsMadeAnew d n r.view)
    → StartRules Any (MetBy d client) (StandsOn d client past r) d r past
unfolding StoodOrOpened
start-rules d client past r anew = record {
  asks_open = tt;
  opened = λ t a at n ring m is.
      ends-meet (MetBy d client) (Queried (StandsOn d client past r) n ring r) t
      (ask_each (queries d n) r.view)
      (λ u calls asked run ends own stood.
      let same : client ≡ n = sym own ∙ client-of-queried n ring r asked in
      stands-opened d past t u r a at n ring asked calls (anew n)
      (rw same at m) is
      (rw same at (run-met d client t u calls run)) ends);
  refused = λ t a m other own stood.
      stands-stopped d past t r (record { step = Open; answer = a }) a.reply refl
      (rw own m) stood;
}

-- a reader stands after a start that opened a client, and after any start where it stood
pub stands-after-start : (d : Description) (past after : List Step) (r : ReaderState) (calls : List Call)
    (result : Started × ReaderState) → ((client : ℕ) → IsMadeAnew d client r.view)
    → AreMet d result.1.client past after calls → StoodOrOpened d past r result.0
    → EndsWith (start_talk d r) calls result → IsOpenInStep d after result.1
stands-after-start d past after r calls result anew m stood ends =
    let client : ℕ = result.1.client in
    meets-ends Any (MetBy d client) (StandsOn d client past r) past after (start_talk d r) calls result
    (start-meets Any (MetBy d client) (StandsOn d client past r) d r past (start-rules d client past r anew))
    (met-run d client past after calls m) ends refl stood

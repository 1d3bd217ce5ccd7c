-- The events that a reader has at hand are the last ones that its client took, and the index of the next is
-- its own.
use Rattle.std.proofs.Common.{◌≡◌, ℕ, suc, ◌+◌, Bool, true, false, if◌then◌else◌, List, [], ◌∷◌, ◌++◌, length}
use Rattle.std.proofs.Common.{map, refl, ◌∙◌, arith, Option, Some, ◌⊎◌, inl, inr, ◌-◌, drop, reverse, sym}
use Rattle.std.proofs.Common.{append-nil, append_assoc, length-append, None}
use Rattle.std.proofs.lemmas.Bool.{false≢true}
use Rattle.inp_reader.specs.Reader.{sync_talk}
use Rattle.inp_reader.proofs.Meets.{meets-always}
use Rattle.inp_runs.proofs.Common.{option_map, Refused, Result, Ok, Err, eq-eqb, Taken, Step, Reply}
use Rattle.inp_runs.proofs.Common.{is_accepted, Answer, IsAnswer, answer, refused, taken_of, place_of, Call}
use Rattle.inp_runs.proofs.Common.{HasPlace, next_place, client_of, is_use, is_read, is_use_of, Sight, Took}
use Rattle.inp_runs.proofs.Common.{call_sight, taken_sight, LastRead, is_read_as, reads_as, index_in_history}
use Rattle.inp_runs.proofs.Common.{ShowsAt, Description, View, Mode, Success, Dropped, ReaderState, stop_of}
use Rattle.inp_runs.proofs.Common.{next_talk, EndsWith, Any, Listed, listed-run, length-map, map-append}
use Rattle.inp_runs.proofs.Common.{past_at, eaten, noted_sight}
use Rattle.std.specs.Prelude.{slice_get}
use Rattle.inp_model.specs.declared.step.Step.TheVariants.{Read}
use Rattle.inp_model.specs.declared.reply.Reply.TheVariants.{Again as NothingVisible}
use Rattle.inp_runs.specs.JobViews.{read_after_sight, read_after_entry, index_behind}
use Rattle.inp_reader.specs.declared.next.Next.{Next}
use Rattle.inp_reader.proofs.NextWalk.{Renewed, NextRules, next-ends, stop-cases}
use Rattle.inp_model.specs.Queue.{Entry, taken_by, took, took_with}
use Rattle.inp_recon.specs.Synchronised.{is_dropped}
use Rattle.inp_recon.proofs.ReadEntries.{entry-took}
use Rattle.inp_runs.proofs.losses.Causes.{all_taken-caused}
use Rattle.inp_model.proofs.Refused.{unrefused_by}
use Rattle.inp_reader.proofs.ClientViews.{idle-taken, used-taken}
use Rattle.inp_reader.proofs.PastsAtCalls.{AreQuiet, IsMet}
use Rattle.inp_runs.proofs.views.Reports.{sight_told, whole-past, AreToCome, to-come-behind, past-entered}
use Rattle.inp_runs.proofs.views.Reports.{place_behind, place_behind-append}
use Rattle.inp_joy.proofs.Lists.{slice_get-left}
use Rattle.inp_runs.proofs.views.Shown.{HasLossCause, IsOwnEvent}

-- one event more behind a read
abbrev pub one_event_more : LastRead → LastRead
one_event_more read = record read { events = suc read.events }

-- a read of which no event was handed out yet
abbrev pub read_at : Reply → LastRead
read_at reply = record { place = place_of reply; events = 0 }

-- two sights in a row are gone through one after the other
pub read_after-append : (client : ℕ) (last : Option LastRead) (xs ys : List Sight)
    → read_after_sight client last (xs ++ ys) ≡ read_after_sight client (read_after_sight client last xs) ys
unfolding read_after_sight
read_after-append client last [] ys = refl
read_after-append client last (entry ∷ xs) ys =
    read_after-append client (read_after_entry client last entry) xs ys

-- an event that was taken counts as one more behind the last read
pub read_after-took : (client : ℕ) (last : Option LastRead) (taken : Taken)
    → read_after_sight client last (Took taken ∷ []) ≡ option_map one_event_more last
unfolding read_after_sight
read_after-took client last taken = refl

module _ (client : ℕ) (last : Option LastRead) (x : Step) where
  -- a call that is no read as the client leaves the last read as it was
  pub read_after-other : (reply : Reply) → is_read_as client x ≡ false
      → read_after_sight client last (call_sight x reply) ≡ last
  unfolding read_after_sight
  read_after-other (NothingVisible at n) h = refl
  read_after-other reply h = rw h

  -- the same, where the entry of an answer Again may follow
  pub read_after-told : (reply : Reply) → is_read_as client x ≡ false
      → read_after_sight client last (sight_told x reply) ≡ last
  unfolding read_after_sight
  read_after-told (NothingVisible at n) h = refl
  read_after-told reply h = rw h

  pub read_after-read : (reply : Reply) → is_read_as client x ≡ true → is_accepted reply ≡ true
      → read_after_sight client last (sight_told x reply) ≡ Some (read_at reply)
  unfolding read_after_sight
  read_after-read (NothingVisible at n) h k = absurd cc
  read_after-read (Refused at why) h k = absurd cc
  read_after-read reply h k = rw h

  pub read_after-call : (reply : Reply) → is_read_as client x ≡ true → is_accepted reply ≡ true
      → read_after_sight client last (call_sight x reply) ≡ Some (read_at reply)
  unfolding read_after_sight
  read_after-call (NothingVisible at n) h k = absurd cc
  read_after-call (Refused at why) h k = absurd cc
  read_after-call reply h k = rw h

-- the events of a read stand behind it
pub read_after-takens : (client place events : ℕ) (taken : List Taken)
    → read_after_sight client (Some (record { place = place; events = events })) (map taken_sight taken)
    ≡ Some (record { place = place; events = events + length taken })
unfolding read_after_sight
read_after-takens client place events [] =
    let same : events ≡ events + 0 = omega arith in
    rw (← same)
read_after-takens client place events (t ∷ taken) =
    let same : suc events + length taken ≡ events + suc (length taken) = omega arith in
    rw (read_after-takens client place (suc events) taken, same)

-- a read of a client is one as this client
pub read-as : (client : ℕ) (x : Step) → is_read x ≡ true → client_of x ≡ Some client
    → is_read_as client x ≡ true
read-as client (Read named count) h is = let same : named ≡ client = cc in eq-eqb named client same
read-as client _ h is = absurd cc

-- a step that reads nothing is no read
pub unused-unread : (client : ℕ) (x : Step) → is_use x ≡ false → is_read_as client x ≡ false
unused-unread client (Read named count) h = absurd cc
unused-unread client _ h = refl

-- the queue before the event of this answer was handed out
abbrev pub with_handed : Next → List Taken → List Taken
with_handed (Success taken) queue = taken ∷ queue
with_handed (Dropped taken) queue = taken ∷ queue
with_handed _ queue = queue

-- The last of these calls is an accepted read, and gave these events.
pub record EndsWithRead (client : ℕ) (calls : List Call) (events : List Taken) : Type 0 where
  -- the calls before the last one
  pub first : List Call
  -- the last read
  pub read : Call
  -- the two parts, one behind the other, are the whole
  pub whole : calls ≡ first ++ read ∷ []
  -- it is a read of up to 64 events as the client
  pub step : read.step ≡ Read client 64
  -- it was accepted
  pub accepted : is_accepted read.answer.reply ≡ true
  -- it gave these events
  pub given : read.answer.events ≡ events

-- there is none, or no call was made and they are those of before, or the last call read them
abbrev pub ComeFrom : ℕ → List Taken → List Call → List Taken → Type 0
ComeFrom client old calls events =
    (events ≡ []) ⊎ (((calls ≡ []) × (events ≡ old)) ⊎ EndsWithRead client calls events)

-- what a reader has at hand, behind these calls
abbrev IsSourced : ℕ → List Taken → List Call → ReaderState → Type 0
IsSourced client old calls r = (r.client ≡ client) × ComeFrom client old calls r.queue

-- and with the event that it handed out
abbrev HandsSourced : ℕ → List Taken → List Call → Next × ReaderState → Type 0
HandsSourced client old calls o = ComeFrom client old calls (with_handed o.0 o.1.queue)

-- a stop is no event
stopped : (reply : Reply) (queue : List Taken) → with_handed (stop_of reply) queue ≡ queue
stopped reply queue =
    stop-cases (λ next. with_handed next queue ≡ queue) reply (λ at ends is. refl) refl refl (λ at. refl)

sourced-rules : (client : ℕ) (old : List Taken) (d : Description) (mode : Mode)
    → NextRules Any Listed (IsSourced client old) (HandsSourced client old) d mode
sourced-rules client old d mode = record {
  asks_read = λ s r h. tt;
  reads =
      λ s t r a h plain empty by is. (
        h.0,
        inr
            (inr (record {
              first = s;
              read = record { step = Read r.client 64; answer = a };
              whole = by;
              step = rw h.0;
              accepted = is;
              given = refl;
            })),
      );
  stops = λ s t r a h plain empty by is. inl (stopped a.reply r.queue ∙ empty);
  hands = λ s r taken rest h plain q is. rw q at h.1;
  loses = λ s r taken rest h plain q is. rw q at h.1;
  empty = λ s r h plain q. h.1;
  idles = λ s r h plain is. h.1;
  syncs = λ s r h needed. meets-always Listed (Renewed (IsSourced client old) (HandsSourced client old) r) s
      (sync_talk d r) (renewed r h.0);
  makes = λ s r event left h handing sync is. h.1;
  made_all = λ s r h handing sync is. h.1;
  goes_on = λ s r h handing is. h;
}
  where
    renewed : (r : ReaderState) → r.client ≡ client → (t : List Call) (asked : Result View Reply)
        → Renewed (IsSourced client old) (HandsSourced client old) r t asked
    renewed r same t (Ok view) = (same, inl refl)
    renewed r same t (Err reply) = inl (stopped reply [])

-- only a read fills a reader's queue, a synchronisation empties it, and else it stays
pub next-sources : (d : Description) (mode : Mode) (r s : ReaderState) (next : Next) (calls : List Call)
    → EndsWith (next_talk d mode r) calls (next, s)
    → ComeFrom r.client r.queue calls (with_handed next s.queue)
next-sources d mode r s next calls ends =
    next-ends Any Listed (IsSourced r.client r.queue) (HandsSourced r.client r.queue) d mode
    (sourced-rules r.client r.queue d mode) [] calls r calls (next, s) (refl, inr (inl (refl, refl)))
    (listed-run [] calls) ends

-- ---- an event that a job took

module _ (d : Description) (h : List Step) (sight : List Sight) (taken : Taken) where
  -- so it has its cause, if it tells of a loss
  pub own-caused : IsOwnEvent d h sight taken → is_dropped taken.event ≡ true → HasLossCause d h sight taken
  own-caused o lost =
      let client : ℕ = reads_as sight in
      rw o.is_taken at
      (all_taken-caused d (reverse h) client o.index o.at.entry
      (entry-took (eaten d) d (reverse h) client o.index o.at o.is_at) (rw o.is_taken lost))

  -- a view that is shown at the event's own index tells so
  pub shown-own : (view : View)
      → ShowsAt d (reverse h) (reads_as sight) (index_in_history d h sight) taken view
      → IsOwnEvent d h sight taken
  shown-own view s =
      record { index = s.index; is_own = s.is_own; at = s.at; is_at = s.is_at; is_taken = s.is_taken }

-- the index of an event that a reader handed out
pub index-took : (d : Description) (h : List Step) (client : ℕ) (sight : List Sight) (taken : Taken)
    → reads_as (sight ++ Took taken ∷ []) ≡ client
    → index_in_history d h (sight ++ Took taken ∷ [])
    ≡ option_map (index_behind d h client) (option_map one_event_more (read_after_sight client None sight))
index-took d h client sight taken reads = rw (reads, read_after-append, read_after-took)

-- the index of the last of some events that a read gave
pub index-read : (d : Description) (h : List Step) (client : ℕ) (sight : List Sight) (x : Step)
    (reply : Reply) (taken : List Taken)
    → reads_as ((sight ++ (sight_told x reply)) ++ map taken_sight taken) ≡ client
    → is_read_as client x ≡ true → is_accepted reply ≡ true
    → index_in_history d h ((sight ++ (sight_told x reply)) ++ map taken_sight taken)
    ≡ Some (length (took d (past_at h (place_of reply)) client) + ((0 + length taken) - 1))
index-read d h client sight x reply taken reads own good =
    let told : List Sight = sight_told x reply in
    rw (reads, read_after-append, read_after-append, read_after-read, read_after-takens)

-- ---- accepted answers

module _ (d : Description) where
  -- an accepted answer does not lack memory, so it is the device's, and nothing refused the step
  pub accepted-exact : (past : List Step) (x : Step) (given : Answer) → IsAnswer d past x given
      → is_accepted given.reply ≡ true → (given ≡ answer d past x) × (refused d past x ≡ None)
  accepted-exact past x given (inl e) h = (e, unrefused_by d past x (refused d past x) refl (rw (← e) h))
  accepted-exact past x given (inr l) h = absurd (false≢true (rw l.2 at h))

  -- ---- what a client took

  -- what it took stays in front
  took-front : (more past : List Step) (client : ℕ)
      → (rest : List Entry) × (took d (more ++ past) client ≡ took d past client ++ rest)
  unfolding took_with
  took-front [] past client = ([], sym (append-nil (took d past client)))
  took-front (x ∷ more) past client =
      let r = took-front more past client in
      let here : List Entry = taken_by d (more ++ past) client x in
      (r.0 ++ here, rw r.1 (append_assoc (took d past client) r.0 here))

  -- what a client takes later comes behind what it took before
  pub taken-later : (h : List Step) (at client i : ℕ) (taken : Taken)
      → slice_get (map taken_of (took d (past_at h at) client)) i ≡ Some taken
      → slice_get (map taken_of (took d (reverse h) client)) i ≡ Some taken
  taken-later h at client i taken is =
      let past : List Step = past_at h at in
      let r = took-front (reverse (drop at h)) past client in
      rw (whole-past h at, r.1, map-append)
      (slice_get-left (map taken_of (took d past client)) (map taken_of r.0) i taken is)

  -- steps of others take nothing from it
  quiet-took : (client : ℕ) (others past : List Step) → AreQuiet client others
      → took d (others ++ past) client ≡ took d past client
  unfolding took_with AreQuiet
  quiet-took client [] past quiet = refl
  quiet-took client (x ∷ others) past quiet =
      rw (idle-taken d (others ++ past) client x quiet.0, append-nil) (quiet-took client others past quiet.1)

  entered-took : (client : ℕ) (b : Bool) (x : Step) (past : List Step) → is_use_of client x ≡ false
      → took d (if b then x ∷ past else past) client ≡ took d past client
  unfolding took_with
  entered-took client true x past unused = rw idle-taken (append-nil (took d past client))
  entered-took client false x past unused = refl

  -- nor does a call that is no use of it
  pub met-took : (client : ℕ) (past after : List Step) (call : Call) → IsMet d client past after call
      → is_use_of client call.step ≡ false → took d after client ≡ took d past client
  met-took client past after call m unused =
      rw (m.entered, entered-took) (quiet-took client m.others past m.quiet)

-- ---- what is at hand

-- The events at hand are the last that the client took before this place. Before them stand as many as it had
-- taken before the last read and the sight took behind it.
pub record IsRest (d : Description) (h : List Step) (least client : ℕ) (last : Option LastRead)
    (queue : List Taken) : Type 0 where
  -- the last read
  pub read : LastRead
  -- it is the last one of the sight
  pub is_last : last ≡ Some read
  -- what the client took before the events at hand
  pub before : List Taken
  -- as many as it had taken before the last read and the sight took behind it
  pub count : length before ≡ length (took d (past_at h read.place) client) + read.events
  -- the two parts, one behind the other, are the whole
  pub whole : map taken_of (took d (past_at h least) client) ≡ before ++ queue

abbrev pub AreAtHand : Description → List Step → ℕ → ℕ → Option LastRead → List Taken → Type 0
AreAtHand d h least client last queue = (queue ≡ []) ⊎ IsRest d h least client last queue

-- where the client took nothing in between
pub hand-kept : (d : Description) (h : List Step) (least at client : ℕ) (last : Option LastRead)
    (queue : List Taken) → took d (past_at h at) client ≡ took d (past_at h least) client
    → AreAtHand d h least client last queue → AreAtHand d h at client last queue
hand-kept d h least at client last queue same (inl none) = inl none
hand-kept d h least at client last queue same (inr r) =
    inr (record {
      read = r.read;
      is_last = r.is_last;
      before = r.before;
      count = r.count;
      whole = rw same r.whole;
    })

module _ (d : Description) (h : List Step) (least client : ℕ) (last : Option LastRead) (taken : Taken)
    (queue : List Taken) where
  -- what the client took before this place
  abbrev had : List Entry
  had = took d (past_at h least) client

  -- a first event at hand
  pub hand-first : AreAtHand d h least client last (taken ∷ queue)
      → IsRest d h least client last (taken ∷ queue)
  hand-first (inl none) = absurd cc
  hand-first (inr r) = r

  -- once it was handed out
  pub hand-took : IsRest d h least client last (taken ∷ queue)
      → IsRest d h least client (option_map one_event_more last) queue
  hand-took r = record {
    read = one_event_more r.read;
    is_last = rw r.is_last;
    before = r.before ++ taken ∷ [];
    count = omega (arith, length-append r.before (taken ∷ []), r.count);
    whole = r.whole ∙ sym (append_assoc r.before (taken ∷ []) queue);
  }

  hand-length : (r : IsRest d h least client last (taken ∷ queue))
      → length had ≡ length r.before + suc (length queue)
  hand-length r = rw (← length-map had taken_of, r.whole) (length-append r.before (taken ∷ queue))

  -- its own index is the one before those that are left
  pub hand-index : IsRest d h least client last (taken ∷ queue)
      → option_map (index_behind d h client) (option_map one_event_more last)
      ≡ Some (length had - (length queue + 1))
  hand-index r =
      let T : ℕ = length (took d (past_at h r.read.place) client) in
      let same : T + (suc r.read.events - 1) ≡ length had - (length queue + 1) =
      omega (arith, hand-length r, r.count) in
      rw (r.is_last, same)

  -- the events at hand stand behind those before them, so the first of them has that index
  pub hand-taken : IsRest d h least client last (taken ∷ queue)
      → slice_get (map taken_of had) (length had - (length queue + 1)) ≡ Some taken
  hand-taken r =
      let same : length had - (length queue + 1) ≡ length r.before = omega (arith, hand-length r) in
      rw (same, r.whole) (behind r.before)
    where
      behind : (before : List Taken) → slice_get (before ++ taken ∷ queue) (length before) ≡ Some taken
      behind [] = refl
      behind (t ∷ before) = behind before

-- ---- a reader's calls

noted-last : (client : ℕ) (last : Option LastRead) (first : List Call) (read : Call)
    → is_read_as client read.step ≡ true → is_accepted read.answer.reply ≡ true
    → read_after_sight client last (noted_sight (first ++ read ∷ [])) ≡ Some (read_at read.answer.reply)
noted-last client last [] read own good =
    rw append-nil (read_after-call client last read.step read.answer.reply own good)
noted-last client last (call ∷ first) read own good =
    read_after-append client last (call_sight call.step call.answer.reply) (noted_sight (first ++ read ∷ []))
    ∙ noted-last client (read_after_sight client last (call_sight call.step call.answer.reply))
    first read own good

module _ (d : Description) (h : List Step) (Q : ℕ → Type 0) where
  -- an accepted read, of which nothing is handed out yet
  read-rest : (least client : ℕ) (last : Option LastRead) (read : Call) (events : List Taken)
      → HasPlace d h read → read.step ≡ Read client 64 → is_accepted read.answer.reply ≡ true
      → read.answer.events ≡ events → last ≡ Some (read_at read.answer.reply)
      → least ≡ next_place read.answer.reply → IsRest d h least client last events
  unfolding took_with
  read-rest least client last read events placed step good given is at =
      let past : List Step = past_at h (place_of read.answer.reply) in
      let exact = accepted-exact d past read.step read.answer placed.exact good in
      let x : Step = Read client 64 in
      let accepts : refused d past x ≡ None = rw step at exact.1 in
      let told : map taken_of (taken_by d past client x) ≡ events =
      rw (exact.0, step, ← used-taken d past client x accepts (eq-eqb client client refl)) at given in
      let entered : past_at h least ≡ x ∷ past = rw (at, past-entered d h read placed, good, step) in
      record {
        read = read_at read.answer.reply;
        is_last = is;
        before = map taken_of (took d past client);
        count = omega (arith, length-map (took d past client) taken_of);
        whole = rw (entered, map-append, told);
      }

  -- what a reader's calls leave at hand
  pub next-hand : (least client : ℕ) (last : Option LastRead) (old events : List Taken)
      (calls more : List Call) → AreToCome d h Q least (calls ++ more) → AreAtHand d h least client last old
      → ComeFrom client old calls events
      → AreAtHand d h (place_behind least calls) client
      (read_after_sight client last (noted_sight calls)) events
  unfolding read_after_sight
  next-hand least client last old events calls more c hand (inl none) = inl none
  next-hand least client last old events calls more c hand (inr (inl same)) = rw (same.0, same.1) hand
  next-hand least client last old events calls more c hand (inr (inr l)) =
      let here : AreToCome d h Q least (l.first ++ (l.read ∷ more)) = rw (l.whole, append_assoc) at c in
      let last_one : AreToCome d h Q (place_behind least l.first) (l.read ∷ more) =
      to-come-behind d h Q least l.first (l.read ∷ more) here in
      let placed : HasPlace d h l.read = last_one.legal.1 in
      let own : is_read_as client l.read.step ≡ true = rw l.step (eq-eqb client client refl) in
      inr (rw l.whole (read-rest _ client _ l.read events placed l.step l.accepted l.given
      (noted-last client last l.first l.read own l.accepted)
      (place_behind-append least l.first (l.read ∷ []))))

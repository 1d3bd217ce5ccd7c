-- How many steps a `follow` that does not wait adds to the history of its device.
use Rattle.std.proofs.Common.{◌≡◌, ◌≤◌, ◌<◌, ℕ, zero, suc, ◌+◌, ◌-◌, ◌*◌, Bool, true, false, nat_eq, List, []}
use Rattle.std.proofs.Common.{◌∷◌, length, refl, sym, ap, ◌∙◌, arith, ◌⊎◌, inl, inr, Option, Some, None}
use Rattle.std.specs.Prelude.{Result, Ok, Err}
use Rattle.std.proofs.lemmas.Bool.{cond_both}
use Rattle.inp_script.specs.Client.{hand_talk}
use Rattle.inp_script.proofs.Common.{Taken, Step, Reply, View, Mode, Phase, Next, ReaderState}
use Rattle.inp_script.proofs.Common.{start_talk, next_talk, stop_of, lacks_memory, Description, Answer}
use Rattle.inp_script.proofs.Common.{answer, past_after, is_accepted, Job, call_if, tap_call_if, Event, Plain}
use Rattle.inp_script.proofs.Common.{Talk, finish, ask, talk_with, LineProgress, turn_after, after_next}
use Rattle.inp_script.proofs.Common.{mode_of, next_round, start_job, start_joystick}
use Rattle.inp_script.specs.declared.sight.Sight.{Sight}
use Rattle.inp_model.specs.declared.step.Step.TheVariants.{Open, Read, Discard}
use Rattle.inp_model.specs.Queue.{event_of, visible, queue}
use Rattle.inp_model.proofs.Allowed.{allowed}
use Rattle.inp_runs.proofs.losses.Causes.{queue-room}
use Rattle.inp_reader.specs.declared.next.Next.TheVariants.{Success, Dropped, Sync, Synced}
use Rattle.inp_reader.specs.ReaderPlace.{is_needed}
use Rattle.inp_reader.proofs.Meets.{Meets, Any, meets-weaker}
use Rattle.inp_reader.proofs.NextWalk.{AskRules, Queried, start-meets, asked-meets, sync-by_parts, Renewed}
use Rattle.inp_reader.proofs.NextWalk.{NextRules, next-meets, stop-cases}
use Rattle.inp_script.proofs.JoyWalk.{start_joystick-meets}
use Rattle.inp_script.proofs.LineWalk.{NotedBy, note-meets, OfJob, OfTurn, start_job-meets, round-meets}
use Rattle.inp_script.proofs.LineWalk.{rounds-meets}
use Rattle.inp_script.proofs.Replies.{answer_has}
use Rattle.inp_play.proofs.OwnQueues.{IsQuiet, visible-le, read-leaves, discard-leaves}
use Rattle.inp_reader.specs.Reader.{queries}
use Rattle.inp_model.specs.Description.{ring}
use Rattle.inp_reader.specs.declared.phase.Phase.TheVariants.{Needed}

-- Calls that the one-thread device answers, each after those before it

abbrev pub Exact : Description → List Step → Step → Answer → List Step → Type 0
Exact d past x a after = (a ≡ answer d past x) × (after ≡ past_after a.reply x past)

-- what holds where each answer is the one-thread device's holds of the talk with it
pub meets-with : {A : Type 0} (d : Description) (Q : List Step → A → Type 0) (past : List Step)
    (talk : Talk A) → Meets Any (Exact d) Q past talk → Q (talk_with d past talk).1 (talk_with d past talk).0
unfolding talk_with
meets-with d Q past (finish a) h = h
meets-with d Q past (ask x rest) h =
    let after : List Step = past_after (answer d past x).reply x past in
    meets-with d Q after (rest (answer d past x)) (h.1 after (answer d past x) (refl, refl))

entered : (d : Description) (past after : List Step) (x : Step) (a : Answer) → Exact d past x a after
    → is_accepted a.reply ≡ true → after ≡ x ∷ past
entered d past after x a by is = rw (by.1, is)

left_out : (d : Description) (past after : List Step) (x : Step) (a : Answer) → Exact d past x a after
    → is_accepted a.reply ≡ false → after ≡ past
left_out d past after x a by is = rw (by.1, is)

one_more : (d : Description) (past after : List Step) (x : Step) (a : Answer) → Exact d past x a after
    → length after ≤ length past + 1
one_more d past after x a by =
    rw by.1
    (cond_both (is_accepted a.reply) (x ∷ past) past (λ (p : List Step). length p ≤ length past + 1)
    (λ _. omega arith) (λ _. omega arith))

-- Asking for steps in order

-- none of the steps leaves anything visible to the client where nothing was
abbrev pub AreQuiet : Description → ℕ → List Step → Type 0
AreQuiet d client [] = Unit {0}
AreQuiet d client (x ∷ xs) = IsQuiet d client x × AreQuiet d client xs

-- A description whose queries are few, and leave nothing visible to a client where nothing was.
pub record HasQueries (d : Description) (most : ℕ) : Type 0 where
  -- whatever the client, its queries are at most so many
  pub few : (client : ℕ) → length (queries d client) ≤ most
  -- none of them leaves anything visible to the client where nothing was
  pub quiet : (client : ℕ) → AreQuiet d client (queries d client)

abbrev IsNone : Description → List Step → ℕ → Type 0
IsNone d past client = visible event_of (queue d past client) ≡ 0

-- nothing is visible to the client, and nothing will be behind the steps that are left, which are few
abbrev QuietSoFar : Description → ℕ → ℕ → List Step → View → List Step → Type 0
QuietSoFar d client bound past view left =
    (length past + length left ≤ bound) × AreQuiet d client left × IsNone d past client

quiet-asks : (d : Description) (client bound : ℕ) (Q : List Step → Result View Reply → Type 0)
    → ((past : List Step) (view : View) → length past ≤ bound → IsNone d past client → Q past (Ok view))
    → ((past : List Step) (reply : Reply) → length past ≤ bound → Q past (Err reply))
    → AskRules Any (Exact d) (QuietSoFar d client bound) Q
quiet-asks d client bound Q whole stopped = record {
  asks = λ s view x xs j. tt;
  told = λ s t view x xs a j by is.
      let after : t ≡ x ∷ s = entered d s t x a by is in
      (omega (arith, j.0, ap length after), j.1.1, rw after (j.1.0 s j.2));
  stopped = λ s t view x xs a j by is. stopped t a.reply (omega (arith, j.0, one_more d s t x a by));
  whole = λ s view j. whole s view (omega (arith, j.0)) j.2;
}

-- Reading

-- a read that is accepted found something
read-found : (d : Description) (past : List Step) (client count : ℕ)
    → is_accepted (answer d past (Read client count)).reply ≡ true
    → visible event_of (queue d past client) ≡ 0 → ⊥
read-found d past client count h none =
    answer_has (λ a. is_accepted a.reply ≡ true → ⊥) d past (Read client count)
    (λ refusal is e. let k : false ≡ true = sym is.accepted ∙ e in cc)
    (λ unrefused e.
    let some : nat_eq (visible event_of (queue d past client)) 0 ≡ false =
    (allowed d past (Read client count) unrefused).found in
    let never : false ≡ true = rw (← some, none) in
    cc)
    h

-- What a follow has left to do

-- so many reads at most, and a synchronisation
pub record IsAhead (d : Description) (most : ℕ) (past : List Step) (client k : ℕ) : Type 0 where
  -- how many reads it may still make
  pub reads : ℕ
  -- a read takes up to 64 events, so the reads take all that is visible
  pub enough : visible event_of (queue d past client) ≤ 64 * reads
  -- the reads, a Discard and the queries are no more than the steps left
  pub within : reads + suc most ≤ k

-- no step at all
pub record IsSpent (d : Description) (past : List Step) (r : ReaderState) : Type 0 where
  -- the reader has no event at hand
  pub empty : r.queue ≡ []
  pub unneeded : is_needed r.phase ≡ false
  -- nothing is visible in the client's queue
  pub none : visible event_of (queue d past r.client) ≡ 0

abbrev IsLeft : Description → ℕ → List Step → ReaderState → ℕ → Type 0
IsLeft d most past r k = IsAhead d most past r.client k ⊎ IsSpent d past r

-- The line goes on with less left to do.
record GoesOn (d : Description) (most bound : ℕ) (past : List Step) (r : ReaderState) : Type 0 where
  left : ℕ
  is_left : IsLeft d most past r left
  within : length past + left ≤ bound

-- the answer of a reader ends a line that does not wait
abbrev is_last : Next → Bool
is_last (Success taken) = false
is_last (Dropped taken) = false
is_last (Sync event) = false
is_last Synced = false
is_last _ = true

-- what comes of a round, where the history is to stay within a bound
abbrev IsRound : Description → ℕ → ℕ → List Step → Next × ReaderState → Type 0
IsRound d most bound past o = ((is_last o.0 ≡ true) × (length past ≤ bound)) ⊎ GoesOn d most bound past o.1

last-stop : (reply : Reply) → is_last (stop_of reply) ≡ true
last-stop reply = stop-cases (λ next. is_last next ≡ true) reply (λ at ends is. refl) refl refl (λ at. refl)

-- one read less is left
fewer : (d : Description) (most : ℕ) (past : List Step) (client k : ℕ) → IsAhead d most past client k
    → (visible event_of (queue d past client) ≡ 0 → ⊥)
    → (1 ≤ k) × IsAhead d most (Read client 64 ∷ past) client (k - 1)
fewer d most past client k ahead some = by_reads ahead.reads ahead.enough ahead.within
  where
    by_reads : (reads : ℕ) → visible event_of (queue d past client) ≤ 64 * reads → reads + suc most ≤ k
        → (1 ≤ k) × IsAhead d most (Read client 64 ∷ past) client (k - 1)
    by_reads zero enough within = absurd (some (omega (arith, enough)))
    by_reads (suc reads) enough within = (
      omega (arith, within),
      record {
        reads = reads;
        enough = omega (arith, read-leaves d past client 64, enough);
        within = omega (arith, within);
      },
    )

-- A round

within : (d : Description) (most bound : ℕ) (past : List Step) (r : ReaderState) → GoesOn d most bound past r
    → length past ≤ bound
within d most bound past r i = omega (arith, i.within)

-- nothing else was known of the reader
with_left : (d : Description) (most bound : ℕ) (past : List Step) (r : ReaderState) (phase : Phase)
    (events : List Event) → is_needed phase ≡ false → GoesOn d most bound past r
    → GoesOn d most bound past (record r { phase = phase; left = events })
with_left d most bound past r phase events unneeded i = record {
  left = i.left;
  is_left = elim i.is_left [
    | inl ahead ↦ inl ahead
    | inr spent ↦ inr (record { empty = spent.empty; unneeded = unneeded; none = spent.none })
  ];
  within = i.within;
}

-- a reader that has events at hand is to read on
ahead-of : (d : Description) (most k : ℕ) (past : List Step) (r : ReaderState) (taken : Taken)
    (rest : List Taken) → r.queue ≡ taken ∷ rest → IsLeft d most past r k → IsAhead d most past r.client k
ahead-of d most k past r taken rest q (inl ahead) = ahead
ahead-of d most k past r taken rest q (inr spent) =
    absurd (let never : [] ≡ taken ∷ rest = sym spent.empty ∙ q in cc)

-- so is one that is to synchronise
ahead-needed : (d : Description) (most k : ℕ) (past : List Step) (r : ReaderState) → r.phase ≡ Needed
    → IsLeft d most past r k → IsAhead d most past r.client k
ahead-needed d most k past r needed (inl ahead) = ahead
ahead-needed d most k past r needed (inr spent) =
    absurd (let never : false ≡ true = sym spent.unneeded ∙ ap is_needed needed in cc)

after-read : (d : Description) (most bound : ℕ) (s t : List Step) (r : ReaderState) (a : Answer)
    → Exact d s (Read r.client 64) a t → is_accepted a.reply ≡ true → GoesOn d most bound s r
    → GoesOn d most bound t (record r { queue = a.events })
after-read d most bound s t r a by is i =
    let some : IsNone d s r.client → ⊥ = read-found d s r.client 64
    (rw by.0 at is) in
    elim i.is_left [
      | inl ahead ↦
          (let less = fewer d most s r.client i.left ahead some in
          rw (entered d s t (Read r.client 64) a by is)
          (record { left = i.left - 1; is_left = inl less.1; within = omega (arith, less.0, i.within) }))
      | inr spent ↦ absurd (some spent.none)
    ]

follow-rules : (d : Description) (most bound : ℕ) (mode : Mode) → HasQueries d most
    → NextRules Any (Exact d) (GoesOn d most bound) (IsRound d most bound) d mode
follow-rules d most bound mode has = record {
  asks_read = λ s r i. tt;
  reads = λ s t r a i plain none by is. after-read d most bound s t r a by is i;
  stops = λ s t r a i plain none by is.
      inl (last-stop a.reply, rw (left_out d s t (Read r.client 64) a by is) (within d most bound s r i));
  hands = λ s r taken rest i plain q is.
      inr (record {
        left = i.left;
        is_left = inl (ahead-of d most i.left s r taken rest q i.is_left);
        within = i.within;
      });
  loses = λ s r taken rest i plain q is.
      inr (record {
        left = i.left;
        is_left = inl (ahead-of d most i.left s r taken rest q i.is_left);
        within = i.within;
      });
  empty = λ s r i plain q. inl (refl, within d most bound s r i);
  idles = λ s r i plain is. inr i;
  syncs = λ s r i needed.
      let Q : List Step → Result View Reply → Type 0 =
      Renewed (GoesOn d most bound) (IsRound d most bound) r in
      let ahead = ahead-needed d most i.left s r needed i.is_left in
      let room : length s + suc most ≤ bound = omega (arith, ahead.within, i.within) in
      let asks : AskRules Any (Exact d) (QuietSoFar d r.client bound) Q =
      quiet-asks d r.client bound Q
      (λ p view most_ none.
      record {
        left = 0;
        is_left = inr (record { empty = refl; unneeded = refl; none = none });
        within = omega (arith, most_);
      })
      (λ p reply most_. inl (last-stop reply, most_)) in
      sync-by_parts Any (Exact d) Q d r s (record {
        asks_discard = tt;
        discarded = λ t a by is.
            let after : t ≡ Discard r.client ∷ s = entered d s t (Discard r.client) a by is in
            asked-meets Any (Exact d) (QuietSoFar d r.client bound) Q asks t (queries d r.client) r.view (
              omega (arith, has.few r.client, room, ap length after),
              has.quiet r.client,
              rw after (discard-leaves d s r.client),
            );
        refused = λ t a by is.
            inl (last-stop a.reply, omega (arith, room, one_more d s t (Discard r.client) a by));
      });
  makes = λ s r event left i handing sync is.
      inr (with_left d most bound s r r.phase left (ap is_needed handing) i);
  made_all = λ s r i handing sync is. inr (with_left d most bound s r Plain [] refl i);
  goes_on = λ s r i handing is. with_left d most bound s r Plain [] refl i;
}

-- All rounds

-- the history of a job
abbrev pub Within : ℕ → List Step → Job → Type 0
Within bound past j = length past ≤ bound

-- a line without a number, in its midst
abbrev InMidst : Description → ℕ → ℕ → List Step → LineProgress → Type 0
InMidst d most bound past g = (g.left ≡ None) × GoesOn d most bound past g.job.reading

follow-turn : (d : Description) (most bound agains : ℕ) (past : List Step) (next : Next) (j : Job)
    → IsRound d most bound past (next, j.reading)
    → OfTurn (Within bound) (InMidst d most bound) past (turn_after None None agains next j)
follow-turn d most bound agains past next j round = by next (on round) (last round)
  where
    on : IsRound d most bound past (next, j.reading) → is_last next ≡ false
        → GoesOn d most bound past j.reading
    on (inl ends) e = absurd (let never : false ≡ true = sym e ∙ ends.0 in cc)
    on (inr goes) e = goes

    last : IsRound d most bound past (next, j.reading) → length past ≤ bound
    last (inl ends) = ends.1
    last (inr goes) = within d most bound past j.reading goes

    by : (n : Next) → (is_last n ≡ false → GoesOn d most bound past j.reading) → length past ≤ bound
        → OfTurn (Within bound) (InMidst d most bound) past (turn_after None None agains n j)
    by (Success taken) goes ends = (refl, goes refl)
    by (Dropped taken) goes ends = (refl, goes refl)
    by (Sync event) goes ends = (refl, goes refl)
    by Synced goes ends = (refl, goes refl)
    by _ goes ends = ends

follow-round : (d : Description) (most bound : ℕ) → HasQueries d most → (s : List Step) (g : LineProgress)
    → InMidst d most bound s g
    → Meets Any (Exact d) (OfTurn (Within bound) (InMidst d most bound)) s (next_round d None false g)
follow-round d most bound has s g i =
    let talk : Talk (Next × ReaderState) = next_talk d (mode_of false g.job.reading.phase) g.job.reading in
    round-meets (Exact d) (Within bound) (InMidst d most bound) d s None false g
    (meets-weaker Any (NotedBy (Exact d))
    (λ (u : List Step × List Sight) (o : Next × ReaderState). IsRound d most bound u.0 o)
    (λ (u : List Step × List Sight) (o : Next × ReaderState).
    OfTurn (Within bound) (InMidst d most bound) u.0 (after_next None g (o, u.1)))
    (s, g.job.sight) talk
    (note-meets (Exact d) (IsRound d most bound) s g.job.sight talk
    (next-meets Any (Exact d) (GoesOn d most bound) (IsRound d most bound) d _
    (follow-rules d most bound _ has) s g.job.reading i.1))
    (λ u o k.
    let j : Job = record g.job { reading = o.1; sight = u.1 } in
    rw i.0 (follow-turn d most bound g.agains u.0 o.0 j k)))

-- this line leaves a history of at most so many steps
abbrev pub Grows : Description → ℕ → List Step → Talk (Option Job) → Type 0
Grows d bound past talk = Meets Any (Exact d) (OfJob (Within bound)) past talk

-- a follow makes so many reads as empty a full ring, and synchronises once
pub follow-length : (d : Description) (most reads n : ℕ) (j : Job) (past : List Step) → HasQueries d most
    → ring d ≤ 64 * reads → Grows d (length past + (reads + suc most)) past (hand_talk d None false None n j)
follow-length d most reads n j past h fits =
    let bound : ℕ = length past + (reads + suc most) in
    let client : ℕ = j.reading.client in
    let room : length (queue d past client) < ring d = queue-room d past client in
    rounds-meets (Exact d) (Within bound) (InMidst d most bound) d None false
    (follow-round d most bound h) n past (record { job = j; left = None; agains = 0 }) (
      refl,
      record {
        left = reads + suc most;
        is_left =
            inl (record {
              reads = reads;
              enough = omega (arith, visible-le (queue d past client), room, fits);
              within = omega arith;
            });
        within = omega arith;
      },
    )

-- Other lines

abbrev Short : {A : Type 0} → ℕ → List Step → A → Type 0
Short bound past a = length past ≤ bound

-- a start opens a client and makes each query once
start-talk : (d : Description) (most : ℕ) (r : ReaderState) (past : List Step) → HasQueries d most
    → Meets Any (Exact d) (Short (length past + suc most)) past (start_talk d r)
start-talk d most r past h = start-meets Any (Exact d) (Short (length past + suc most)) d r past (record {
  asks_open = tt;
  opened = λ t a at client ring by is.
      asked-meets Any (Exact d)
      (λ (p : List Step) (view : View) (left : List Step). length p + length left ≤ length past + suc most)
      (Queried (Short (length past + suc most)) client ring r) (record {
        asks = λ u view x xs j. tt;
        told = λ u v view x xs b j given e. omega (arith, j, one_more d u v x b given);
        stopped = λ u v view x xs b j given e. omega (arith, j, one_more d u v x b given);
        whole = λ u view j. omega (arith, j);
      }) t (queries d client) r.view (omega (arith, h.few client, one_more d past t Open a by));
  refused = λ t a by other. omega (arith, one_more d past t Open a by);
})

-- a start opens a client and makes each query once, so it adds no more steps
pub start-length : (d : Description) (most : ℕ) (j : Job) (past : List Step) → HasQueries d most
    → Grows d (length past + suc most) past (start_job d j)
start-length d most j past h =
    start_job-meets (Exact d) (Within (length past + suc most)) d past j
    (note-meets (Exact d) (Short (length past + suc most)) past j.sight (start_talk d j.reading)
    (start-talk d most j.reading past h))

-- and a joystick's start does the same
pub joy_start-length : (d : Description) (most : ℕ) (j : Job) (past : List Step) → HasQueries d most
    → Grows d (length past + suc most) past (start_joystick d j)
joy_start-length d most j past h =
    start_joystick-meets (Exact d) (Within (length past + suc most)) d past j
    (note-meets (Exact d) (Short (length past + suc most)) past j.sight (start_talk d j.reading)
    (start-talk d most j.reading past h))

-- a single call adds one step at most
pub call-length : (d : Description) (o : Option Step) (j : Job) (past : List Step) (k : ℕ) → 1 ≤ k
    → Grows d (length past + k) past (call_if j o)
call-length d None j past k some = omega arith
call-length d (Some x) j past k some = (tt, λ t a by. omega (arith, some, one_more d past t x a by))

-- a tap makes one call, which adds one step at most
pub tap_call-length : (d : Description) (o : Option Step) (j : Job) (past : List Step) (k : ℕ) → 1 ≤ k
    → Grows d (length past + k) past (tap_call_if j o)
tap_call-length d None j past k some = omega arith
tap_call-length d (Some x) j past k some = (
  tt,
  λ t a by. cond_both (lacks_memory a.reply) _ _ (OfJob (Within (length past + k)) t) (λ _. tt)
      (λ _. omega (arith, some, one_more d past t x a by)),
)

-- A run of events that a reader has read is as many rounds of its line.
use Rattle.std.proofs.Common.{◌≡◌, ◌≤◌, ◌<◌, ℕ, zero, suc, ◌+◌, ◌-◌, Bool, true, false, nat_eq, List, [], ◌∷◌}
use Rattle.std.proofs.Common.{◌++◌, length, map, drop, if◌then◌else◌, Option, Some, None, refl, ap, ◌∙◌}
use Rattle.std.proofs.Common.{arith, append_assoc, append-nil, length-append}
use Rattle.std.proofs.lemmas.Bool.{cond_both}
use Rattle.std.proofs.lemmas.Bool.Decides.{nat_tests}
use Rattle.inp_reader.specs.declared.mode.Mode.TheVariants.{Normal}
use Rattle.inp_reader.specs.Effort.{held_back}
use Rattle.inp_script.specs.declared.sight.Sight.TheVariants.{Took}
use Rattle.inp_script.specs.Effort.{Shrinks}
use Rattle.inp_script.proofs.Common.{Taken, Description, EvdevView, Next, Success, Dropped, Phase, Notes}
use Rattle.inp_script.proofs.Common.{Waiting, Job, job_of, noted, taken_sight, Event, AreCalls, Plain}
use Rattle.inp_script.proofs.Common.{effort, Talk, finish, LeadsTo, total_effort}
use Rattle.inp_recon.specs.View.{view_after_event, view_after_events}
use Rattle.inp_recon.specs.Synchronised.{is_dropped}
use Rattle.inp_reader.specs.Reader.{ReaderState, first_run, queued_run, after_run, has_loss, hand_out_event}
use Rattle.inp_reader.specs.Reader.{next_talk, is_plain_phase}
use Rattle.inp_reader.proofs.NextWalk.{next-queued}
use Rattle.inp_reader.proofs.Runs.{queue-run, queued-many}
use Rattle.inp_script.specs.declared.role.client.Turn.{Turn as KeptTurn}
use Rattle.inp_script.specs.declared.role.client.Turn.TheVariants.{GoesOn, Ends}
use Rattle.inp_script.specs.Client.{LineProgress, goes_on, handed, one_less, mode_of, next_round, turn_after}
use Rattle.inp_script.specs.Client.{on_turn, rounds}
use Rattle.inp_script.specs.Progress.{turn_of, IsPatient, IsAnew}
use Rattle.inp_script.specs.Rounds.{most_of, less_by, job_after_run, HandsRun, IsAdvanced}
use Rattle.inp_script.proofs.Turns.{less_anew}
use Rattle.inp_reader.specs.declared.phase.Phase.TheVariants.{Needed}

-- A round with an event of the queue makes no call

mode-plain : (skips : Bool) (phase : Phase) → phase ≡ Plain → mode_of skips phase ≡ Normal
mode-plain true phase h = cc h
mode-plain false phase h = rw h

next-handed : (d : Description) (skips : Bool) (r : ReaderState) (t : Taken) (q : List Taken)
    → r.phase ≡ Plain
    → r.queue ≡ t ∷ q → next_talk d (mode_of skips r.phase) r ≡ finish (hand_out_event r t q)
next-handed d skips r t q plain queue = rw mode-plain (next-queued d r t q plain queue)

-- the job after the first event of the queue
abbrev with_event : Job → Taken → List Taken → Job
with_event j t q = record j { reading = (hand_out_event j.reading t q).1; sight = j.sight ++ Took t ∷ [] }

after-event : (wait : Option Waiting) (left : Option ℕ) (agains : ℕ) (j : Job) (t : Taken) (q : List Taken)
    → turn_after wait left agains (hand_out_event j.reading t q).0
    (record j { reading = (hand_out_event j.reading t q).1 }) ≡ handed (one_less left) (with_event j t q)
after-event wait left agains j t q =
    let view = view_after_event j.reading.view t.event in
    cond_both (is_dropped t.event) (Dropped t, record j.reading { queue = q; view = view; phase = Needed })
    (Success t, record j.reading { queue = q; view = view })
    (λ (o : Next × ReaderState). turn_after wait left agains o.0 (record j { reading = o.1 })
    ≡ handed (one_less left) (record j { reading = o.1; sight = j.sight ++ Took t ∷ [] }))
    (λ lost. refl) (λ kept. refl)

-- The events of a run, one after another

run-nothing : (r : ReaderState) → after_run r [] ≡ r
unfolding view_after_events
run-nothing r = refl

left-nothing : (left : Option ℕ) → less_by 0 left ≡ left
left-nothing None = refl
left-nothing (Some n) = let same : n - 0 ≡ n = omega arith in rw same

left-more : (count : ℕ) (left : Option ℕ) → less_by count (one_less left) ≡ less_by (suc count) left
left-more count None = refl
left-more count (Some n) = let same : (n - 1) - count ≡ n - suc count = omega arith in rw same

-- a run of one event more
run-event : (r : ReaderState) (t : Taken) (q run : List Taken) → r.queue ≡ t ∷ q → is_dropped t.event ≡ false
    → after_run (hand_out_event r t q).1 run ≡ after_run r (t ∷ run)
unfolding view_after_events
run-event r t q run queue kept = rw (kept, queue)

-- and one whose only event tells of a loss
run-loss : (r : ReaderState) (t : Taken) (q : List Taken) → r.queue ≡ t ∷ q → is_dropped t.event ≡ true
    → (hand_out_event r t q).1 ≡ after_run r (t ∷ [])
unfolding view_after_events
run-loss r t q queue lost = rw (lost, queue)

-- A line that asks for so many events at least, or for any number

abbrev Fits : ℕ → Option ℕ → Type 0
Fits most None = Unit {0}
Fits most (Some n) = most ≤ n

fits-less : (most : ℕ) (left : Option ℕ) → Fits (suc most) left → Fits most (one_less left)
fits-less most None h = tt
fits-less most (Some n) h = omega (arith, h)

fits-goes_on : (most : ℕ) (left : Option ℕ) (j : Job) → Fits (suc most) left
    → handed left j ≡ goes_on (record { job = j; left = left; agains = 0 })
fits-goes_on most None j h = refl
fits-goes_on most (Some n) j h =
    let some : nat_eq n 0 ≡ false = grind (arith, nat_tests, h) in rw some

-- a line is handed one event at least, whatever it asks for
abbrev FitsOne : ℕ → Option ℕ → Type 0
FitsOne most None = Unit {0}
FitsOne most (Some n) = most - 1 ≤ n - 1

fits-one : (most : ℕ) (left : Option ℕ) → FitsOne (suc most) left → Fits most (one_less left)
fits-one most None h = tt
fits-one most (Some n) h = omega (arith, h)

fits-most : (left : Option ℕ) → FitsOne (most_of left) left
fits-most None = tt
fits-most (Some n) = omega arith

is-plain : (phase : Phase) → is_plain_phase phase ≡ true → phase ≡ Plain
is-plain Plain h = refl
is-plain phase h = absurd cc

module _ (d : Description) (wait : Option Waiting) (skips : Bool) where
  event-rounds : (left : Option ℕ) (agains n : ℕ)
      (j : Job) (t : Taken) (q : List Taken) → j.reading.phase ≡ Plain → j.reading.queue ≡ t ∷ q
      → rounds d wait skips (suc n) (record { job = j; left = left; agains = agains })
      ≡ on_turn (rounds d wait skips n) (handed (one_less left) (with_event j t q))
  unfolding rounds next_round
  event-rounds left agains n j t q plain queue =
      rw (next-handed d skips j.reading t q plain queue, after-event)

  module _ (n : ℕ) where
    -- the rounds of a run, behind which so many more may come
    abbrev Takes : Option ℕ → Job → List Taken → Talk (Option Job) → Type 0
    Takes left j run talk =
        talk ≡ on_turn (rounds d wait skips n) (handed (less_by (length run) left) (job_after_run j run))

    -- the first event of a run, and then the rest of it
    from-event : (most : ℕ) (t : Taken) (q : List Taken) (left : Option ℕ) (agains : ℕ) (j : Job)
        → j.reading.phase ≡ Plain → j.reading.queue ≡ t ∷ q
        → ((k : Job) → k.reading.phase ≡ Plain → k.reading.queue ≡ q
        → Takes (one_less left) k (first_run most q)
        (on_turn (rounds d wait skips (length (first_run most q) + n)) (handed (one_less left) k)))
        → Takes left j (first_run (suc most) (t ∷ q))
        (rounds d wait skips (length (first_run (suc most) (t ∷ q)) + n)
        (record { job = j; left = left; agains = agains }))
    unfolding first_run
    from-event most t q left agains j plain queue rest =
        let more : List Taken = first_run most q in
        let k : Job = with_event j t q in
        let here : LineProgress = record { job = j; left = left; agains = agains } in
        cond_both (is_dropped t.event) [] more
        (λ (ts : List Taken). Takes left j (t ∷ ts) (rounds d wait skips (length (t ∷ ts) + n) here))
        (λ lost.
        let one : 1 + n ≡ suc n = omega arith in
        rw (one, event-rounds left agains n j t q plain queue, ← left-more, left-nothing, run-loss))
        (λ kept.
        let one : suc (length more) + n ≡ suc (length more + n) = omega arith in
        rw (
          one,
          event-rounds left agains (length more + n) j t q plain queue,
          rest k (rw kept plain) (rw kept),
          left-more (length more) left,
          run-event j.reading t q more queue kept,
          append_assoc j.sight (Took t ∷ []) (map taken_sight more),
        ))

    no-events : (left : Option ℕ) (j : Job)
        → Takes left j [] (on_turn (rounds d wait skips (0 + n)) (handed left j))
    no-events left j =
        let same : 0 + n ≡ n = omega arith in
        rw (same, left-nothing left, run-nothing j.reading, append-nil j.sight)

    run-rounds : (most : ℕ) (q : List Taken) (left : Option ℕ) (j : Job) → j.reading.phase ≡ Plain
        → j.reading.queue ≡ q → Fits most left
        → Takes left j (first_run most q)
        (on_turn (rounds d wait skips (length (first_run most q) + n)) (handed left j))
    unfolding first_run
    run-rounds zero q left j plain queue fits = no-events left j
    run-rounds (suc most) [] left j plain queue fits = no-events left j
    run-rounds (suc most) (t ∷ q) left j plain queue fits =
        rw (fits-goes_on most left j fits)
        (from-event most t q left 0 j plain queue
        (λ k p e. run-rounds most q (one_less left) k p e (fits-less most left fits)))

    first-rounds : (most : ℕ) (q : List Taken) (left : Option ℕ) (agains : ℕ) (j : Job)
        → j.reading.phase ≡ Plain → j.reading.queue ≡ q → FitsOne most left → 1 ≤ length (first_run most q)
        → Takes left j (first_run most q)
        (rounds d wait skips (length (first_run most q) + n)
        (record { job = j; left = left; agains = agains }))
    unfolding first_run
    first-rounds (suc most) (t ∷ q) left agains j plain queue fits some =
        from-event most t q left agains j plain queue
        (λ k p e. run-rounds most q (one_less left) k p e (fits-one most left fits))
    first-rounds most q left agains j plain queue fits some = absurd (omega (arith, some))

    queued-rounds : (most : ℕ) (left : Option ℕ)
        (agains : ℕ) (j : Job) → FitsOne most left → 1 ≤ length (queued_run most j.reading)
        → Takes left j (queued_run most j.reading)
        (rounds d wait skips (length (queued_run most j.reading) + n)
        (record { job = j; left = left; agains = agains }))
    queued-rounds most left agains j fits =
        let here : LineProgress = record { job = j; left = left; agains = agains } in
        cond_both (is_plain_phase j.reading.phase) (first_run most j.reading.queue) []
        (λ ts. 1 ≤ length ts → Takes left j ts (rounds d wait skips (length ts + n) here))
        (λ plain. first-rounds most _ left agains j (is-plain _ plain) refl fits)
        (λ other some. absurd (omega (arith, some)))

-- each queued event is handed out by a round of its own, which makes no call
pub advanced-run : (told : EvdevView) (d : Description) (wait : Option Waiting) (skips : Bool)
    (left : Option ℕ) (agains : ℕ) (old new : Job) (turn : KeptTurn) → HandsRun left old turn new
    → IsAdvanced told told d wait skips (record { job = old; left = left; agains = agains })
    (turn_of turn new)
unfolding LeadsTo AreCalls
advanced-run told d wait skips left agains old new turn h =
    let run : List Taken = queued_run (most_of left) old.reading in
    record {
      count = length run;
      calls = [];
      leads = λ n m e.
          rw (
            e,
            queued-rounds d wait skips n (most_of left) left agains old (fits-most left) h.some,
            ← h.taken,
            h.goes,
          );
      are_calls = refl;
    }

-- as many as are queued were handed out and noted
pub hands-run : (left : Option ℕ) (r s : ReaderState) (old new : Notes) (run : List Taken) (count : ℕ)
    (turn : KeptTurn) → run ≡ queued_run (most_of left) r → count ≡ length run → 1 ≤ count
    → s ≡ after_run r (queued_run count r) → new ≡ record old { sight = old.sight ++ map taken_sight run }
    → ((j : Job) → handed (less_by count left) j ≡ turn_of turn j) → IsPatient turn → IsAnew turn
    → HandsRun left (job_of r old) turn (job_of s new)
hands-run left r s old new run count turn is many some taken noted goes patient anew =
    let queued : List Taken = queued_run (most_of left) r in
    let n : count ≡ length queued = many ∙ ap length is in
    record {
      some = omega (arith, some, n);
      taken = rw (taken, queued-many (most_of left) count r run is many, noted, is);
      goes = rw (← n) (goes (job_of s new));
      patient = patient;
      anew = anew;
    }

-- Such a run leaves less to do

held_less : (lost : Bool) (phase : Phase) (left : List Event)
    → held_back (if lost then Needed else phase) left ≤ held_back phase left
held_less true phase left = omega arith
held_less false phase left = omega arith

effort-run : (told : EvdevView) (most : ℕ) (r : ReaderState) → 1 ≤ length (queued_run most r)
    → effort told (after_run r (queued_run most r)) < effort told r
unfolding effort
effort-run told most r some =
    let run : List Taken = queued_run most r in
    omega (
      arith,
      some,
      held_less (has_loss run) r.phase r.left,
      ap length (queue-run most r),
      length-append run (drop (length run) r.queue),
    )

-- a run hands out one event at least, so less is queued and answers Again count anew
pub run-shrinks : (told : EvdevView) (wait : Option Waiting) (left : Option ℕ) (agains : ℕ) (old new : Job)
    (turn : KeptTurn) → HandsRun left old turn new
    → Shrinks wait (total_effort wait (effort told old.reading) agains) (effort told new.reading) turn
run-shrinks told wait left agains old new Ends h = tt
run-shrinks told wait left agains old new (GoesOn progress) h =
    let fewer : effort told new.reading < effort told old.reading =
    rw h.taken (effort-run told _ old.reading h.some) in
    less_anew wait _ _ agains progress fewer h.anew

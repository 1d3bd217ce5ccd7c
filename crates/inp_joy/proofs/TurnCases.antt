-- The parts of a turn of a read, how it went, and what holds of a read since it holds of its turns.
use Rattle.std.proofs.Common.{◌≡◌, ℕ, zero, suc, ◌+◌, true, false, if◌then◌else◌, List, [], ◌∷◌, ◌++◌, Some}
use Rattle.std.proofs.Common.{None, refl, append-nil}
use Rattle.std.specs.Prelude.{Option, slice_get}
use Rattle.std.proofs.lemmas.Bool.{cond_both}
use Rattle.inp_model.specs.declared.taken.Taken.{Taken}
use Rattle.inp_model.specs.Description.{Description}
use Rattle.inp_model.specs.Reply.{is_accepted}
use Rattle.inp_model.specs.Run.{Call}
use Rattle.inp_reader.specs.declared.mode.Mode.TheVariants.{Normal, Sync as Synchronising}
use Rattle.inp_reader.specs.declared.next.Next.{Next}
use Rattle.inp_reader.specs.declared.next.Next.TheVariants.{Dropped, Success}
use Rattle.inp_reader.specs.Reader.{ReaderState, next_talk, start_talk}
use Rattle.inp_reader.specs.ReaderPlace.{is_needed}
use Rattle.inp_reader.specs.Talk.{Talk, finish, ask, LeadsTo, EndsWith}
use Rattle.inp_reader.proofs.Calls.{IsSplit, split-and_then, finished}
use Rattle.inp_joy.specs.declared.joy_read.JoyRead.TheVariants.{More}
use Rattle.inp_joy.specs.declared.joy_record.JoyRecord.{JoyRecord}
use Rattle.inp_joy.specs.Joy.{JoystickState, JoyAnswer, JoyTurn, gives, goes_on, hand_out_record}
use Rattle.inp_joy.specs.Joy.{next_in_startup}
use Rattle.inp_joy.specs.Joy.{startup, is_long, joying_after_next, joying_after_sync, sync_turn, after_normal}
use Rattle.inp_joy.specs.Joy.{event_turn, record_or_turn, turn_talk, with_count, after_turn, turns, stop_with}
use Rattle.inp_joy.specs.Joy.{with_reading, with_startup, joying_after_start, joy_started, joy_start}
use Rattle.inp_joy.specs.Joy.{joy_read_of, stop_or_on}
use Rattle.inp_model.specs.Evdev.{EvdevView}
use Rattle.inp_reader.specs.declared.call_made.CallMade.{CallMade}
use Rattle.inp_reader.specs.declared.started.Started.{Started}
use Rattle.inp_reader.specs.FollowsTalk.{FollowsTalk}
use Rattle.inp_reader.proofs.TalksInTurn.{says-nothing, says-then}
use Rattle.inp_joy.specs.declared.joy_read.JoyRead.{JoyRead}

-- A synchronisation

says-sync : (before after : EvdevView) (old new : List CallMade) (d : Description) (j : JoystickState)
    (next : Next) (r : ReaderState) (turn : JoyTurn)
    → FollowsTalk before after old new (next_talk d Synchronising j.reading) (next, r)
    → joying_after_sync j (next, r) ≡ turn → FollowsTalk before after old new (sync_turn d j) turn
unfolding sync_turn
says-sync before after old new d j next r turn s is =
    let o : Next × ReaderState = (next, r) in
    says-then before after after old new new (next_talk d Synchronising j.reading)
    (λ (p : Next × ReaderState). finish (joying_after_sync j p)) o turn s
    (says-nothing after new (finish (joying_after_sync j o)) turn (rw is))

-- one that was stopped
pub says-sync_stopped : (before after : EvdevView) (old new : List CallMade) (d : Description)
    (j k : JoystickState) (next : Next) (r : ReaderState) (read : JoyRead)
    → FollowsTalk before after old new (next_talk d Synchronising j.reading) (next, r) → k ≡ with_reading j r
    → Some read ≡ joy_read_of next → FollowsTalk before after old new (sync_turn d j)
    (gives (stop_with read k))
says-sync_stopped before after old new d j k next r read s kept stopped =
    says-sync before after old new d j next r (gives (stop_with read k)) s
    (rw (← stopped, ← kept))

-- one that was not
pub says-sync_whole : (before after : EvdevView) (old new : List CallMade) (d : Description)
    (j k : JoystickState) (next : Next) (r : ReaderState)
    → FollowsTalk before after old new (next_talk d Synchronising j.reading) (next, r)
    → joy_read_of next ≡ None → k ≡ with_startup r
    → FollowsTalk before after old new (sync_turn d j) (goes_on k)
says-sync_whole before after old new d j k next r s went begun =
    says-sync before after old new d j next r (goes_on k) s
    (rw (went, ← begun))

-- An event

says-normal : (before between after : EvdevView) (old mid new : List CallMade) (d : Description)
    (j : JoystickState) (next : Next) (r : ReaderState) (turn : JoyTurn)
    → FollowsTalk before between old mid (next_talk d Normal j.reading) (next, r)
    → FollowsTalk between after mid new (after_normal d j (next, r)) turn
    → FollowsTalk before after old new (event_turn d j) turn
unfolding event_turn
says-normal before between after old mid new d j next r turn s t =
    let o : Next × ReaderState =
    (next, r) in says-then before between after old mid new (next_talk d Normal j.reading)
    (after_normal d j) o turn s t

-- lost events
pub says-event_lost : (before between after : EvdevView) (old mid new : List CallMade) (d : Description)
    (j k : JoystickState) (taken : Taken) (r : ReaderState) (turn : JoyTurn)
    → FollowsTalk before between old mid (next_talk d Normal j.reading) (Dropped taken, r)
    → k ≡ with_reading j r → FollowsTalk between after mid new (sync_turn d k) turn
    → FollowsTalk before after old new (event_turn d j) turn
says-event_lost before between after old mid new d j k taken r turn s kept t =
    says-normal before between after old mid new d j (Dropped taken) r turn s (rw kept at t)

-- another answer
abbrev pub IsNoLoss : Next → Type 0
IsNoLoss next = (taken : Taken) → next ≡ Dropped taken → ⊥

after-other : (d : Description) (j : JoystickState) (next : Next) (r : ReaderState) → IsNoLoss next
    → after_normal d j (next, r) ≡ finish (joying_after_next d (with_reading j r) next)
after-other d j (Dropped taken) r other = absurd (other taken refl)
after-other d j next r other = refl

-- the reader lost nothing, so no call follows its answer
pub says-event : (before after : EvdevView) (old new : List CallMade) (d : Description) (j k : JoystickState)
    (next : Next) (r : ReaderState) (turn : JoyTurn)
    → FollowsTalk before after old new (next_talk d Normal j.reading) (next, r) → IsNoLoss next
    → k ≡ with_reading j r → turn ≡ joying_after_next d k next
    → FollowsTalk before after old new (event_turn d j) turn
says-event before after old new d j k next r turn s other kept is =
    says-normal before after after old new new d j next r turn s
    (says-nothing after new (after_normal d j (next, r)) turn
    (rw (after-other, ← kept, ← is)))

-- that is no event
pub stopped-other : (d : Description) (j : JoystickState) (next : Next)
    → ((taken : Taken) → next ≡ Success taken → ⊥)
    → joying_after_next d j next ≡ stop_or_on j j (joy_read_of next)
stopped-other d j (Success taken) other = absurd (other taken refl)
stopped-other d j next other = refl

-- A turn

-- with one, or without
pub says-turn : (before after : EvdevView) (old new : List CallMade) (d : Description) (j : JoystickState)
    (next : Option JoyRecord) (turn : JoyTurn) → next ≡ slice_get (startup d j.reading.view) j.handed
    → FollowsTalk before after old new (record_or_turn d j next) turn
    → FollowsTalk before after old new (turn_talk d j) turn
says-turn before after old new d j next turn is s = rw is at s

-- a record of the startup is handed out without a call
pub says-startup : (told : EvdevView) (made new : List CallMade) (d : Description) (j : JoystickState)
    (r : JoyRecord) (turn : JoyTurn) → new ≡ made → turn ≡ gives (hand_out_record (next_in_startup j) r)
    → FollowsTalk told told made new (record_or_turn d j (Some r)) turn
says-startup told made new d j r turn same is =
    rw same
    (says-nothing told made (record_or_turn d j (Some r)) turn (rw (← is)))

-- A start

-- the start of the reader is the whole talk, and no call follows it
pub says-started : (before after : EvdevView) (old new : List CallMade) (d : Description)
    (j k l : JoystickState) (started : Started) (r : ReaderState)
    → FollowsTalk before after old new (start_talk d j.reading) (started, r)
    → k ≡ with_reading j r → l ≡ joying_after_start d k started
    → FollowsTalk before after old new (joy_start d j) (started, l)
unfolding joy_start
says-started before after old new d j k l started r s kept is =
    let o : Started × ReaderState = (started, r) in
    let result : Started × JoystickState = (started, l) in
    says-then before after after old new new (start_talk d j.reading)
    (λ (p : Started × ReaderState). finish (joy_started d j p)) o result s
    (says-nothing after new (finish (joy_started d j o)) result
    (rw (← kept, ← is)))

-- The calls are those of a synchronisation, and the turn comes to what its answer says.
pub record Synchronises (d : Description) (j : JoystickState) (calls : List Call) (t : JoyTurn) : Type 0 where
  -- the reader's answer
  pub next : Next
  -- what the reader keeps then
  pub reading : ReaderState
  -- the calls are those of the reader's `next`
  pub talk_ends : EndsWith (next_talk d Synchronising j.reading) calls (next, reading)
  -- the turn is what a synchronisation with that answer gives
  pub comes_to : joying_after_sync j (next, reading) ≡ t

-- no call follows
alone : (calls first later : List Call) → calls ≡ first ++ later → later ≡ [] → calls ≡ first
alone calls first later whole none = rw (whole, none) (append-nil first)

synchronises : (d : Description) (j : JoystickState) (calls : List Call) (t : JoyTurn)
    → EndsWith (sync_turn d j) calls t → Synchronises d j calls t
unfolding sync_turn
synchronises d j calls t h =
    let next : Next × ReaderState → Talk JoyTurn = λ o. finish (joying_after_sync j o) in
    let s : IsSplit (next_talk d Synchronising j.reading) next calls t =
    split-and_then (next_talk d Synchronising j.reading) next calls t h in
    let f : (s.later ≡ []) × (joying_after_sync j s.between ≡ t) =
    finished (joying_after_sync j s.between) t s.later s.later_ends in
    record {
      next = s.between.0;
      reading = s.between.1;
      talk_ends = rw (← alone calls s.first s.later s.calls_are f.0) at s.first_ends;
      comes_to = f.1;
    }

-- how a turn went
pub data TurnCase (d : Description) (j : JoystickState) (calls : List Call) (t : JoyTurn) : Type 0 where
  -- a record of the startup was handed out
  of_startup : (r : JoyRecord) → slice_get (startup d j.reading.view) j.handed ≡ Some r → calls ≡ []
      → gives (hand_out_record (next_in_startup j) r) ≡ t → TurnCase d j calls t
  -- a synchronisation was needed
  of_sync : is_needed j.reading.phase ≡ true → Synchronises d j calls t → TurnCase d j calls t
  -- events were lost, and a synchronisation followed
  of_loss : (first second : List Call) (taken : Taken) (r : ReaderState) → is_needed j.reading.phase ≡ false
      → calls ≡ first ++ second → EndsWith (next_talk d Normal j.reading) first (Dropped taken, r)
      → Synchronises d (with_reading j r) second t → TurnCase d j calls t
  -- none were lost
  of_next : (next : Next) (r : ReaderState) → is_needed j.reading.phase ≡ false
      → EndsWith (next_talk d Normal j.reading) calls (next, r)
      → joying_after_next d (with_reading j r) next ≡ t → TurnCase d j calls t

event_turn-case : (d : Description) (j : JoystickState) (calls : List Call) (t : JoyTurn)
    → is_needed j.reading.phase ≡ false → EndsWith (event_turn d j) calls t → TurnCase d j calls t
unfolding event_turn
event_turn-case d j calls t plain h =
    let s : IsSplit (next_talk d Normal j.reading) (after_normal d j) calls t =
    split-and_then (next_talk d Normal j.reading) (after_normal d j) calls t h in
    by_next s.between.0 s.between.1 s.first s.later s.calls_are s.first_ends s.later_ends
  where
    by_next : (next : Next) (r : ReaderState) (first later : List Call) → calls ≡ first ++ later
        → EndsWith (next_talk d Normal j.reading) first (next, r)
        → EndsWith (after_normal d j (next, r)) later t → TurnCase d j calls t
    by_next (Dropped taken) r first later whole e k =
        of_loss first later taken r plain whole e (synchronises d (with_reading j r) later t k)
    by_next next r first later whole e k =
        let f : (later ≡ []) × (joying_after_next d (with_reading j r) next ≡ t) =
        finished (joying_after_next d (with_reading j r) next) t later k in
        of_next next r plain (rw (alone calls first later whole f.0) e) f.1

-- by whether a startup record is left, and else by whether a synchronisation is needed
pub case-of : (d : Description) (j : JoystickState) (o : Option JoyRecord) (calls : List Call) (t : JoyTurn)
    → slice_get (startup d j.reading.view) j.handed ≡ o → EndsWith (record_or_turn d j o) calls t
    → TurnCase d j calls t
case-of d j None calls t is h =
    (cond_both (is_needed j.reading.phase) _ _ (λ x. EndsWith x calls t → TurnCase d j calls t)
    (λ needed k. of_sync needed (synchronises d j calls t k))
    (λ plain k. event_turn-case d j calls t plain k)) h
case-of d j (Some r) calls t is h =
    let f = finished (gives (hand_out_record (next_in_startup j) r)) t calls h in of_startup r is f.0 f.1

-- a turn goes by the startup record that is left, or by none
pub turn-case : (d : Description) (j : JoystickState) (calls : List Call) (t : JoyTurn)
    → EndsWith (turn_talk d j) calls t → TurnCase d j calls t
turn-case d j calls t h = case-of d j (slice_get (startup d j.reading.view) j.handed) calls t refl h

-- a talk with a count is the talk
with_count-back : {A : Type 0} (talk : Talk A) (n : ℕ) (calls : List Call) (o : ℕ × A)
    → EndsWith (with_count talk n) calls o → EndsWith talk calls o.1
unfolding LeadsTo
with_count-back {A = A} (finish a) n [] o h = let same : (n, a) ≡ o = cc in rw (← same)
with_count-back (finish a) n (call ∷ calls) o h = elim h [ ]
with_count-back (ask x rest) n [] o h = absurd cc
with_count-back (ask x rest) n (call ∷ calls) o h =
    (h.0, with_count-back (rest call.answer) (if is_accepted call.answer.reply then n + 1 else n) calls o h.1)

-- What holds where the last turn gives an answer, and where it is one too many, and holds with one more
-- turn before, holds of each read.
pub turns-all : (d : Description) (P : JoystickState → List Call → JoyAnswer → Type 0)
    → ((j : JoystickState) (calls : List Call) (answer : JoyAnswer)
    → EndsWith (turn_talk d j) calls (gives answer) → P j calls answer)
    → ((j k : JoystickState) (calls : List Call) → EndsWith (turn_talk d j) calls (goes_on k)
    → P j calls (stop_with More k))
    → ((j k : JoystickState) (calls more : List Call) (answer : JoyAnswer)
    → EndsWith (turn_talk d j) calls (goes_on k) → P k more answer → P j (calls ++ more) answer)
    → (n count : ℕ) (j : JoystickState) (calls : List Call) (answer : JoyAnswer)
    → EndsWith (turns d n count j) calls (Some answer) → P j calls answer
unfolding turns
turns-all d P last long more zero count j calls answer h = let f =
    finished None (Some answer) calls h in absurd cc
turns-all d P last long more (suc n) count j calls answer h =
    let next : ℕ × JoyTurn → Talk (Option JoyAnswer) = λ o. after_turn d (turns d n) o.0 o.1 in
    let s : IsSplit (with_count (turn_talk d j) count) next calls (Some answer) =
    split-and_then (with_count (turn_talk d j) count) next calls (Some answer) h in
    rw s.calls_are
    (by_turn s.between.1 s.between.0 s.first s.later
    (λ m k e. turns-all d P last long more n m k s.later answer e)
    (with_count-back (turn_talk d j) count s.first s.between s.first_ends) s.later_ends)
  where
    nothing_more : (first later : List Call) (a : JoyAnswer) → P j first a
        → EndsWith (finish (Some a)) later (Some answer) → P j (first ++ later) answer
    nothing_more first later a p e =
        let f = finished (Some a) (Some answer) later e in
        let same : a ≡ answer = (let w = f.1 in cc) in
        rw (f.0, append-nil) (rw same at p)

    by_turn : (t : JoyTurn) (m : ℕ) (first later : List Call)
        → ((i : ℕ) (k : JoystickState) → EndsWith (turns d n i k) later (Some answer) → P k later answer)
        → EndsWith (turn_talk d j) first t → EndsWith (after_turn d (turns d n) m t) later (Some answer)
        → P j (first ++ later) answer
    by_turn (gives a) m first later rest h e = nothing_more first later a (last j first a h) e
    by_turn (goes_on k) m first later rest h e =
        (cond_both (is_long d k m) _ _ (λ x. EndsWith x later (Some answer) → P j (first ++ later) answer)
        (λ _ w. nothing_more first later (stop_with More k) (long j k first h) w)
        (λ _ w. more j k first later answer h (rest m k w))) e

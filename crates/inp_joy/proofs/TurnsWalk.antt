-- The turns of a read, walked once: what has to be shown of the reader's answers, for `Meets` of the whole.
use Rattle.std.proofs.Common.{◌≡◌, ℕ, zero, suc, ◌+◌, if◌then◌else◌, refl, Option, Some, None}
use Rattle.std.specs.Prelude.{slice_get}
use Rattle.std.proofs.lemmas.Bool.{cond_both}
use Rattle.inp_model.specs.declared.step.Step.{Step}
use Rattle.inp_model.specs.Description.{Description}
use Rattle.inp_model.specs.Event.{is_report}
use Rattle.inp_model.specs.Reply.{Answer, is_accepted}
use Rattle.inp_reader.specs.declared.mode.Mode.{Mode}
use Rattle.inp_reader.specs.declared.mode.Mode.TheVariants.{Normal, Sync as Synchronising}
use Rattle.inp_reader.specs.declared.next.Next.{Next}
use Rattle.inp_reader.specs.declared.next.Next.TheVariants.{Success, Dropped}
use Rattle.inp_reader.specs.Reader.{ReaderState, next_talk}
use Rattle.inp_reader.specs.ReaderPlace.{is_needed}
use Rattle.inp_reader.specs.Talk.{Talk, finish, ask}
use Rattle.inp_reader.proofs.Meets.{Meets, AnyAnswer, meets-then, meets-weaker, Asks, meets-asks}
use Rattle.inp_joy.specs.declared.joy_read.JoyRead.{JoyRead}
use Rattle.inp_joy.specs.declared.joy_read.JoyRead.TheVariants.{Record, Frame, More}
use Rattle.inp_joy.specs.declared.joy_record.JoyRecord.{JoyRecord}
use Rattle.inp_joy.specs.Joy.{JoystickState, JoyAnswer, JoyTurn, gives, goes_on, startup, with_reading}
use Rattle.inp_joy.specs.Joy.{with_startup}
use Rattle.inp_joy.specs.Joy.{joy_read_of, joy_record_of, record_or_on, stop_or_on, joying_after_next}
use Rattle.inp_joy.specs.Joy.{joying_after_sync, sync_turn, after_normal, event_turn, record_or_turn}
use Rattle.inp_joy.specs.Joy.{turn_talk, with_count, is_long, after_turn, turns}

-- of an answer, with the reader that it leaves
abbrev pub OfAnswer : {S : Type 0} → (S → JoyRead → ReaderState → Type 0) → S → Option JoyAnswer → Type 0
OfAnswer Q s None = Unit {0}
OfAnswer Q s (Some answer) = Q s answer.read answer.joying.reading

abbrev OfTurn : {S : Type 0} → (S → ReaderState → Type 0) → (S → JoyRead → ReaderState → Type 0) → S → JoyTurn
    → Type 0
OfTurn I Q s (gives answer) = Q s answer.read answer.joying.reading
OfTurn I Q s (goes_on k) = I s k.reading

-- What is known of the reader, I, stays so on each way through a turn, and shows Q of each answer; N is what
-- its `next` shows.
pub record TurnRules {S : Type 0} (P : S → Step → Type 0) (R : S → Step → Answer → S → Type 0)
    (I : S → ReaderState → Type 0) (N : S → Next × ReaderState → Type 0)
    (Q : S → JoyRead → ReaderState → Type 0) (d : Description) : Type 0 where
  -- each `next` of the reader keeps to the rules and shows N
  pub nexts : (s : S) (mode : Mode) (r : ReaderState) → I s r → Meets P R N s (next_talk d mode r)
  -- the reader's answer is the read's too, or it is none
  pub stops : (s : S) (next : Next) (r : ReaderState) (read : JoyRead) → N s (next, r)
      → joy_read_of next ≡ Some read → Q s read r
  -- an answer that does not end the read leaves what was known of the reader
  pub continues : (s : S) (next : Next) (r : ReaderState) → N s (next, r) → joy_read_of next ≡ None → I s r
  -- the answers that are a read's alone
  pub hands : (s : S) (r : ReaderState) → I s r → Q s Record r
  -- the answer at the end of a frame
  pub frames : (s : S) (r : ReaderState) (place : ℕ) → I s r → Q s (Frame place) r
  -- the answer of a read that was too long
  pub longs : (s : S) (r : ReaderState) → I s r → Q s More r

counted-meets : {S A : Type 0} (P : S → Step → Type 0) (R : S → Step → Answer → S → Type 0)
    (Q : S → A → Type 0)
    (s : S) (talk : Talk A) (n : ℕ) → Meets P R Q s talk
    → Meets P R (λ (t : S) (o : ℕ × A). Q t o.1) s (with_count talk n)
counted-meets P R Q s (finish a) n h = h
counted-meets P R Q s (ask x rest) n h =
    (h.0, λ t a by. counted-meets P R Q t (rest a) (if is_accepted a.reply then n + 1 else n) (h.1 t a by))

turn-meets : {S : Type 0} (P : S → Step → Type 0) (R : S → Step → Answer → S → Type 0) (I : S
    → ReaderState → Type 0)
    (N : S → Next × ReaderState → Type 0) (Q : S → JoyRead → ReaderState → Type 0) (d : Description)
    → TurnRules P R I N Q d → (s : S) (k : JoystickState) → I s k.reading
    → Meets P R (OfTurn I Q) s (turn_talk d k)
unfolding sync_turn event_turn
turn-meets {S} P R I N Q d rules s k i = by_record (slice_get (startup d k.reading.view) k.handed)
  where
    of_stop : (t : S) (here there : JoystickState) (stop : Option JoyRead)
        → ((read : JoyRead) → stop ≡ Some read → Q t read here.reading)
        → (stop ≡ None → I t there.reading) → OfTurn I Q t (stop_or_on here there stop)
    of_stop t here there None stops on = on refl
    of_stop t here there (Some read) stops on = stops read refl

    syncs : (t : S) (here : JoystickState) → I t here.reading → Meets P R (OfTurn I Q) t (sync_turn d here)
    syncs t here j =
        meets-then P R N (OfTurn I Q) t (next_talk d Synchronising here.reading)
        (λ o. finish (joying_after_sync here o))
        (rules.nexts t Synchronising here.reading j)
        (λ u o h. of_stop u (with_reading here o.1) (with_startup o.1) (joy_read_of o.0)
        (λ read is. rules.stops u o.0 o.1 read h is) (λ is. rules.continues u o.0 o.1 h is))

    of_record : (t : S) (here : JoystickState) (out : Option JoyRecord) → I t here.reading
        → OfTurn I Q t (record_or_on here out)
    of_record t here None j = j
    of_record t here (Some r) j = rules.hands t here.reading j

    of_next : (t : S) (next : Next) (r : ReaderState) → N t (next, r)
        → OfTurn I Q t (joying_after_next d (with_reading k r) next)
    of_next t (Success taken) r h =
        let j : I t r = rules.continues t (Success taken) r h refl in
        cond_both (is_report taken.event) _ _ (OfTurn I Q t) (λ _. rules.frames t r taken.place j)
        (λ _. of_record t (with_reading k r) (joy_record_of d k.picture taken) j)
    of_next t next r h =
        of_stop t (with_reading k r) (with_reading k r) (joy_read_of next)
        (λ read is. rules.stops t next r read h is) (λ is. rules.continues t next r h is)

    normal : (t : S) (next : Next) (r : ReaderState) → N t (next, r)
        → Meets P R (OfTurn I Q) t (after_normal d k (next, r))
    normal t (Dropped taken) r h = syncs t (with_reading k r) (rules.continues t (Dropped taken) r h refl)
    normal t next r h = of_next t next r h

    by_record : (out : Option JoyRecord) → Meets P R (OfTurn I Q) s (record_or_turn d k out)
    by_record (Some r) = rules.hands s k.reading i
    by_record None =
        cond_both (is_needed k.reading.phase) _ _ (Meets P R (OfTurn I Q) s) (λ _. syncs s k i)
        (λ _. meets-then P R N (OfTurn I Q) s (next_talk d Normal k.reading) (after_normal d k)
        (rules.nexts s Normal k.reading i) (λ t o h. normal t o.0 o.1 h))

-- each turn meets the rules, and what is known of the reader holds at the next one
pub turns-meets : {S : Type 0} (P : S → Step → Type 0) (R : S → Step → Answer → S → Type 0) (I : S
    → ReaderState → Type 0)
    (N : S → Next × ReaderState → Type 0) (Q : S → JoyRead → ReaderState → Type 0) (d : Description)
    → TurnRules P R I N Q d → (most n : ℕ) (s : S) (k : JoystickState) → I s k.reading
    → Meets P R (OfAnswer Q) s (turns d most n k)
unfolding turns
turns-meets P R I N Q d rules zero n s k i = tt
turns-meets {S} P R I N Q d rules (suc most) n s k i =
    meets-then P R (λ (t : S) (o : ℕ × JoyTurn). OfTurn I Q t o.1) (OfAnswer Q) s
    (with_count (turn_talk d k) n) (λ o. after_turn d (turns d most) o.0 o.1)
    (counted-meets P R (OfTurn I Q) s (turn_talk d k) n (turn-meets P R I N Q d rules s k i))
    (λ t o h. by t o.0 o.1 (λ m here j. turns-meets P R I N Q d rules most m t here j) h)
  where
    by : (t : S) (m : ℕ) (turn : JoyTurn)
        → ((m : ℕ) (here : JoystickState) → I t here.reading → Meets P R (OfAnswer Q) t (turns d most m here))
        → OfTurn I Q t turn → Meets P R (OfAnswer Q) t (after_turn d (turns d most) m turn)
    by t m (gives answer) more h = h
    by t m (goes_on here) more h =
        cond_both (is_long d here m) _ _ (Meets P R (OfAnswer Q) t) (λ _. rules.longs t here.reading h)
        (λ _. more m here h)

-- ---- the steps alone

asks-meet : {A : Type 0} (P : Step → Type 0) (s : Unit {0}) (talk : Talk A) → Asks P talk
    → Meets (λ (t : Unit {0}) (x : Step). P x) AnyAnswer (λ (t : Unit {0}) (a : A). Unit {0}) s talk
asks-meet P s (finish a) h = tt
asks-meet P s (ask x rest) h = (h.0, λ t a any. asks-meet P t (rest a) (h.1 a))

-- each step of a read has the property that each step of `next` has
pub turns-ask : (P : Step → Type 0) (d : Description)
    → ((mode : Mode) (r : ReaderState) → Asks P (next_talk d mode r))
    → (most n : ℕ) (k : JoystickState) → Asks P (turns d most n k)
turns-ask P d nexts most n k =
    meets-asks P (turns d most n k)
    (meets-weaker Of AnyAnswer (OfAnswer Answered) (λ s o. Unit {0}) tt (turns d most n k)
    (turns-meets Of AnyAnswer (λ s r. Unit {0}) (λ s o. Unit {0}) Answered d rules most n tt k tt)
    (λ s o h. tt))
  where
    Of : Unit {0} → Step → Type 0
    Of s x = P x

    Answered : Unit {0} → JoyRead → ReaderState → Type 0
    Answered s read r = Unit {0}

    rules : TurnRules Of AnyAnswer (λ s r. Unit {0}) (λ s o. Unit {0}) Answered d
    rules = record {
      nexts = λ s mode r i. asks-meet P s (next_talk d mode r) (nexts mode r);
      stops = λ s next r read h is. tt;
      continues = λ s next r h is. tt;
      hands = λ s r i. tt;
      frames = λ s r place i. tt;
      longs = λ s r i. tt;
    }

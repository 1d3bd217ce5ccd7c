-- A line stops no job as full on a device whose history stays shorter than its limit.
use Rattle.std.proofs.Common.{◌≡◌, ◌≤◌, ◌<◌, ℕ, Bool, true, false, List, [], ◌∷◌, length, refl, arith, Option}
use Rattle.std.proofs.Common.{None}
use Rattle.std.proofs.lemmas.Bool.Decides.{nat_tests}
use Rattle.std.proofs.lemmas.Bool.{cond_both}
use Rattle.inp_model.specs.Reply.{Case, first_reply, refusals, is_full}
use Rattle.inp_reader.specs.Reader.{start_stop_of, queries}
use Rattle.inp_script.specs.Client.{handed as handed_out, one_less, is_done, hand_talk}
use Rattle.inp_script.proofs.Common.{Step, Reply, Description, View, Mode, Started, Next, stop_after}
use Rattle.inp_script.proofs.Common.{stop_after_start, Answer, answer, answer_by, accepted, past_after}
use Rattle.inp_script.proofs.Common.{is_accepted, ReaderState, start_talk, stop_of, next_talk, Job}
use Rattle.inp_script.proofs.Common.{call_if, tap_call_if, Refused as StepRefused, Talk, finish, ask}
use Rattle.inp_script.proofs.Common.{talk_with, LineProgress, start_job, with_sight, turn_after, after_next}
use Rattle.inp_script.proofs.Common.{mode_of}
use Rattle.inp_script.proofs.Common.{next_round, start_joystick}
use Rattle.inp_script.specs.declared.sight.Sight.{Sight}
use Rattle.inp_model.specs.declared.step.Step.TheVariants.{Open}
use Rattle.inp_model.specs.declared.reply.Refusal.TheVariants.{NoDevice as Revoked, LogFull}
use Rattle.inp_model.specs.Left.{eaten}
use Rattle.inp_reader.specs.declared.next.Next.TheVariants.{Success, Dropped, Sync, Full}
use Rattle.inp_script.specs.declared.sight.Sight.TheVariants.{Took, Made}
use Rattle.inp_reader.proofs.Meets.{Meets, Any, meets-weaker}
use Rattle.inp_reader.proofs.NextWalk.{Queried, start-meets, asked-meets, sync-meets, Renewed, NextRules}
use Rattle.inp_reader.proofs.NextWalk.{next-meets}
use Rattle.inp_script.proofs.JoyWalk.{start_joystick-meets}
use Rattle.inp_script.proofs.LineWalk.{NotedBy, note-meets, OfJob, OfTurn, OfGoing, start_job-meets}
use Rattle.inp_script.proofs.LineWalk.{round-meets, rounds-meets, call_if-meets, tap-meets}

-- refused since the history is as long as it may be
abbrev pub is_log_full : Reply → Bool
is_log_full (StepRefused at LogFull) = true
is_log_full _ = false

-- Each case that holds has another reply.
abbrev AreOther : List Case → Type 0
AreOther [] = Unit {0}
AreOther (case ∷ cases) = (case.holds ≡ true → is_log_full case.reply ≡ false) × AreOther cases

by_cases : (cases : List Case) (given : Answer) → AreOther cases → is_log_full given.reply ≡ false
    → is_log_full (answer_by (first_reply cases) given).reply ≡ false
by_cases [] given others h = h
by_cases (case ∷ cases) given others h =
    cond_both case.holds _ _ (λ (o : Option Reply). is_log_full (answer_by o given).reply ≡ false) others.0
    (λ _. by_cases cases given others.1 h)

room_when_accepted : (d : Description) (past : List Step) (x : Step)
    → is_log_full (accepted d past x).reply ≡ false
room_when_accepted d past Open = refl
room_when_accepted d past _ = refl

-- a history that is shorter than its limit refuses no step as full
answer-room : (d : Description) (past : List Step) (x : Step) → length past < d.log_limit
    → is_log_full (answer d past x).reply ≡ false
answer-room d past x room =
    by_cases (refusals (eaten d) d past x) (accepted d past x) (
      λ e.
          refl,
      (
        λ e.
            refl,
        (
          λ e.
              refl,
          (
            λ e.
                refl,
            (
              λ e.
                  refl,
              (
                λ e.
                    refl,
                (
                  λ e.
                      refl,
                  (
                    λ e.
                        refl,
                    (
                      λ e.
                          refl,
                      (
                        λ e. absurd (let full : is_full d past ≡ true =
                            e in grind (arith, nat_tests, full, room)),
                        tt,
                      ),
                    ),
                  ),
                ),
              ),
            ),
          ),
        ),
      ),
    )
    (room_when_accepted d past x)

-- Talks

-- any answer but that the history is full
abbrev NotFull : Unit {0} → Step → Answer → Unit {0} → Type 0
NotFull s x a t = is_log_full a.reply ≡ false

-- This is so of the result of a talk, where no step is refused as full.
abbrev pub Stays : {A : Type 0} → (A → Type 0) → Talk A → Type 0
Stays {A} P talk = Meets Any NotFull (λ (s : Unit {0}) (a : A). P a) tt talk

talk-grows : {A : Type 0} (d : Description) (past : List Step) (talk : Talk A)
    → length past ≤ length (talk_with d past talk).1
unfolding talk_with
talk-grows d past (finish a) = omega arith
talk-grows d past (ask x rest) =
    cond_both (is_accepted (answer d past x).reply) _ _
    (λ (more : List Step). length past ≤ length (talk_with d more (rest (answer d past x))).1)
    (λ _. omega (arith, talk-grows d (x ∷ past) (rest (answer d past x))))
    (λ _. talk-grows d past (rest (answer d past x)))

-- the history stays shorter than its limit, so none of the talk's steps is refused as full
pub stays-with : {A : Type 0} (P : A → Type 0) (d : Description) (past : List Step) (talk : Talk A)
    → Stays P talk → length (talk_with d past talk).1 < d.log_limit → P (talk_with d past talk).0
unfolding talk_with
stays-with P d past (finish a) h room = h
stays-with P d past (ask x rest) h room =
    let whole : length past ≤ length (talk_with d past (ask x rest)).1 = talk-grows d past (ask x rest) in
    stays-with P d (past_after (answer d past x).reply x past) (rest (answer d past x))
    (h.1 tt (answer d past x) (answer-room d past x (omega (arith, whole, room)))) room

-- Starting

start-stop : (reply : Reply) → is_log_full reply ≡ false → stop_after_start (start_stop_of reply) ≡ None
start-stop (StepRefused at LogFull) other = absurd cc
start-stop (StepRefused at _) other = refl
start-stop _ other = refl

abbrev HasNoStop : Unit {0} → Started × ReaderState → Type 0
HasNoStop s o = stop_after_start o.0 ≡ None

starts : (d : Description) (r : ReaderState) → Meets Any NotFull HasNoStop tt (start_talk d r)
starts d r = start-meets Any NotFull HasNoStop d r tt (record {
  asks_open = tt;
  opened = λ t a at client ring by is.
      asked-meets Any NotFull (λ (u : Unit {0}) (view : View) (left : List Step). Unit {0})
      (Queried HasNoStop client ring r) (record {
        asks = λ u view x xs j. tt;
        told = λ u v view x xs b j given e. tt;
        stopped = λ u v view x xs b j given e. start-stop b.reply given;
        whole = λ u view j. refl;
      }) t (queries d client) r.view tt;
  refused = λ t a given never. start-stop a.reply given;
})

-- the job did not stop
abbrev IsGoing : Unit {0} → Job → Type 0
IsGoing s j = j.stop ≡ None

-- nor did it, if there is one
abbrev pub NoStop : Option Job → Type 0
NoStop o = OfJob IsGoing tt o

-- a client's start stops no job, and neither does a joystick's
pub stays-start : (d : Description) (j : Job) → Stays NoStop (start_job d j)
stays-start d j =
    start_job-meets NotFull IsGoing d tt j
    (note-meets NotFull HasNoStop tt j.sight (start_talk d j.reading) (starts d j.reading))

-- a joystick's start stops its job as its reader's start does, that is only at a full history
pub stays-joy_start : (d : Description) (j : Job) → Stays NoStop (start_joystick d j)
stays-joy_start d j =
    start_joystick-meets NotFull IsGoing d tt j
    (note-meets NotFull HasNoStop tt j.sight (start_talk d j.reading) (starts d j.reading))

-- Being handed events

abbrev is_full_next : Next → Bool
is_full_next (Full at) = true
is_full_next _ = false

abbrev IsNext : Unit {0} → Next × ReaderState → Type 0
IsNext s o = is_full_next o.0 ≡ false

next-stop : (reply : Reply) → is_log_full reply ≡ false → is_full_next (stop_of reply) ≡ false
next-stop (StepRefused at Revoked) other = refl
next-stop (StepRefused at LogFull) other = absurd cc
next-stop (StepRefused at _) other = refl
next-stop _ other = refl

next-rules : (d : Description) (mode : Mode)
    → NextRules Any NotFull (λ (s : Unit {0}) (r : ReaderState). Unit {0}) IsNext d mode
next-rules d mode = record {
  asks_read = λ s r i. tt;
  reads = λ s t r a i plain none by is. tt;
  stops = λ s t r a i plain none by is. next-stop a.reply by;
  hands = λ s r taken rest i plain q is. refl;
  loses = λ s r taken rest i plain q is. refl;
  empty = λ s r i plain q. refl;
  idles = λ s r i plain is. refl;
  syncs = λ s r i needed.
      sync-meets Any NotFull (λ (u : Unit {0}) (view : View) (left : List Step). Unit {0})
      (Renewed (λ (u : Unit {0}) (o : ReaderState). Unit {0}) IsNext r) d s r (record {
        asks = λ u view x xs j. tt;
        told = λ u t view x xs a j by is. tt;
        stopped = λ u t view x xs a j by is. next-stop a.reply by;
        whole = λ u view j. tt;
      }) tt;
  makes = λ s r event left i handing sync is. refl;
  made_all = λ s r i handing sync is. refl;
  goes_on = λ s r i handing is. tt;
}

turn-stop : (left : Option ℕ) (agains : ℕ) (next : Next) (j : Job) → is_full_next next ≡ false → j.stop ≡ None
    → OfTurn IsGoing (OfGoing IsGoing) tt (turn_after None left agains next j)
turn-stop left agains next j other h = by next other
  where
    handed-stop : (k : Job) → k.stop ≡ None
        → OfTurn IsGoing (OfGoing IsGoing) tt (handed_out (one_less left) k)
    handed-stop k i =
        cond_both (is_done (one_less left)) _ _ (OfTurn IsGoing (OfGoing IsGoing) tt) (λ _. i) (λ _. i)

    by : (n : Next) → is_full_next n ≡ false
        → OfTurn IsGoing (OfGoing IsGoing) tt (turn_after None left agains n j)
    by (Success taken) e = handed-stop (with_sight j (Took taken)) h
    by (Dropped taken) e = handed-stop (with_sight j (Took taken)) h
    by (Sync event) e = handed-stop (with_sight j (Made event)) h
    by (Full at) e = absurd cc
    by _ e = h

stays-round : (d : Description) (s : Unit {0}) (g : LineProgress) → g.job.stop ≡ None
    → Meets Any NotFull (OfTurn IsGoing (OfGoing IsGoing)) s (next_round d None false g)
stays-round d s g h =
    let talk : Talk (Next × ReaderState) = next_talk d (mode_of false g.job.reading.phase) g.job.reading in
    round-meets NotFull IsGoing (OfGoing IsGoing) d s None false g
    (meets-weaker Any (NotedBy NotFull) (λ (u : Unit {0} × List Sight) (o : Next × ReaderState). IsNext u.0 o)
    (λ (u : Unit {0} × List Sight) (o : Next × ReaderState).
    OfTurn IsGoing (OfGoing IsGoing) u.0 (after_next None g (o, u.1)))
    (s, g.job.sight) talk
    (note-meets NotFull IsNext s g.job.sight talk
    (next-meets Any NotFull (λ (u : Unit {0}) (r : ReaderState). Unit {0}) IsNext d _
    (next-rules d _) s g.job.reading tt))
    (λ u o k. turn-stop g.left g.agains o.0 (record g.job { reading = o.1; sight = u.1 }) k h))

-- a follow that does not wait stops its job only where a step is refused as full
pub stays-follow : (d : Description) (n : ℕ) (j : Job) → j.stop ≡ None
    → Stays NoStop (hand_talk d None false None n j)
stays-follow d n j h =
    rounds-meets NotFull IsGoing (OfGoing IsGoing) d None false (stays-round d) n tt
    (record { job = j; left = None; agains = 0 }) h

-- Single calls

stop-none : (reply : Reply) → is_log_full reply ≡ false → stop_after reply ≡ None
stop-none (StepRefused at LogFull) other = absurd cc
stop-none (StepRefused at _) other = refl
stop-none _ other = refl

-- a single call stops its job only where it is refused as full
pub stays-call : (o : Option Step) (j : Job) → j.stop ≡ None → Stays NoStop (call_if j o)
stays-call o j h = call_if-meets NotFull IsGoing j o (λ u v y a is i by. stop-none a.reply by) tt h

-- a tap's call stops its job only where it is refused as full
pub stays-tap_call : (o : Option Step) (j : Job) → j.stop ≡ None → Stays NoStop (tap_call_if j o)
stays-tap_call o j h = tap-meets NotFull IsGoing (λ u v k y a i by. stop-none a.reply by) tt j o h

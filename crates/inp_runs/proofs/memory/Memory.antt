-- A line whose Open was refused for want of memory leaves no job.
use Rattle.std.proofs.Common.{◌≡◌, ℕ, zero, suc, Bool, true, false, List, [], ◌∷◌, ◌++◌, length, Option, Some}
use Rattle.std.proofs.Common.{None, refl, sym, ap, ◌∙◌, inl, inr}
use Rattle.inp_model.specs.Reply.{alone}
use Rattle.inp_reader.proofs.Meets.{Asks, asks-then}
use Rattle.inp_runs.proofs.Common.{list_any, cond_both, Stamped, Step, Inject, End, Reply, Opened, Refused}
use Rattle.inp_runs.proofs.Common.{Description, is_open_step, past_at, Answer, answer, accepted, is_accepted}
use Rattle.inp_runs.proofs.Common.{Call, HasPlace, IsLegalFrom, place_of, next_place, Command, Stream}
use Rattle.inp_runs.proofs.Common.{Stream16, Skip, Follow, Force, Line, Role, Source, Client, Tap, Joy, Owner}
use Rattle.inp_runs.proofs.Common.{is_command_of, Mode, NO_CLIENT, Started, ReaderState, queries, next_talk}
use Rattle.inp_runs.proofs.Common.{Talk}
use Rattle.inp_runs.proofs.Common.{finish, ask, and_then, EndsWith, Sight, Stop, Waiting, unless_stopped, Job}
use Rattle.inp_runs.proofs.Common.{joying_of, step_of, after_call, source_talk, end_talk, tap_call_if, noted}
use Rattle.inp_runs.proofs.Common.{call_sight, on_job, last_talk, call_lacks_memory}
use Rattle.inp_model.specs.declared.step.Step.TheVariants.{Open as ToOpen}
use Rattle.inp_model.specs.declared.reply.Refusal.TheVariants.{NoMemory}
use Rattle.inp_actors.specs.declared.command.Command.TheVariants.{Open, Read, Next}
use Rattle.inp_reader.specs.declared.next.Next.{Next as Answered}
use Rattle.inp_reader.specs.Reader.{start_talk, ask_each, after_open, after_queries}
use Rattle.inp_joy.specs.declared.joy_read.JoyRead.{JoyRead}
use Rattle.inp_joy.specs.declared.joy_read.JoyRead.TheVariants.{Frame, More}
use Rattle.inp_joy.specs.Joy.{JoystickState, JoyAnswer, joy_started, joy_start, turns}
use Rattle.inp_joy.proofs.TurnsWalk.{turns-ask}
use Rattle.inp_reader.specs.Talk.{LeadsTo}
use Rattle.inp_reader.proofs.NextWalk.{OfQueries, each-query, asks-each, next-asks}
use Rattle.inp_script.specs.Client.{LineProgress, Turn, goes_on, ends_with, is_done, mode_of, start_ends}
use Rattle.inp_script.specs.Client.{start_job}
use Rattle.inp_script.specs.Client.{after_next, next_round, on_turn, rounds, hand_talk, client_talk}
use Rattle.inp_script.specs.DoneLine.{line_talk, command_talk}
use Rattle.inp_script.specs.Sight as script
use Rattle.inp_script.specs.Joystick.{Reach, handed_out, line_ends, after_joy_start, start_joystick}
use Rattle.inp_script.specs.Joystick.{after_joy_answer, after_joy_read, after_turns, read_on, on_reach}
use Rattle.inp_script.specs.Joystick.{read_records, joystick_talk}
use Rattle.inp_script.specs.Line.{stream_talk, call_if, stream_numbered}
use Rattle.inp_script.proofs.Replies.{answer_has}
use Rattle.inp_runs.specs.Job.{lines_talk}
use Rattle.inp_runs.proofs.views.Folded.{AreOfRole}
use Rattle.inp_runs.proofs.memory.ReaderTalks.{AreAnswered}
use Rattle.inp_runs.proofs.LinesWalk.{is_open_if}

-- where an Open is refused for want of memory nothing more is asked, and there is no job
abbrev pub GivesUp : Talk (Option Job) → Type 0
GivesUp (finish job) = Unit {0}
GivesUp (ask x rest) =
    (x ≡ ToOpen → (n : ℕ) → rest (alone (Refused n NoMemory)) ≡ finish None)
    × ((answer : Answer) → GivesUp (rest answer))

-- Talks that ask for no Open

abbrev opens_none : Step → Type 0
opens_none x = is_open_step x ≡ false

abbrev NoOpen : {A : Type 0} → Talk A → Type 0
NoOpen talk = Asks opens_none talk

other_step : (x : Step) → is_open_step x ≡ false → x ≡ ToOpen → ⊥
other_step x h e = let opens : is_open_step x ≡ true = ap is_open_step e in cc

no_open-gives_up : (talk : Talk (Option Job)) → NoOpen talk → GivesUp talk
no_open-gives_up (finish job) h = tt
no_open-gives_up (ask x rest) h =
    ((λ e n. absurd (other_step x h.0 e)), λ answer. no_open-gives_up (rest answer) (h.1 answer))

no_open-noted : {A : Type 0} (talk : Talk A) (sight : List Sight) → NoOpen talk → NoOpen (noted talk sight)
no_open-noted (finish a) sight h = tt
no_open-noted (ask x rest) sight h =
    (h.0, λ answer. no_open-noted (rest answer) (sight ++ call_sight x answer.reply) (h.1 answer))

no_open-queries : (d : Description) (client : ℕ) → OfQueries d client opens_none
no_open-queries d client =
    record {
      keys = λ h. refl;
      leds = λ h. refl;
      switches = λ h. refl;
      axes =
          λ code h. refl;
      slots = λ h. refl;
    }

no_open-next : (d : Description) (mode : Mode) (r : ReaderState) → NoOpen (next_talk d mode r)
no_open-next d mode r =
    next-asks opens_none d mode r
    (record { read = refl; discard = refl; queries = no_open-queries d r.client })

module _ (d : Description) (wait : Option Waiting) (skips : Bool) where
  no_open-round : (g : LineProgress) → NoOpen (next_round d wait skips g)
  unfolding next_round
  no_open-round g =
      let talk : Talk (Answered × ReaderState) = next_talk d
      (mode_of skips g.job.reading.phase) g.job.reading in
      asks-then opens_none (noted talk g.job.sight) (λ o. finish (after_next wait g o))
      (no_open-noted talk g.job.sight (no_open-next d (mode_of skips g.job.reading.phase) g.job.reading))
      (λ o. tt)

  no_open-rounds : (n : ℕ) (g : LineProgress) → NoOpen (rounds d wait skips n g)
  unfolding rounds
  no_open-rounds zero g = tt
  no_open-rounds (suc n) g =
      asks-then opens_none (next_round d wait skips g) (on_turn (rounds d wait skips n)) (no_open-round g)
      (by_turn (no_open-rounds n))
    where
      by_turn : ((here : LineProgress) → NoOpen (rounds d wait skips n here)) → (turn : Turn)
          → NoOpen (on_turn (rounds d wait skips n) turn)
      by_turn more (goes_on here) = more here
      by_turn more (ends_with j) = tt

  no_open-hand : (left : Option ℕ) (n : ℕ) (j : Job) → NoOpen (hand_talk d wait skips left n j)
  no_open-hand left n j =
      cond_both (is_done left) _ _ NoOpen (λ _. tt)
      (λ _. no_open-rounds n (record { job = j; left = left; agains = 0 }))

no_open-opened : (d : Description) (r : ReaderState) (at client ring : ℕ)
    → NoOpen (after_open d r (Opened at client ring))
no_open-opened d r at client ring =
    asks-then opens_none (ask_each (queries d client) r.view)
    (λ asked. finish (after_queries client ring r asked))
    (asks-each opens_none (queries d client) r.view
    (each-query d client opens_none (no_open-queries d client))) (λ asked. tt)

noted-gives_up : {A : Type 0} (talk : Talk A) (sight : List Sight) (ends : A × List Sight → Option Job)
    → NoOpen talk
    → GivesUp (and_then (noted talk sight) (λ o. finish (ends o)))
noted-gives_up talk sight ends h =
    no_open-gives_up (and_then (noted talk sight) (λ o. finish (ends o)))
    (asks-then opens_none (noted talk sight) (λ o. finish (ends o)) (no_open-noted talk sight h) (λ o. tt))

-- a start asks for nothing more where its Open was refused
gives_up-start : (d : Description) (j : Job) → GivesUp (start_job d j)
unfolding start_job start_talk
gives_up-start d j =
    ((λ e n. refl), λ answer. by_reply answer.reply (j.sight ++ call_sight ToOpen answer.reply))
  where
    by_reply : (reply : Reply) (sight : List Sight)
        → GivesUp (and_then (noted (after_open d j.reading reply) sight) (λ o. finish (start_ends o)))
    by_reply (Opened at client ring) sight = noted-gives_up (after_open d j.reading (Opened at client ring))
        sight start_ends (no_open-opened d j.reading at client ring)
    by_reply _ sight = tt

gives_up-call : (o : Option Step) (j : Job) → is_open_if o ≡ false → GivesUp (call_if j o)
gives_up-call None j h = tt
gives_up-call (Some x) j h = ((λ e n. absurd (other_step x h e)), λ answer. tt)

gives_up-tap : (o : Option Step) (j : Job) → GivesUp (tap_call_if j o)
gives_up-tap None j = tt
gives_up-tap (Some x) j = ((λ e n. refl), λ answer. tt)

-- a stream asks for no Open, so that none is refused in it
pub gives_up-stream : (stream : List Stamped) (j : Job) → GivesUp (stream_talk stream j)
unfolding stream_talk
gives_up-stream [] j = tt
gives_up-stream (stamped ∷ stream) j =
    let x : Step = Inject stamped.event stamped.now in (
      λ e n. absurd (other_step x refl e),
      λ answer. cond_both (is_accepted answer.reply) _ _ GivesUp
          (λ _. gives_up-stream stream (after_call j x answer)) (λ _. tt),
    )

gives_up-source : (streams : List (List Stamped)) (command : Command) (j : Job)
    → is_command_of Source command ≡ true → GivesUp (source_talk streams command j)
gives_up-source streams (Stream file index) j h = gives_up-stream (stream_numbered streams index) j
gives_up-source streams (Stream16 file index) j h = gives_up-stream (stream_numbered streams index) j
gives_up-source streams Open j h = absurd cc
gives_up-source streams command j h = gives_up-call (step_of NO_CLIENT command) j refl

gives_up-client : (d : Description) (wait : Option Waiting) (n : ℕ) (command : Command) (j : Job)
    → GivesUp (client_talk d wait n command j)
gives_up-client d wait n Open j = gives_up-start d j
gives_up-client d wait n (Next count) j =
    no_open-gives_up (hand_talk d None false (Some count) n j) (no_open-hand d None false (Some count) n j)
gives_up-client d wait n (Skip count) j =
    no_open-gives_up (hand_talk d None true (Some count) n j) (no_open-hand d None true (Some count) n j)
gives_up-client d wait n Follow j =
    no_open-gives_up (hand_talk d wait false None n j) (no_open-hand d wait false None n j)
gives_up-client d wait n Force j = tt
gives_up-client d wait n command j = gives_up-call (step_of j.reading.client command) j refl

no_open-read_on : (d : Description) (most n : ℕ) (j : Job) → NoOpen (read_on d most n j)
unfolding read_on
no_open-read_on d most zero j = tt
no_open-read_on d most (suc n) j =
    asks-then opens_none (noted (turns d most 0 (joying_of j)) j.sight)
    (λ o. after_turns (read_on d most n) j o.0 o.1)
    (no_open-noted (turns d most 0 (joying_of j)) j.sight
    (turns-ask opens_none d (no_open-next d) most 0 (joying_of j)))
    (λ o. by_answer o.0 o.1 (no_open-read_on d most n))
  where
    by_read : (read : JoyRead) (here : Job) → NoOpen (read_on d most n here)
        → NoOpen (after_joy_read (read_on d most n) read here)
    by_read (Frame place) here more = more
    by_read More here more = more
    by_read _ here more = tt

    by_answer : (read : Option JoyAnswer) (sight : List Sight)
        → ((here : Job) → NoOpen (read_on d most n here))
        → NoOpen (after_turns (read_on d most n) j read sight)
    by_answer None sight more = tt
    by_answer (Some answer) sight more =
        by_read answer.read (after_joy_answer j answer sight) (more (after_joy_answer j answer sight))

no_open-records : (d : Description) (n count : ℕ) (j : Job) → NoOpen (read_records d n count j)
unfolding read_records
no_open-records d n zero j = tt
no_open-records d n (suc count) j =
    asks-then opens_none (read_on d n n j) (on_reach (read_records d n count)) (no_open-read_on d n n j)
    (by_reach (no_open-records d n count))
  where
    by_reach : ((here : Job) → NoOpen (read_records d n count here)) → (reach : Option Reach)
        → NoOpen (on_reach (read_records d n count) reach)
    by_reach more None = tt
    by_reach more (Some (handed_out here)) = more here
    by_reach more (Some (line_ends here)) = tt

-- a joystick's start asks for nothing more where its Open was refused
gives_up-joy_start : (d : Description) (j : Job) → GivesUp (start_joystick d j)
unfolding start_joystick joy_start start_talk
gives_up-joy_start d j =
    ((λ e n. refl), λ answer. by_reply answer.reply (j.sight ++ call_sight ToOpen answer.reply))
  where
    by_reply : (reply : Reply) (sight : List Sight)
        → GivesUp
        (and_then
        (noted (and_then (after_open d j.reading reply) (λ o. finish (joy_started d (joying_of j) o))) sight)
        (λ o. finish (after_joy_start j o)))
    by_reply (Opened at client ring) sight =
        let opened : Talk (Started × ReaderState) = after_open d j.reading (Opened at client ring) in
        let joins : Started × ReaderState → Talk (Started × JoystickState) = λ o. finish
        (joy_started d (joying_of j) o)
        in
        noted-gives_up (and_then opened joins) sight (after_joy_start j)
        (asks-then opens_none opened joins (no_open-opened d j.reading at client ring) (λ o. tt))
    by_reply _ sight = tt

joystick-gives_up : (d : Description) (n : ℕ) (command : Command) (j : Job)
    → GivesUp (joystick_talk d n command j)
joystick-gives_up d n Open j = gives_up-joy_start d j
joystick-gives_up d n (Read count) j =
    no_open-gives_up (read_records d n count j) (no_open-records d n count j)
joystick-gives_up d n command j = gives_up-call (step_of j.reading.client command) j refl

gives_up-command : (role : Role) (d : Description) (streams : List (List Stamped)) (wait : Option Waiting)
    (n : ℕ) (command : Command) (j : Job) → is_command_of role command ≡ true
    → GivesUp (command_talk role d streams wait n command j)
gives_up-command Source d streams wait n command j h = gives_up-source streams command j h
gives_up-command Client d streams wait n command j h = gives_up-client d wait n command j
gives_up-command Tap d streams wait n command j h = gives_up-tap (step_of j.reading.client command) j
gives_up-command Joy d streams wait n command j h = joystick-gives_up d n command j
gives_up-command Owner d streams wait n command j h = tt

gives_up-then : (talk : Talk (Option Job)) (next : Option Job → Talk (Option Job)) → GivesUp talk
    → next None ≡ finish None → ((o : Option Job) → GivesUp (next o)) → GivesUp (and_then talk next)
gives_up-then (finish o) next h none more = more o
gives_up-then (ask x rest) next h none more = (
  λ e n. rw h.0 none,
  λ answer. gives_up-then (rest answer) next (h.1 answer) none more,
)

gives_up-end : (stop : Option Stop) (j : Job) → GivesUp (end_talk stop j)
gives_up-end None j = ((λ e n. absurd (other_step End refl e)), λ answer. tt)
gives_up-end (Some stop) j = tt

gives_up-last : (wait : Option Waiting) (role : Role) (j : Job) → GivesUp (last_talk wait role j)
gives_up-last None role j = tt
gives_up-last (Some waiting) Source j = gives_up-end j.stop j
gives_up-last (Some waiting) _ j = tt

module _ (role : Role) (d : Description) (streams : List (List Stamped)) (wait : Option Waiting) (n : ℕ) where
  -- a line whose Open was refused for want of memory asks for nothing more and leaves no job
  pub gives_up-line : (command : Command) (j : Job) → is_command_of role command ≡ true
      → GivesUp (line_talk role d streams wait n command j)
  unfolding line_talk
  gives_up-line command j h = by_stop j.stop
    where
      by_stop : (stop : Option Stop)
          → GivesUp (unless_stopped stop j (command_talk role d streams wait n command j))
      by_stop None = gives_up-command role d streams wait n command j h
      by_stop (Some stop) = tt

  -- where a line leaves no job, the lines behind it ask for nothing
  pub gives_up-lines : (lines : List Line) (j : Job) → AreOfRole role lines
      → GivesUp (lines_talk role d streams wait n lines j)
  unfolding lines_talk
  gives_up-lines [] j of_role = gives_up-last wait role j
  gives_up-lines (line ∷ lines) j of_role =
      gives_up-then (line_talk role d streams wait n line.command j)
      (on_job (lines_talk role d streams wait n lines)) (gives_up-line line.command j of_role.0) refl
      (by (λ (mid : Job). gives_up-lines lines mid of_role.1))
    where
      by : ((mid : Job) → GivesUp (lines_talk role d streams wait n lines mid)) → (o : Option Job)
          → GivesUp (on_job (lines_talk role d streams wait n lines) o)
      by more None = tt
      by more (Some mid) = more mid

-- Calls of a talk that left a job

-- a talk that ended without a job does not end with one
pub never_both : (calls : List Call) (j : Job) → EndsWith (finish None) calls (Some j) → ⊥
unfolding LeadsTo
never_both [] j h = cc
never_both (call ∷ calls) j h = h

module _ (d : Description) where
  memory_when_accepted : (past : List Step) (x : Step) → script.lacks_memory (accepted d past x).reply ≡ false
  memory_when_accepted past ToOpen = refl
  memory_when_accepted past _ = refl

  answer-memory : (past : List Step) (x : Step) → script.lacks_memory (answer d past x).reply ≡ false
  answer-memory past x =
      answer_has (λ given. script.lacks_memory given.reply ≡ false) d past x (λ refusal is. is.memory)
      (λ none. memory_when_accepted past x)

  -- the one-thread device refuses nothing for want of memory
  pub answered-memory : (calls : List Call) → AreAnswered d calls → list_any call_lacks_memory calls ≡ false
  answered-memory [] answered = refl
  answered-memory (call ∷ calls) answered =
      let first : call_lacks_memory call ≡ false = rw answered.1 (answer-memory answered.0 call.step) in
      rw first (answered-memory calls answered.2)

  -- memory ran out in none of them
  pub talk-answered : (history : List Step) (least : ℕ) (talk : Talk (Option Job)) (calls : List Call)
      (j : Job) → GivesUp talk → IsLegalFrom d history least calls → EndsWith talk calls (Some j)
      → AreAnswered d calls
  unfolding LeadsTo
  talk-answered history least talk [] j g legal ends = tt
  talk-answered history least (finish o) (call ∷ calls) j g legal ends = elim ends [ ]
  talk-answered history least (ask x rest) (call ∷ calls) j g legal ends =
      let past : List Step = past_at history (place_of call.answer.reply) in
      elim (let p : HasPlace d history call = legal.1 in p.exact) [
        | inl e ↦ (
          past,
          e,
          talk-answered history (next_place call.answer.reply) (rest call.answer) calls j
              (g.1 call.answer) legal.2 ends.1,
        )
        | inr lacks ↦
            let none : rest call.answer ≡ finish None =
            ap rest lacks.2 ∙ g.0 (sym ends.0 ∙ lacks.0) (length past) in
            absurd (never_both calls j (rw none at ends.1))
      ]

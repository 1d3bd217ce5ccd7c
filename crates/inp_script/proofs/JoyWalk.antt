-- What is known of a job stays so through a joystick's line, where it stays so at a start, at a read and at a
-- single call (`JoyRules`).
use Rattle.std.proofs.Common.{◌≡◌, ℕ, zero, suc, Bool, true, false, List, ◌++◌, refl, Option, Some, None}
use Rattle.inp_script.specs.Client.{with_stop}
use Rattle.inp_script.specs.Job.{with_joying}
use Rattle.inp_joy.specs.Joy.{joy_started}
use Rattle.inp_script.proofs.Common.{Step, Description, Answer, Command, JoyRead, EndsWith, Call, Sight, Job}
use Rattle.inp_script.proofs.Common.{joying_of, step_of, after_call, noted, with_sight, start_talk, Talk}
use Rattle.inp_script.proofs.Common.{finish, after_joy_start, stop_after_start, Started}
use Rattle.inp_script.proofs.Common.{ReaderState, JoystickState, JoyAnswer, joy_start, turns, Reach}
use Rattle.inp_script.proofs.Common.{handed_out}
use Rattle.inp_script.proofs.Common.{line_ends, start_joystick, after_joy_answer, after_joy_read, after_turns}
use Rattle.inp_script.proofs.Common.{read_on, on_reach, read_records, joystick_talk}
use Rattle.inp_actors.specs.declared.command.Command.TheVariants.{Open, Read}
use Rattle.inp_joy.specs.declared.joy_read.JoyRead.TheVariants.{Frame, Again, Full, More}
use Rattle.std.proofs.lemmas.Bool.{cond_both}
use Rattle.inp_reader.proofs.Meets.{Meets, Any, Runs, meets-then}
use Rattle.inp_script.specs.declared.sight.Sight.TheVariants.{Again as NothingVisible}
use Rattle.inp_script.specs.declared.stop.Stop.TheVariants.{Full as FullHistory}
use Rattle.inp_script.proofs.LineWalk.{NotedBy, OfJob, call_if-meets, meets-noted, noted-ends-meet}
use Rattle.inp_script.proofs.Told.{noted_sight}
use Rattle.inp_script.specs.Sight.{start_lacks_memory}

-- of a job behind an answer of its client, with what the answer adds
abbrev pub AfterRead : {S : Type 0} → (S → Job → Type 0) → S → JoyRead → Job → Type 0
AfterRead I s (Again at ends) j = I s (with_sight j (NothingVisible at ends))
AfterRead I s (Full at) j = I s (with_stop j (FullHistory at))
AfterRead I s _ j = I s j

abbrev pub AfterTurns : {S : Type 0} → (S → Job → Type 0) → Job → S → Option JoyAnswer → List Sight → Type 0
AfterTurns I j s None sight = Unit {0}
AfterTurns I j s (Some answer) sight = AfterRead I s answer.read (after_joy_answer j answer sight)

-- a job after a start
abbrev pub joystick_started : Job → Started × JoystickState → List Sight → Job
joystick_started j o sight = record (with_joying j o.1) { sight = sight; stop = stop_after_start o.0 }

abbrev OfReach : {S : Type 0} → (S → Job → Type 0) → S → Option Reach → Type 0
OfReach I s None = Unit {0}
OfReach I s (Some (handed_out j)) = I s j
OfReach I s (Some (line_ends j)) = I s j

-- a joystick's command that is a call, and no more
abbrev pub is_joy_call : Command → Bool
is_joy_call Open = false
is_joy_call (Read count) = false
is_joy_call _ = true

module _ {S : Type 0} (R : S → Step → Answer → S → Type 0) (I : S → Job → Type 0) where
  module _ (d : Description) where
    -- where nothing is to show of a read that had no answer
    pub turns-meet :
        (s : S) (j : Job) (most : ℕ)
        → ((t : S) (calls : List Call) (answer : JoyAnswer) → Runs R s calls t
        → EndsWith (turns d most 0 (joying_of j)) calls (Some answer)
        → AfterRead I t answer.read (after_joy_answer j answer (j.sight ++ noted_sight calls)))
        → Meets Any R (λ (t : S) (o : Option JoyAnswer × List Sight). AfterTurns I j t o.0 o.1) s
        (noted (turns d most 0 (joying_of j)) j.sight)
    turns-meet s j most each =
        noted-ends-meet R (λ t o. AfterTurns I j t o.0 o.1) s j.sight _
        (λ t calls o run.
        elim o as (λ p. EndsWith (turns d most 0 (joying_of j)) calls p
        → AfterTurns I j t p (j.sight ++ noted_sight calls)) [
          | None ↦ λ ends. tt
          | Some answer ↦ each t calls answer run
        ])

    -- a start, by what its client's reader leaves
    pub start_joystick-meets : (s : S) (j : Job)
        → Meets Any (NotedBy R)
        (λ (u : S × List Sight) (o : Started × ReaderState).
        I u.0 (joystick_started j (joy_started d (joying_of j) o) u.1))
        (s, j.sight) (start_talk d j.reading)
        → Meets Any R (OfJob I) s (start_joystick d j)
    unfolding start_joystick joy_start
    start_joystick-meets s j h =
        let start : Talk (Started × ReaderState) = start_talk d j.reading in
        let joy : Started × ReaderState → Talk (Started × JoystickState) = λ o. finish
        (joy_started d (joying_of j) o) in
        let Q : S → (Started × JoystickState) × List Sight
        → Type 0 = λ t o. I t (joystick_started j o.0 o.1) in
        meets-then Any R Q (OfJob I) s _ (λ o. finish (after_joy_start j o))
        (meets-noted R Q s j.sight _
        (meets-then Any (NotedBy R) _ (λ (u : S × List Sight) (o : Started × JoystickState). Q u.0 (o, u.1))
        (s, j.sight) start joy h (λ u o k. k)))
        (λ t o k. cond_both (start_lacks_memory o.0.0) _ _ (OfJob I t) (λ _. tt) (λ _. k))

    -- What is known of a job, I, stays so on each way through a joystick's line.
    pub record JoyRules (command : Command) : Type 0 where
      -- for a start
      pub starts : (s : S) (j : Job) → I s j → Meets Any R (OfJob I) s (start_joystick d j)
      -- for a read, with what its answer adds to the job
      pub reads : (s : S) (j : Job) (most : ℕ) → I s j
          → Meets Any R (λ (t : S) (o : Option JoyAnswer × List Sight). AfterTurns I j t o.0 o.1) s
          (noted (turns d most 0 (joying_of j)) j.sight)
      -- for a single call
      pub calls : is_joy_call command ≡ true → (s t : S) (j : Job) (x : Step) (a : Answer)
          → step_of j.reading.client command ≡ Some x → I s j → R s x a t → I t (after_call j x a)

    read_on-meets : (command : Command) → JoyRules command → (most n : ℕ) (s : S) (j : Job) → I s j
        → Meets Any R (OfReach I) s (read_on d most n j)
    unfolding read_on
    read_on-meets command rules most zero s j i = tt
    read_on-meets command rules most (suc n) s j i =
        meets-then Any R (λ (t : S) (o : Option JoyAnswer × List Sight). AfterTurns I j t o.0 o.1)
        (OfReach I) s (noted (turns d most 0 (joying_of j)) j.sight)
        (λ o. after_turns (read_on d most n) j o.0 o.1)
        (rules.reads s j most i)
        (λ t o k. of_turns t o.0 o.1 (λ here m. read_on-meets command rules most n t here m) k)
      where
        of_read : (t : S) (read : JoyRead) (here : Job)
            → ((k : Job) → I t k → Meets Any R (OfReach I) t (read_on d most n k)) → AfterRead I t read here
            → Meets Any R (OfReach I) t (after_joy_read (read_on d most n) read here)
        of_read t (Frame place) here more k = more here k
        of_read t More here more k = more here k
        of_read t read here more k = k

        of_turns : (t : S) (o : Option JoyAnswer) (sight : List Sight)
            → ((k : Job) → I t k → Meets Any R (OfReach I) t (read_on d most n k)) → AfterTurns I j t o sight
            → Meets Any R (OfReach I) t (after_turns (read_on d most n) j o sight)
        of_turns t None sight more k = tt
        of_turns t (Some answer) sight more k = of_read t answer.read _ more k

    read_records-meets : (command : Command) → JoyRules command → (n count : ℕ) (s : S) (j : Job) → I s j
        → Meets Any R (OfJob I) s (read_records d n count j)
    unfolding read_records
    read_records-meets command rules n zero s j i = i
    read_records-meets command rules n (suc count) s j i =
        meets-then Any R (OfReach I) (OfJob I) s (read_on d n n j) (on_reach (read_records d n count))
        (read_on-meets command rules n n s j i) (λ t o k.
        of_reach t o (read_records-meets command rules n count t) k)
      where
        of_reach : (t : S) (o : Option Reach)
            → ((here : Job) → I t here → Meets Any R (OfJob I) t (read_records d n count here))
            → OfReach I t o → Meets Any R (OfJob I) t (on_reach (read_records d n count) o)
        of_reach t None more k = tt
        of_reach t (Some (handed_out here)) more k = more here k
        of_reach t (Some (line_ends here)) more k = k

    -- a command is a start, or reads of records, or one call, and each keeps what is known
    pub joystick-meets : (command : Command) → JoyRules command → (n : ℕ) (s : S) (j : Job) → I s j
        → Meets Any R (OfJob I) s (joystick_talk d n command j)
    joystick-meets Open rules n s j i = rules.starts s j i
    joystick-meets (Read count) rules n s j i = read_records-meets (Read count) rules n count s j i
    joystick-meets command rules n s j i =
        call_if-meets R I j _ (λ u v y b is. rules.calls refl u v j y b is) s i

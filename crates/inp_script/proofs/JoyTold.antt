-- What each line of a joystick adds to a sight tells of its calls.
use Rattle.std.proofs.Common.{◌≡◌, ℕ, List, [], ◌∷◌, ◌++◌, refl, sym, ◌∙◌, append-nil, Option, Some, None}
use Rattle.inp_script.specs.Job.{with_joying}
use Rattle.inp_script.proofs.Common.{Description, Call, Command, JoyRead, JoyRecord, Started, Talk, finish}
use Rattle.inp_script.proofs.Common.{EndsWith, Sight, stop_after_start, Job, joying_of, JoystickState}
use Rattle.inp_script.proofs.Common.{JoyAnswer}
use Rattle.inp_script.proofs.Common.{joy_start, turns, after_joy_start, start_joystick, record_sight}
use Rattle.inp_script.proofs.Common.{after_joy_answer}
use Rattle.inp_joy.specs.declared.joy_read.JoyRead.TheVariants.{Again}
use Rattle.inp_joy.specs.JoyRecord.{bytes_of_record}
use Rattle.inp_joy.proofs.Records.{HandsOutAsSaid, turns-said}
use Rattle.inp_script.specs.declared.sight.Sight.TheVariants.{Record}
use Rattle.inp_reader.proofs.Meets.{Listed, run-listed}
use Rattle.inp_script.proofs.LineWalk.{job-ends-meet}
use Rattle.inp_script.proofs.JoyWalk.{AfterRead, JoyRules, turns-meet}
use Rattle.inp_script.proofs.JoyLast.{LastIsAgain, turns-last}
use Rattle.inp_reader.proofs.Calls.{finished, split-and_then}
use Rattle.inp_script.proofs.Told.{Tells, tells-then, tells-event, tells-noted, tells-again, tells-call}
use Rattle.inp_script.proofs.Told.{noted-back, noted_sight, memory_there}

-- The calls are those of a start of the joystick client, and the job is what that start leaves.
pub record Starts (d : Description) (j k : Job) (calls : List Call) : Type 0 where
  -- what the start answered
  pub started : Started
  -- the joystick client that the start leaves
  pub joying : JoystickState
  -- the calls are all those of the start
  pub talk_ends : EndsWith (joy_start d (joying_of j)) calls (started, joying)
  -- the job has that client, the entries of the calls, and the stop that the start says
  pub is : k ≡ record (with_joying j joying) {
    sight = j.sight ++ noted_sight calls;
    stop = stop_after_start started;
  }

-- behind the start the line makes no call, so all its calls are the start's
pub starts : (d : Description) (j k : Job) (calls : List Call) → EndsWith (start_joystick d j) calls (Some k)
    → Starts d j k calls
unfolding start_joystick
starts d j k calls h =
    let next : (Started × JoystickState) × List Sight
    → Talk (Option Job) = λ o. finish (after_joy_start j o) in
    let p = split-and_then _ next calls (Some k) h in
    let f = finished (after_joy_start j p.between) (Some k) p.later p.later_ends in
    let b = noted-back _ j.sight p.first p.between p.first_ends in
    let alone : p.first ≡ calls = sym (rw (← f.0, ← p.calls_are) at (append-nil p.first)) in
    record {
      started = p.between.0.0;
      joying = p.between.0.1;
      talk_ends = rw alone at b.0;
      is =
          (let same : record (with_joying j p.between.0.1) {
            sight = p.between.1;
            stop = stop_after_start p.between.0.0;
          } ≡ k = memory_there _ _ k f.1 in cc (same, b.1, alone));
    }

-- what a job saw tells of these calls, from this sight on
abbrev pub TellsOf : List Sight → List Call → Job → Type 0
TellsOf old calls j = Tells calls old j.sight

-- more calls, as they are told
pub told-after : (old mid new : List Sight) (before calls after : List Call) → after ≡ before ++ calls
    → Tells before old mid → Tells calls mid new → Tells after old new
told-after old mid new before calls after is first more =
    rw is (tells-then before calls old mid new first more)

-- what a read left is told, whatever it answered
read-told : (calls : List Call) (old sight : List Sight) (out : Option JoyRecord)
    → sight ≡ old ++ noted_sight calls → Tells calls old (sight ++ record_sight out)
read-told calls old sight None seen = rw append-nil (tells-noted calls old sight seen)
read-told calls old sight (Some r) seen =
    rw append-nil at
    (tells-then calls [] old sight (sight ++ Record (bytes_of_record r) ∷ [])
    (tells-noted calls old sight seen) (tells-event sight (Record (bytes_of_record r)) refl))

-- each start, read and call of a joystick adds to the sight what tells of its own calls
pub joy-told : (old : List Sight) (d : Description) (command : Command)
    → JoyRules Listed (TellsOf old) d command
joy-told old d command = record {
  starts = λ s j i.
      job-ends-meet Listed _ s _
      (λ t calls k run ends.
      let is : Starts d j k calls = starts d j k calls ends in
      told-after old j.sight k.sight s calls t (run-listed s t calls run) i
      (tells-noted calls j.sight k.sight (rw is.is)));
  reads = λ s j most i.
      turns-meet Listed _ d s j most
      (λ t calls answer run ends. of_turns s t j most calls answer i (run-listed s t calls run) ends);
  calls = λ one s t j x a is i by. told-after old j.sight _ s _ t by i (tells-call x _ j.sight refl);
}
  where
    of_turns : (s t : List Call) (j : Job) (most : ℕ) (calls : List Call) (answer : JoyAnswer)
        → TellsOf old s j → t ≡ s ++ calls → EndsWith (turns d most 0 (joying_of j)) calls (Some answer)
        → AfterRead (TellsOf old) t answer.read (after_joy_answer j answer (j.sight ++ noted_sight calls))
    of_turns s t j most calls answer i is ends =
        of_read answer.read _ refl (turns-said d most 0 _ calls answer ends)
        (turns-last d most 0 _ calls answer ends)
      where
        sight : List Sight
        sight = j.sight ++ noted_sight calls

        here : Job
        here = after_joy_answer j answer sight

        of_read : (read : JoyRead) (out : Option JoyRecord) → here.sight ≡ sight ++ record_sight out
            → HandsOutAsSaid read out → LastIsAgain calls read → AfterRead (TellsOf old) t read here
        of_read (Again at ends) (Some r) e said last = absurd said
        of_read (Again at ends) None e said last =
            told-after old j.sight _ s calls t is i
            (tells-again calls last.front last.last j.sight here.sight at ends last.whole last.replied (e
            ∙ append-nil sight))
        of_read read out e said last =
            told-after old j.sight here.sight s calls t is i (rw e (read-told calls j.sight sight out refl))

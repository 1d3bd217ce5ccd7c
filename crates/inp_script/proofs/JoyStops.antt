-- A joystick's job never stops as idle.
use Rattle.std.proofs.Common.{◌≡◌, ℕ, List, Option, Some, None}
use Rattle.inp_script.proofs.Common.{Reply, Step, Description, Call, Command, JoyRead, Started}
use Rattle.inp_script.proofs.Common.{EndsWith, Sight, Stop, Job, stop_after, stop_after_start, Answer}
use Rattle.inp_script.proofs.Common.{Refused as StepRefused, JoyAnswer, turns, start_joystick}
use Rattle.inp_joy.specs.declared.joy_read.JoyRead.TheVariants.{Full}
use Rattle.inp_reader.specs.declared.started.Started.TheVariants.{Refused}
use Rattle.inp_script.specs.declared.stop.Stop.TheVariants.{Idle, Full as FullHistory}
use Rattle.inp_reader.proofs.Meets.{meets-always}
use Rattle.inp_script.proofs.LineWalk.{job-ends-meet}
use Rattle.inp_script.proofs.JoyWalk.{AfterRead, AfterTurns, JoyRules}
use Rattle.inp_script.proofs.JoyTold.{starts}
use Rattle.inp_model.specs.declared.reply.Refusal.TheVariants.{LogFull}

abbrev pub IsNotIdle : Option Stop → Type 0
IsNotIdle stop = (turns at : ℕ) → stop ≡ Some (Idle turns at) → ⊥

-- a job that did not stop did not stop as idle
pub none-not_idle : (stop : Option Stop) → stop ≡ None → IsNotIdle stop
none-not_idle stop none turns at h = cc

-- after a call, and after a start of a reader
pub reply-not_idle : (reply : Reply) → IsNotIdle (stop_after reply)
reply-not_idle (StepRefused place LogFull) turns at h = cc
reply-not_idle (StepRefused place _) turns at h = cc
reply-not_idle _ turns at h = cc

-- a start stops a job only where the history is full
pub started-not_idle : (s : Started) → IsNotIdle (stop_after_start s)
started-not_idle (Refused place LogFull) turns at h = cc
started-not_idle (Refused place _) turns at h = cc
started-not_idle _ turns at h = cc

full-not_idle : (at : ℕ) → IsNotIdle (Some (FullHistory at))
full-not_idle at turns place h = cc

start-not_idle : (d : Description) (j k : Job) (calls : List Call)
    → EndsWith (start_joystick d j) calls (Some k) → IsNotIdle k.stop
start-not_idle d j k calls h = let s = starts d j k calls h in rw s.is (started-not_idle s.started)

abbrev pub NotIdle : {S : Type 0} → S → Job → Type 0
NotIdle s j = IsNotIdle j.stop

-- a start, a read and a call stop a joystick's job only where the history is full
pub joy-stops : {S : Type 0} (R : S → Step → Answer → S → Type 0) (d : Description) (command : Command)
    → JoyRules R NotIdle d command
joy-stops {S} R d command = record {
  starts = λ s j i. job-ends-meet R NotIdle s _ (λ t calls k run ends. start-not_idle d j k calls ends);
  reads = λ s j most i.
      meets-always R (λ (t : S) (o : Option JoyAnswer × List Sight). AfterTurns NotIdle j t o.0 o.1) s _
      (λ t o. of_turns t j o.0 o.1 i);
  calls = λ one s t j x a is i by. reply-not_idle a.reply;
}
  where
    of_read : (t : S) (read : JoyRead) (j : Job) → IsNotIdle j.stop → AfterRead NotIdle t read j
    of_read t (Full at) j i = full-not_idle at
    of_read t _ j i = i

    of_turns : (t : S) (j : Job) (o : Option JoyAnswer) (sight : List Sight) → IsNotIdle j.stop
        → AfterTurns NotIdle j t o sight
    of_turns t j None sight i = tt
    of_turns t j (Some answer) sight i = of_read t answer.read _ i

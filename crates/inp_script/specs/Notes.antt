-- What single calls leave of what a job keeps.
use Rattle.std.specs.Prelude.{◌≡◌, ℕ, suc, ◌+◌, false, List, [], ◌∷◌, ◌++◌, map}
use Rattle.inp_model.specs.declared.stamped.Stamped.{Stamped}
use Rattle.inp_model.specs.declared.injected.Injected.{Injected}
use Rattle.inp_model.specs.declared.step.Step.{Step}
use Rattle.inp_model.specs.declared.reply.Reply.{Reply}
use Rattle.inp_model.specs.declared.reply.Reply.TheVariants.{Took as Taking}
use Rattle.inp_model.specs.Evdev.{EvdevView, IsCall}
use Rattle.inp_model.specs.Injection.{entered_call, calls_of}
use Rattle.inp_model.specs.Reply.{Answer}
use Rattle.inp_model.specs.Run.{Call}
use Rattle.inp_joy.specs.Joy.{JoystickState}
use Rattle.inp_reader.specs.declared.call_made.CallMade.{CallMade}
use Rattle.inp_reader.specs.declared.started.Started.{Started}
use Rattle.inp_reader.specs.Reader.{ReaderState}
use Rattle.inp_script.specs.declared.notes.Notes.{Notes}
use Rattle.inp_script.specs.Job.{Job, Stick, no_stick}
use Rattle.inp_script.specs.Sight.{made_sight, sight_of_call, stop_after, stop_after_start, start_lacks_memory}

-- a job by what it reads as, what it keeps of a joystick, and what is noted of it
abbrev pub job_with : ReaderState → Stick → Notes → Job
job_with r stick notes = record { reading = r; sight = notes.sight; stop = notes.stop; stick = stick }

-- that of a role which keeps nothing of a joystick
abbrev pub job_of : ReaderState → Notes → Job
job_of r notes = job_with r no_stick notes

-- that of a joystick
abbrev pub joy_job : JoystickState → Notes → Job
joy_job k notes = job_with k.reading (record { handed = k.handed; picture = k.picture }) notes

-- how many events a reply says were read
abbrev pub count_taken : Reply → ℕ
count_taken (Taking at count) = count
count_taken _ = 0

-- A step was made, and answered.
pub record IsStepMade (before after : EvdevView) (x : Step) : Type 0 where
  pub answer : Answer
  pub is_call : IsCall before after (record { step = x; answer = answer })

-- A call was made and noted.
pub record IsNoted (before after : EvdevView) (x : Step) (reply : Reply) (old new : Notes) : Type 0 where
  pub answer : Answer
  pub replied : reply ≡ answer.reply
  pub is_call : IsCall before after (record { step = x; answer = answer })
  pub noted : new ≡ record { sight = old.sight ++ sight_of_call x answer.reply answer.events; stop = stop_after answer.reply }

-- A start of a reader was noted, in which memory did not run out.
pub record IsStartNoted (started : Started) (made : List CallMade) (old new : Notes) : Type 0 where
  pub memory : start_lacks_memory started ≡ false
  pub noted : new ≡ record { sight = old.sight ++ map made_sight made; stop = stop_after_start started }

-- what is noted after these calls
abbrev pub notes_after : List Call → Notes → Notes
notes_after [] notes = notes
notes_after (call ∷ calls) notes =
    notes_after calls (record {
      sight = notes.sight ++ sight_of_call call.step call.answer.reply call.answer.events;
      stop = stop_after call.answer.reply;
    })

-- the calls for events that are entered from this place on
abbrev pub entered_calls : ℕ → List Stamped → List Call
entered_calls from [] = []
entered_calls from (stamped ∷ events) = entered_call from stamped ∷ entered_calls (suc from) events

-- the calls for events that were injected by one call, up to the first that is refused
abbrev pub injected_calls : Injected → List Stamped → List Call
injected_calls injected events = calls_of (injected.from + injected.count) injected.from events

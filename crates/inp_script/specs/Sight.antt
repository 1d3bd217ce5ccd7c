-- What calls add to the sight of a job (docs/RUNS.md, "What a job sees").
use Rattle.std.specs.Prelude.{Bool, true, false, if◌then◌else◌, List, [], ◌∷◌, ◌++◌, map, Option, Some, None}
use Rattle.inp_model.specs.declared.taken.Taken.{Taken}
use Rattle.inp_model.specs.declared.step.Step.{Step}
use Rattle.inp_model.specs.declared.reply.Reply.{Reply}
use Rattle.inp_model.specs.declared.reply.Reply.TheVariants.{Again as NothingVisible, Refused as StepRefused}
use Rattle.inp_model.specs.declared.reply.Refusal.TheVariants.{LogFull, NoMemory}
use Rattle.inp_model.specs.Evdev.{is_again}
use Rattle.inp_reader.specs.declared.call_made.CallMade.{CallMade}
use Rattle.inp_reader.specs.declared.started.Started.{Started}
use Rattle.inp_reader.specs.declared.started.Started.TheVariants.{Refused}
use Rattle.inp_reader.specs.Talk.{Talk, finish, ask}
use Rattle.inp_script.specs.declared.sight.Sight.{Sight}
use Rattle.inp_script.specs.declared.sight.Sight.TheVariants.{Call, Took, Again}
use Rattle.inp_script.specs.declared.stop.Stop.{Stop}
use Rattle.inp_script.specs.declared.stop.Stop.TheVariants.{Full}

-- the entry of a call that was not answered Again; a refused call has one too
abbrev pub call_sight : Step → Reply → List Sight
call_sight x reply = if is_again reply then [] else Call x reply ∷ []

-- the entry of an answer Again
abbrev pub again_sight : Reply → List Sight
again_sight (NothingVisible at ends) = Again at ends ∷ []
again_sight _ = []

abbrev pub taken_sight : Taken → Sight
taken_sight taken = Took taken

-- what a single call adds: the call, and each event that it read; or that nothing was visible
abbrev pub sight_of_call : Step → Reply → List Taken → List Sight
sight_of_call x reply events = call_sight x reply ++ again_sight reply ++ map taken_sight events

-- the entry of a call that a reader made
abbrev pub made_sight : CallMade → Sight
made_sight made = Call made.step made.reply

-- a talk, with what its calls add to a sight; of the answers Again it adds none
abbrev pub noted : {A : Type 0} → Talk A → List Sight → Talk (A × List Sight)
noted (finish a) sight = finish (a, sight)
noted (ask x rest) sight = ask x (λ answer. noted (rest answer) (sight ++ call_sight x answer.reply))

-- Ends of jobs

-- a call that was refused since the history is as long as it may be ends the job
abbrev pub stop_after : Reply → Option Stop
stop_after (StepRefused at LogFull) = Some (Full at)
stop_after _ = None

abbrev pub stop_after_start : Started → Option Stop
stop_after_start (Refused at LogFull) = Some (Full at)
stop_after_start _ = None

-- memory ran out while a client was opened
abbrev pub lacks_memory : Reply → Bool
lacks_memory (StepRefused at NoMemory) = true
lacks_memory _ = false

abbrev pub start_lacks_memory : Started → Bool
start_lacks_memory (Refused at NoMemory) = true
start_lacks_memory _ = false

-- When the calls that a reader makes are those of a talk.
use Rattle.std.specs.Prelude.{◌≡◌, if◌then◌else◌, List, [], ◌∷◌, ◌++◌}
use Rattle.inp_model.specs.declared.step.Step.{Step}
use Rattle.inp_model.specs.declared.reply.Reply.{Reply}
use Rattle.inp_model.specs.Evdev.{EvdevView, is_again}
use Rattle.inp_model.specs.Leaves.{AreCalls}
use Rattle.inp_model.specs.Run.{Call}
use Rattle.inp_reader.specs.declared.call_made.CallMade.{CallMade}
use Rattle.inp_reader.specs.Talk.{Talk, EndsWith}

-- what is kept of a call; one that was answered Again is not
abbrev pub kept_call : Step → Reply → List CallMade
kept_call x reply = if is_again reply then [] else record { step = x; reply = reply } ∷ []

-- what is kept of calls, in order
abbrev pub calls_kept : List Call → List CallMade
calls_kept [] = []
calls_kept (call ∷ calls) = kept_call call.step call.answer.reply ++ calls_kept calls

-- The calls that were made on an evdev are those of the talk, this is its result, and they are kept after
-- those that were kept before.
pub record FollowsTalk {A : Type 0} (before after : EvdevView) (old new : List CallMade) (talk : Talk A) (result : A) : Type 0 where
  pub calls : List Call
  pub talk_ends : EndsWith talk calls result
  pub are_calls : AreCalls before after calls
  pub kept : new ≡ old ++ calls_kept calls

-- What a caller asks of an evdev: each step by the answers before it, and a result once nothing more is to be asked.
use Rattle.std.specs.Prelude.{◌≡◌, List, [], ◌∷◌}
use Rattle.inp_model.specs.declared.step.Step.{Step}
use Rattle.inp_model.specs.Description.{Description}
use Rattle.inp_model.specs.Reply.{Answer, answer, past_after}
use Rattle.inp_model.specs.Run.{Call}

pub data Talk (A : Type 0) : Type 0 where
  -- nothing more is asked, and this is the result
  finish : A → Talk A
  -- this step is asked for, and its answer says how the talk goes on
  ask : Step → (Answer → Talk A) → Talk A

-- a talk, and then the one that its result says
abbrev pub and_then : {A B : Type 0} → Talk A → (A → Talk B) → Talk B
and_then (finish a) next = next a
and_then (ask x rest) next = ask x (λ answer. and_then (rest answer) next)

-- the calls are the first ones of a talk, and the other talk is what is left of it
unfoldable pub LeadsTo : {A : Type 0} → Talk A → List Call → Talk A → Type 0
LeadsTo talk [] left = talk ≡ left
LeadsTo (finish a) (call ∷ calls) left = ⊥
LeadsTo (ask x rest) (call ∷ calls) left = (call.step ≡ x) × LeadsTo (rest call.answer) calls left

-- the calls are all of a talk, and this is its result
abbrev pub EndsWith : {A : Type 0} → Talk A → List Call → A → Type 0
EndsWith talk calls result = LeadsTo talk calls (finish result)

-- a talk with the one-thread device after this past: its result, and the past after it
unfoldable pub talk_with : {A : Type 0} → Description → List Step → Talk A → A × List Step
talk_with d past (finish a) = (a, past)
talk_with d past (ask x rest) = talk_with d (past_after (answer d past x).reply x past) (rest (answer d past x))

-- its calls, each with what the device answered
unfoldable pub calls_with : {A : Type 0} → Description → List Step → Talk A → List Call
calls_with d past (finish a) = []
calls_with d past (ask x rest) =
    record { step = x; answer = answer d past x } ∷ calls_with d (past_after (answer d past x).reply x past) (rest (answer d past x))

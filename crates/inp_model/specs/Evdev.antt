-- What a caller of an evdev sees of it, and what one call leaves.
use Rattle.std.specs.Prelude.{◌≡◌, ℕ, ◌+◌, ◌-◌, ◌^◌, ◌≤◌, ◌<◌, ℤ, if◌then◌else◌, nat_lt, Bool, true, false, ◌&&◌, List, [], ◌∷◌, ◌++◌, length, reverse, Option, Some, None}
use Rattle.inp_model.specs.declared.taken.Taken.{Taken}
use Rattle.inp_model.specs.declared.step.Step.{Step}
use Rattle.inp_model.specs.declared.reply.Reply.{Reply}
use Rattle.inp_model.specs.declared.reply.Reply.TheVariants.{Again}
use Rattle.inp_model.specs.Description.{Description}
use Rattle.inp_model.specs.History.{IsHistory}
use Rattle.inp_model.specs.Step.{is_inject}
use Rattle.inp_model.specs.Reply.{is_accepted, written}
use Rattle.inp_model.specs.Run.{Call, place_of, next_place, HasPlace}

pub record EvdevView : Type 0 where
  -- the device's description, which never changes
  pub description : Description
  -- the history that the caller has seen, oldest first
  pub seen : List Step
  -- the places of the caller's own steps
  pub own : List ℕ
  -- how many calls were answered Again
  pub agains : ℕ
  -- how often the caller had the turn, where that is told
  pub turns : Option ℕ
  -- to what the caller is tied, where that is told
  pub tie : Option (List ℕ)

abbrev pub is_again : Reply → Bool
is_again (Again at ends) = true
is_again _ = false

-- the count of answers Again after a reply; it stays at the end of its type
abbrev pub agains_after : Reply → ℕ → ℕ
agains_after reply n = if is_again reply && nat_lt n (2 ^ 64 - 1) then n + 1 else n

-- an accepted call has its place
abbrev pub own_after : Reply → List ℕ → List ℕ
own_after reply own = if is_accepted reply then own ++ place_of reply ∷ [] else own

-- a list begins with another one
abbrev pub BeginsWith : List Step → List Step → Type 0
BeginsWith before after = (more : List Step) × (after ≡ before ++ more)

-- where turns are told they rise
abbrev pub TurnsRise : Option ℕ → Option ℕ → Type 0
TurnsRise None after = Unit {0}
TurnsRise (Some m) None = ⊥
TurnsRise (Some m) (Some n) = m < n

-- where turns are told they do not fall
abbrev pub TurnsStand : Option ℕ → Option ℕ → Type 0
TurnsStand None after = Unit {0}
TurnsStand (Some m) None = ⊥
TurnsStand (Some m) (Some n) = m ≤ n

-- What a call with its answer leaves of what is told. Many events may be injected under one turn, so turns
-- need not rise at each of these.
pub record IsCall (before after : EvdevView) (call : Call) : Type 0 where
  pub description : after.description ≡ before.description
  pub tie : after.tie ≡ before.tie
  -- what was seen before is still there
  pub seen : BeginsWith before.seen after.seen
  -- nothing that was seen before is this call's
  pub fresh : length before.seen ≤ place_of call.answer.reply
  -- an accepted step is the last entry, and a refused one is answered from all that is seen
  pub long : length after.seen ≡ next_place call.answer.reply
  -- the reply is the one-thread device's after the history before its place
  pub placed : HasPlace after.description after.seen call
  pub own : after.own ≡ own_after call.answer.reply before.own
  pub agains : after.agains ≡ agains_after call.answer.reply before.agains
  pub turns : TurnsStand before.turns after.turns
  pub rises : is_inject call.step ≡ false → TurnsRise before.turns after.turns
  -- what is seen is a history of accepted steps
  pub history : IsHistory after.description (reverse after.seen)

-- the same, by the step and by what the caller gets; the call has a turn of its own, whatever its step is
pub record IsEvdevCall (before after : EvdevView) (x : Step) (reply : Reply) (out new_out : List Taken) (cells new_cells : List ℤ) : Type 0 where
  pub call : Call
  pub step : call.step ≡ x
  pub replied : reply ≡ call.answer.reply
  pub out_written : new_out ≡ written call.answer.events out
  pub cells_written : new_cells ≡ written call.answer.cells cells
  pub is_call : IsCall before after call
  pub turns : TurnsRise before.turns after.turns

-- What the calls of a reader leave of what is told of an evdev (docs/RULES.md, "Places and moments").
use Rattle.std.specs.Prelude.{◌≡◌, ℕ, ◌+◌, ◌-◌, ◌^◌, nat_lt, if◌then◌else◌, List, [], ◌∷◌, ◌++◌}
use Rattle.inp_model.specs.Evdev.{EvdevView}
use Rattle.inp_model.specs.Leaves.{AreCalls, Leaves}
use Rattle.inp_model.specs.Reply.{is_accepted}
use Rattle.inp_model.specs.Run.{Call, place_of}
use Rattle.inp_reader.specs.declared.call_made.CallMade.{CallMade}
use Rattle.inp_reader.specs.declared.next.Next.{Next}
use Rattle.inp_reader.specs.declared.next.Next.TheVariants.{Again}
use Rattle.inp_reader.specs.FollowsTalk.{calls_kept}

-- the places of the calls that were accepted, in order
abbrev pub accepted_places : List CallMade → List ℕ
accepted_places [] = []
accepted_places (call ∷ calls) = (if is_accepted call.reply then place_of call.reply ∷ [] else []) ++ accepted_places calls

-- the count of answers Again after `next` answered; it stays at the end of its type
abbrev pub agains_after_next : Next → ℕ → ℕ
agains_after_next (Again at ends) n = if nat_lt n (2 ^ 64 - 1) then n + 1 else n
agains_after_next _ n = n

-- What the calls that a reader made leave of what is told of an evdev. They are those that it kept, and those answered
-- Again. What they leave is said of all of them (`Leaves` of `inp_model`), and the own places once more of those kept.
pub record LeavesMade (before after : EvdevView) (made : List CallMade) : Type 0 where
  pub calls : List Call
  pub kept : made ≡ calls_kept calls
  pub are_calls : AreCalls before after calls
  pub leaves : Leaves before after calls
  pub own : after.own ≡ before.own ++ accepted_places made

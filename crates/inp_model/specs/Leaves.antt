-- What calls on an evdev, one after another, leave of what its caller is told (docs/RULES.md, "Places and moments").
use Rattle.std.specs.Prelude.{◌≡◌, ℕ, List, [], ◌∷◌, ◌++◌, length, reverse}
use Rattle.inp_model.specs.Evdev.{EvdevView, IsCall, BeginsWith, own_after, agains_after}
use Rattle.inp_model.specs.History.{IsHistory}
use Rattle.inp_model.specs.Run.{Call, IsLegalFrom}

-- calls on an evdev, one after another
unfoldable pub AreCalls : EvdevView → EvdevView → List Call → Type 0
AreCalls before after [] = after ≡ before
AreCalls before after (call ∷ calls) = (between : EvdevView) × IsCall before between call × AreCalls between after calls

-- the places of the accepted ones, in order
abbrev pub places_of : List Call → List ℕ
places_of [] = []
places_of (call ∷ calls) = own_after call.answer.reply [] ++ places_of calls

-- the count of answers Again after calls; it stays at the end of its type
abbrev pub agains_after_calls : List Call → ℕ → ℕ
agains_after_calls [] n = n
agains_after_calls (call ∷ calls) n = agains_after_calls calls (agains_after call.answer.reply n)

-- What these calls leave. The device is the same, and the tie, and what was seen before is still there. The
-- caller's own places grow by theirs, in order, and answers Again are counted. The calls are a legal run of
-- what is seen afterwards, from what was seen before on, and what is seen stays a history of accepted steps.
pub record Leaves (before after : EvdevView) (calls : List Call) : Type 0 where
  pub description : after.description ≡ before.description
  pub tie : after.tie ≡ before.tie
  pub seen : BeginsWith before.seen after.seen
  pub own : after.own ≡ before.own ++ places_of calls
  pub agains : after.agains ≡ agains_after_calls calls before.agains
  pub legal : IsLegalFrom after.description after.seen (length before.seen) calls
  pub history : IsHistory before.description (reverse before.seen) → IsHistory after.description (reverse after.seen)

-- what some calls leave, where nothing more is said of them: also those of a call that ran out of memory
pub record IsLeft (before after : EvdevView) : Type 0 where
  pub calls : List Call
  pub are_calls : AreCalls before after calls
  pub leaves : Leaves before after calls

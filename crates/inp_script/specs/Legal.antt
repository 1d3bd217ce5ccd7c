-- How what a job saw stands to the history of its device (docs/RUNS.md, "What a job sees").
use Rattle.std.specs.Prelude.{◌≡◌, ℕ, ◌+◌, ◌-◌, ◌^◌, ◌≤◌, ◌⊎◌, Bool, true, false, List, [], ◌∷◌, ◌++◌, filter, None, Some}
use Rattle.inp_model.specs.declared.step.Step.{Step}
use Rattle.inp_model.specs.Description.{Description}
use Rattle.inp_model.specs.Evdev.{EvdevView, is_again, own_after}
use Rattle.inp_model.specs.Run.{Call, IsLegalRun}
use Rattle.inp_script.specs.declared.sight.Sight.{Sight}
use Rattle.inp_script.specs.declared.sight.Sight.TheVariants.{Call as Called, Again}
use Rattle.inp_script.specs.declared.stop.Stop.TheVariants.{Idle}
use Rattle.inp_script.specs.Job.{Job}
use Rattle.inp_script.specs.Sight.{call_sight, again_sight}

-- the entries of calls, and of answers Again
abbrev pub sight_of_calls : List Call → List Sight
sight_of_calls [] = []
sight_of_calls (call ∷ calls) =
    (call_sight call.step call.answer.reply ++ again_sight call.answer.reply) ++ sight_of_calls calls

-- an entry of a call, or of an answer Again, and not of an event or a record
abbrev pub is_call_entry : Sight → Bool
is_call_entry (Called x reply) = true
is_call_entry (Again at ends) = true
is_call_entry _ = false

-- The calls that a sight tells of are a legal run of what was seen of the history.
pub record IsLegalSight (d : Description) (seen : List Step) (sight : List Sight) : Type 0 where
  pub calls : List Call
  pub legal : IsLegalRun d seen calls
  pub entries : sight_of_calls calls ≡ filter is_call_entry sight

-- the places of the accepted calls that a sight tells of, in order
abbrev pub places_in : List Sight → List ℕ
places_in [] = []
places_in (Called x reply ∷ sight) = own_after reply [] ++ places_in sight
places_in (_ ∷ sight) = places_in sight

-- A sight grew, and the evdev gained as its own the places of the accepted calls that the sight gained, in order.
pub record GainsPlaces (before after : EvdevView) (old new : List Sight) : Type 0 where
  pub gained : List Sight
  pub sight : new ≡ old ++ gained
  pub own : after.own ≡ before.own ++ places_in gained

-- Where the calls of a sight were a legal run of what was seen before, those of the new one are a legal run of what is
-- seen now.
abbrev pub StaysLegal : Description → EvdevView → EvdevView → List Sight → List Sight → Type 0
StaysLegal d before after old new = IsLegalSight d before.seen old → IsLegalSight d after.seen new

-- The first calls are the other ones, in order, but for some of those that were answered Again. A sight
-- leaves out so the calls that a line waited through.
abbrev pub LeavesOut : List Call → List Call → Type 0
LeavesOut kept [] = kept ≡ []
LeavesOut kept (call ∷ calls) = ((rest : List Call) × (kept ≡ call ∷ rest) × LeavesOut rest calls) ⊎ ((is_again call.answer.reply ≡ true) × LeavesOut kept calls)

-- A line may have stopped its job as idle. Then the evdev's count of answers Again rose by as many as it says
-- at least, or is at the end of its type.
abbrev pub CountsTurns : EvdevView → EvdevView → Job → Job → Type 0
CountsTurns before after old new =
    (turns at : ℕ) → old.stop ≡ None → new.stop ≡ Some (Idle turns at)
    → (before.agains + turns ≤ after.agains) ⊎ (2 ^ 64 - 1 ≤ after.agains)

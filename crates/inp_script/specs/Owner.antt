-- What the lines of owners do (docs/RUNS.md, "Jobs", and docs/RULES.md, "Devices made by requests").
use Rattle.std.specs.Prelude.{◌≡◌, ℕ, ◌⊎◌, List, [], ◌∷◌, ◌++◌, map, Option, Some, None}
use Rattle.inp_model.specs.declared.event.Event.{Event}
use Rattle.inp_feedback.specs.declared.fed.Fed.{Fed}
use Rattle.inp_feedback.specs.declared.fed.Fed.TheVariants.{Took, Full}
use Rattle.inp_feedback.specs.Feeds.{Feeding}
use Rattle.inp_script.specs.declared.fed_sight.FedSight.{FedSight}
use Rattle.inp_script.specs.declared.fed_sight.FedSight.TheVariants.{Answer, Event as Given}
use Rattle.inp_script.specs.declared.stop.Stop.{Stop}
use Rattle.inp_script.specs.declared.stop.Stop.TheVariants.{Full as FullList}

-- what an owner was told so far, and why it stopped, if it did
pub record OwnerState : Type 0 where
  pub fed : List FedSight
  pub stop : Option Stop

-- before its first line
abbrev pub first_owning : OwnerState
first_owning = record { fed = []; stop = None }

-- why an owner stops after an answer, if it does
abbrev pub stop_after_answer : Fed → Option Stop
stop_after_answer (Took at count) = None
stop_after_answer (Full at) = Some (FullList at)

-- after a feedback call that was answered so, and that took these events
abbrev pub after_feedback : Fed → List Event → OwnerState → OwnerState
after_feedback answer es o = record { fed = o.fed ++ Answer answer ∷ map Given es; stop = stop_after_answer answer }

module _ {S : Type 0} (feeds : Feeding S) where
  -- A feedback call was made and noted.
  pub record IsFed (before after : S) (room : ℕ) (old new : OwnerState) : Type 0 where
    pub answer : Fed
    pub events : List Event
    pub fed : feeds before after room answer events
    pub noted : new ≡ after_feedback answer events old

  -- A feedback call was made, or nothing was.
  abbrev pub MayHaveFed : S → S → ℕ → Type 0
  MayHaveFed before after room = (after ≡ before) ⊎ ((answer : Fed) × (events : List Event) × feeds before after room answer events)

  -- An owner that stopped so, or did not stop, did a line: it made a feedback call, or nothing where it had stopped.
  abbrev pub FeedsUnless : Option Stop → S → S → ℕ → OwnerState → OwnerState → Type 0
  FeedsUnless None before after room old new = IsFed before after room old new
  FeedsUnless (Some stop) before after room old new = (after ≡ before) × (new ≡ old)

  -- An owner did the line of a feedback call.
  abbrev pub FeedsLine : S → S → ℕ → OwnerState → OwnerState → Type 0
  FeedsLine before after room old new = FeedsUnless old.stop before after room old new

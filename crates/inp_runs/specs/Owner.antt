-- What is promised of an owner (docs/PROMISES.md).
use Rattle.std.specs.Prelude.{◌≡◌, ℕ, ◌⊎◌, true, List, [], ◌∷◌, ◌++◌, map, reverse}
use Rattle.std.specs.List.{filter_map}
use Rattle.inp_model.specs.declared.step.Step.{Step}
use Rattle.inp_model.specs.Description.{Description}
use Rattle.inp_actors.specs.declared.line.Line.{Line}
use Rattle.inp_actors.specs.Command.{feedback_room}
use Rattle.inp_feedback.specs.declared.u_entry.UEntry.{UEntry}
use Rattle.inp_feedback.specs.declared.u_entry.UEntry.TheVariants.{Made, Feedback}
use Rattle.inp_feedback.specs.UEntry.{steps_in}
use Rattle.inp_feedback.specs.Feedback.{is_full_of_feedback, taken_by_feedback, fed, kept_after_feedback}
use Rattle.inp_script.specs.Owner.{OwnerState, first_owning, after_feedback}

-- how many events each feedback call of these lines has room for
abbrev pub rooms_of : List Line → List ℕ
rooms_of lines = filter_map (λ (line : Line). feedback_room line.command) lines

-- The feedback calls in what a device kept, newest first, are an owner's, with room for so many events each,
-- the last call first. Each was answered from what was kept before it, and this is what the owner was told.
unfoldable pub HasFed : Description → List UEntry → List ℕ → OwnerState → Type 0
HasFed d [] [] o = o ≡ first_owning
HasFed d [] (room ∷ rooms) o = ⊥
HasFed d (Made x ∷ kept) rooms o = HasFed d kept rooms o
HasFed d (Feedback count ∷ kept) [] o = ⊥
HasFed d (Feedback count ∷ kept) (room ∷ rooms) o =
    (before : OwnerState) × HasFed d kept rooms before
    × (Feedback count ∷ kept ≡ kept_after_feedback d kept room)
    × (o ≡ after_feedback (fed d kept room) (taken_by_feedback d kept room) before)

-- A call was refused, since as many are kept as the limit says, and the owner stopped. Only steps were kept
-- after it.
pub record IsRefusedAtLimit (d : Description) (kept : List UEntry) (rooms done : List ℕ) (before last : OwnerState) : Type 0 where
  pub room : ℕ
  -- the lines after it were not done
  pub left : List ℕ
  pub is_next : rooms ≡ reverse done ++ room ∷ left
  -- the steps that came after it, newest first, and what was kept when it was made
  pub later : List Step
  pub found : List UEntry
  pub split : kept ≡ map Made later ++ found
  pub full : is_full_of_feedback d found ≡ true
  pub told : last ≡ after_feedback (fed d found room) [] before

-- all calls were made, or one was refused
abbrev pub EndsFed : Description → List UEntry → List ℕ → List ℕ → OwnerState → OwnerState → Type 0
EndsFed d kept rooms done before last = ((reverse done ≡ rooms) × (last ≡ before)) ⊎ IsRefusedAtLimit d kept rooms done before last

-- An owner did its lines, with room for so many events each, on a device with this history. What the device
-- kept is the history's steps and, among them, the owner's calls and no other ones.
pub record HasOwned (d : Description) (history : List Step) (rooms : List ℕ) (last : OwnerState) : Type 0 where
  -- what the device kept, newest first
  pub kept : List UEntry
  pub steps : reverse (steps_in kept) ≡ history
  -- the room of each call that was kept, the last call first
  pub done : List ℕ
  pub before : OwnerState
  pub fed : HasFed d kept done before
  pub ends : EndsFed d kept rooms done before last

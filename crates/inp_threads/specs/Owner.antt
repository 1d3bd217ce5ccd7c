-- What an owner's thread makes of its device (docs/RULES.md, "Devices made by requests").
use Rattle.std.specs.Prelude.{◌≡◌, ℕ, ◌⊎◌, List, [], ◌∷◌, ◌++◌, length, reverse, take}
use Rattle.inp_model.specs.declared.event.Event.{Event}
use Rattle.inp_model.specs.Description.{Description}
use Rattle.inp_turn.specs.declared.kept.Kept.{Ghosts}
use Rattle.inp_turn.specs.declared.pass.Pass.{Pass}
use Rattle.inp_turn.specs.declared.pass_view.PassView.{PassView}
use Rattle.inp_turn.specs.Pass.{view_of}
use Rattle.inp_port.specs.declared.port.PortOf.{PortOf}
use Rattle.inp_port.specs.Port.{description_of}
use Rattle.inp_feedback.specs.declared.u_entry.UEntry.{UEntry}
use Rattle.inp_feedback.specs.declared.u_entry.UEntry.TheVariants.{Made, Feedback}
use Rattle.inp_feedback.specs.declared.fed.Fed.{Fed}
use Rattle.inp_feedback.specs.Feeds.{taken_count}
use Rattle.inp_feedback.specs.Feedback.{taken_by_feedback, fed, kept_after_feedback}
use Rattle.inp_uinput.specs.UdevView.{UdevView}
use Rattle.inp_uinput.specs.FeedbackTurn.{IsFeedbackTurn}
use Rattle.inp_script.specs.Owner.{OwnerState, first_owning, after_feedback}
use Rattle.inp_runs.specs.Owner.{EndsFed}

-- One turn was taken for a feedback call with room for so many events. It was answered so, and took these events.
pub record IsFedTurn (d : Description) (before : PassView Description UEntry) (room : ℕ) (answer : Fed) (events : List Event) (after : PassView Description UEntry) : Type 0 where
  pub out : List Event
  pub new_out : List Event
  pub has_room : length out ≡ room
  pub taken : events ≡ take (taken_count answer) new_out
  pub turn : IsFeedbackTurn d before answer out new_out after

-- the same by a port with a pass, and the port stays the same one
abbrev pub IsFedBy : {K : Ghosts UdevView Description UEntry} → PortOf UdevView UEntry → PortOf UdevView UEntry → Pass UdevView Description UEntry K → Pass UdevView Description UEntry K → ℕ → Fed → List Event → Type 0
IsFedBy port now before after room answer events = (now ≡ port) × IsFedTurn (description_of port) (view_of before) room answer events (view_of after)

-- A feedback call stands after this kept list, newest first. It is the next one of an owner whose calls so
-- far stand at the places `earlier`, had the rooms `done` and told it this much.
pub record IsNextCall (d : Description) (kept : List UEntry) (count : ℕ) (earlier done : List ℕ) (before : OwnerState) (own rooms : List ℕ) (o : OwnerState) : Type 0 where
  pub room : ℕ
  pub place : own ≡ earlier ++ length kept ∷ []
  pub rooms_are : rooms ≡ room ∷ done
  pub answered : Feedback count ∷ kept ≡ kept_after_feedback d kept room
  pub told : o ≡ after_feedback (fed d kept room) (taken_by_feedback d kept room) before

-- What a device kept, newest first, has an owner's feedback calls at these places, and with room for so many
-- events each, the last call first. Each was answered from what was kept before it, and this is what the
-- owner was told. Between them stand steps and, it may be, calls of others.
unfoldable pub HasCallsAt : Description → List UEntry → List ℕ → List ℕ → OwnerState → Type 0
HasCallsAt d [] own rooms o = (own ≡ []) × (rooms ≡ []) × (o ≡ first_owning)
HasCallsAt d (Made x ∷ kept) own rooms o = HasCallsAt d kept own rooms o
HasCallsAt d (Feedback count ∷ kept) own rooms o =
    HasCallsAt d kept own rooms o
    ⊎ ((earlier : List ℕ) × (done : List ℕ) × (before : OwnerState) × HasCallsAt d kept earlier done before
    × IsNextCall d kept count earlier done before own rooms o)

-- An owner did its lines, with room for so many events each, and this is what it was told: its pass has seen
-- its calls, and owns their places alone.
pub record HasFedLines (d : Description) (rooms : List ℕ) (view : PassView Description UEntry) (last : OwnerState) : Type 0 where
  pub done : List ℕ
  pub before : OwnerState
  pub calls : HasCallsAt d (reverse view.seen) view.own done before
  pub ends : EndsFed d (reverse view.seen) rooms done before last

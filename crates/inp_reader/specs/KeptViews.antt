-- What holds of the views that a reader keeps, and of the synthesised events that it hands out (docs/READER.md, "The
-- reader").
use Rattle.std.specs.Prelude.{ℕ, pos, ◌≡◌, ◌≤◌, List, [], ◌∷◌}
use Rattle.inp_model.specs.declared.multi_touch.TheConstants.{ABS_MT_SLOT, ABS_MT_TOOL_Y}
use Rattle.inp_model.specs.declared.event.Event.{Event}
use Rattle.inp_model.specs.Description.{Description}
use Rattle.inp_model.specs.Evdev.{EvdevView}
use Rattle.inp_recon.specs.declared.view.View.{View}
use Rattle.inp_recon.specs.View.{IsSizedFor, first_view, view_after_events}
use Rattle.inp_reader.specs.declared.call_made.CallMade.{CallMade}
use Rattle.inp_reader.specs.declared.mode.Mode.{Mode}
use Rattle.inp_reader.specs.declared.mode.Mode.TheVariants.{Sync as Synchronising}
use Rattle.inp_reader.specs.declared.phase.Phase.TheVariants.{Needed, Handing}
use Rattle.inp_reader.specs.declared.next.Next.{Next}
use Rattle.inp_reader.specs.declared.next.Next.TheVariants.{Sync, Synced}
use Rattle.inp_reader.specs.Talk.{Talk}
use Rattle.inp_reader.specs.Synthesis.{value_at}
use Rattle.inp_reader.specs.Laws.{AreOfOneDevice}
use Rattle.inp_reader.specs.Reader.{ReaderState, start_talk, next_talk}
use Rattle.inp_reader.specs.FollowsTalk.{FollowsTalk}

-- A view as a reader of such devices keeps it: sized for their slots, and with the axes whose values belong to slots at
-- 0, since nothing sets them.
pub record IsKeptView (d : Description) (view : View) : Type 0 where
  pub sized : IsSizedFor d.slots view
  pub axes : (code : ℕ) → ABS_MT_SLOT ≤ code → code ≤ ABS_MT_TOOL_Y → value_at view.axes code ≡ pos 0

-- a new view is one
abbrev pub NewViewIsKept : Type 0
NewViewIsKept = (d : Description) → IsKeptView d (first_view d)

-- any two of them are of one device
abbrev pub KeptViewsAreOfOneDevice : Type 0
KeptViewsAreOfOneDevice =
    (d : Description) (old new : View) → IsKeptView d old → IsKeptView d new → AreOfOneDevice d.slots old new

-- a talk that is held on an evdev of this description, by a reader with such a view, leaves it with such a view
abbrev pub KeepsTheView : {A : Type 0} → Description → ReaderState → Talk (A × ReaderState) → Type 0
KeepsTheView {A} d r talk =
    (before after : EvdevView) (old new : List CallMade) (result : A × ReaderState)
    → before.description ≡ d
    → IsKeptView d r.view
    → FollowsTalk before after old new talk result
    → IsKeptView d result.1.view

-- a start does so, and a `next` in any mode
abbrev pub StartKeepsTheView : Type 0
StartKeepsTheView = (d : Description) (r : ReaderState) → KeepsTheView d r (start_talk d r)

abbrev pub NextKeepsTheView : Type 0
NextKeepsTheView = (d : Description) (mode : Mode) (r : ReaderState) → KeepsTheView d r (next_talk d mode r)

-- Synchronising

-- the synthesised events that a `next` hands out: one, or none
abbrev pub synthesised_in : Next → List Event
synthesised_in (Sync event) = event ∷ []
synthesised_in _ = []

-- What a `next` hands out, and then what is left, leads from a view to the reader's view. It goes on in phase Handing,
-- and at Synced nothing is left.
pub record LeadsOn (view : View) (next : Next) (r : ReaderState) : Type 0 where
  pub leads : view_after_events (view_after_events view (synthesised_in next)) r.left ≡ r.view
  pub goes_on : (event : Event) → next ≡ Sync event → r.phase ≡ Handing
  pub synced : next ≡ Synced → r.left ≡ []

-- a `next` that synchronises, in Sync mode, leads on from the view that the reader had
abbrev pub SynchronisesItsView : Type 0
SynchronisesItsView =
    (d : Description) (r : ReaderState) (before after : EvdevView) (old new : List CallMade) (result : Next × ReaderState)
    → before.description ≡ d
    → IsKeptView d r.view
    → r.phase ≡ Needed
    → FollowsTalk before after old new (next_talk d Synchronising r) result
    → LeadsOn r.view result.0 result.1

-- and each later one in Sync mode from the view that those before it led to
abbrev pub HandsOutTheRest : Type 0
HandsOutTheRest =
    (d : Description) (r : ReaderState) (view : View) (before after : EvdevView) (old new : List CallMade)
    (result : Next × ReaderState)
    → r.phase ≡ Handing
    → view_after_events view r.left ≡ r.view
    → FollowsTalk before after old new (next_talk d Synchronising r) result
    → LeadsOn view result.0 result.1

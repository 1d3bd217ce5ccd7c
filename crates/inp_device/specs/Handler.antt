-- How a frame changes the handler.
use Rattle.std.specs.Prelude.{◌≡◌, ℕ, List, [], map, Option, Some, None}
use Rattle.inp_model.specs.declared.event.Event.{Event}
use Rattle.inp_model.specs.declared.filter.Filter.{Filter}
use Rattle.inp_model.specs.Description.{Description}
use Rattle.inp_model.specs.Filter.{Timed, given_after}
use Rattle.inp_filter.specs.Row.{let_through}
use Rattle.inp_filter.specs.FilterState.{FiltersStandFor}
use Rattle.inp_client.specs.Client.{after_offer}
use Rattle.inp_client.specs.Numbers.{IsStoredOnce}
use Rattle.inp_device.specs.declared.handler.Handler.{Handler}

-- no clients yet, and filters that were given nothing
pub record IsFreshHandler (d : Description) (h : Handler) : Type 0 where
  pub clients : h.clients ≡ record { list = []; rings = [] }
  pub filters : FiltersStandFor d.filters [] h.filters.kept

-- What is offered of a frame: what filters let through, after what the first one was given before, or all of
-- it while a client holds the grab.
abbrev pub offered_of : Option ℕ → List Filter → ℕ → List Timed → List Event → List Event
offered_of None fs now given events = let_through fs now given events
offered_of (Some client) fs now given events = events

-- what the first filter was given after the frame
abbrev pub given_with : Option ℕ → ℕ → List Timed → List Event → List Timed
given_with None now given events = given_after now given events
given_with (Some client) now given events = given

-- The frame came to the filters unless a client holds the grab. What is left of it was offered to each
-- client, with the place and under the grab of the step.
pub record IsAfterFrame (before : Handler) (events : List Event) (now : ℕ) (after : Handler) : Type 0 where
  pub clients : (fs : List Filter) (given : List Timed) → FiltersStandFor fs given before.filters.kept
      → after.clients.list ≡ map (after_offer (offered_of before.holder fs now given events) now before.place before.holder) before.clients.list
  -- each event is kept once, whoever gets it
  pub once : (fs : List Filter) (given : List Timed) → FiltersStandFor fs given before.filters.kept
      → IsStoredOnce (offered_of before.holder fs now given events) now before.place before.holder before.clients after.clients
  pub filters : (fs : List Filter) (given : List Timed) → FiltersStandFor fs given before.filters.kept
      → FiltersStandFor fs (given_with before.holder now given events) after.filters.kept
  pub place : after.place ≡ before.place
  pub holder : after.holder ≡ before.holder

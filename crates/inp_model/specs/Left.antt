-- What is left of a frame for the clients (docs/RULES.md, "A client's queue" and "Filters").
use Rattle.std.specs.Prelude.{ℕ, zero, suc, Bool, false, ◌&&◌, ◌||◌, not, if◌then◌else◌, nat_eq, nat_lt, List, [], ◌∷◌, length, filter, is_some}
use Rattle.inp_model.specs.declared.event.TheConstants.{EV_SYN}
use Rattle.inp_model.specs.declared.event.Event.{Event}
use Rattle.inp_model.specs.declared.filter.Filter.{Filter}
use Rattle.inp_model.specs.declared.step.Step.{Step}
use Rattle.inp_model.specs.Description.{Description}
use Rattle.inp_model.specs.Filter.{Timed, timed, is_eaten, with_event, given_after}
use Rattle.inp_model.specs.Past.{holder}
use Rattle.inp_model.specs.RawItem.{Frame}
use Rattle.inp_model.specs.Frame.{moment, frames_of_step}

-- which events of which frames are kept from all clients, by their index in the frame
abbrev pub Eats : Type 0
Eats = Frame → ℕ → Bool

-- Below, events that came to the filters of a device are written newest first.

-- what the first filter was given after more frames
abbrev pub given_by : List Frame → List Timed → List Timed
given_by [] before = before
given_by (f ∷ fs) before = given_by fs (given_after (moment f) before f.cut.events)

-- What the first filter was given in a past. Frames that are passed while a client holds the grab come to no filter.
unfoldable pub given_in : Description → List Step → List Timed
given_in d [] = []
given_in d (x ∷ past) =
    let before = given_in d past in
    if is_some (holder past) then before else given_by (frames_of_step d past x) before

-- of two frames of a step, the second one ends first
abbrev pub ends_later : Frame → Frame → Bool
ends_later f g = nat_lt (length g.cut.until) (length f.cut.until)

-- What the first filter was given before a frame: one step may end several frames.
abbrev pub given_before : Description → Frame → List Timed
given_before d f = given_by (filter (ends_later f) (frames_of_step d f.before f.step)) (given_in d f.before)

-- a filter eats the event with this index of a frame that ends at this moment, after what the first one was
-- given before
abbrev pub eaten_from : List Filter → ℕ → List Timed → List Event → ℕ → Bool
eaten_from fs moment before [] k = false
eaten_from fs moment before (e ∷ es) zero = is_eaten fs (timed moment e) before
eaten_from fs moment before (e ∷ es) (suc k) = eaten_from fs moment (with_event moment e before) es k

-- Filters keep events from all clients, but of no frame that was passed while a client held the grab.
unfoldable pub eaten_by : List Filter → Description → Eats
eaten_by [] d f k = false
eaten_by (x ∷ fs) d f k = not (is_some (holder f.before)) && eaten_from (x ∷ fs) (moment f) (given_before d f) f.cut.events k

-- what the device itself keeps from all clients: what its filters eat
unfoldable pub eaten : Description → Eats
eaten d f k = eaten_by d.filters d f k

-- the event with this index is left; EV_SYN always is
abbrev pub is_left : (ℕ → Bool) → ℕ → Event → Bool
is_left eats k e = nat_eq e.kind EV_SYN || not (eats k)

-- those of a frame's events, from this index on, that are left
abbrev pub left_from : (ℕ → Bool) → ℕ → List Event → List Event
left_from eats k [] = []
left_from eats k (e ∷ es) =
    let rest = left_from eats (suc k) es in
    if is_left eats k e then e ∷ rest else rest

-- what is left of a frame
abbrev pub left : Eats → Frame → List Event
left eats f = left_from (eats f) 0 f.cut.events

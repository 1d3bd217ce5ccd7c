-- The events that wait for the end of their frame.
use Rattle.std.specs.Prelude.{ℕ, ℤ, ◌==◌, Bool, if◌then◌else◌, nat_lt, nat_le, List, ◌++◌, length, Some, None, option_to_list}
use Rattle.std.specs.Int.RustNames.{bit_and}
use Rattle.inp_model.specs.declared.event.Event.{Event}
use Rattle.inp_model.specs.Event.{slot_event}

pub record Waiting : Type 0 where
  -- the events passed since the last cut
  pub events : List Event
  -- how many events a frame may gather before it is cut
  pub hint : ℕ

-- the events that are passed for a raw event by the flags of what is done with it, in order: the slot that its value
-- belongs to, and itself
abbrev pub events_by : ℕ → ℤ → Event → List Event
events_by flags slot e =
    option_to_list (if bit_and flags 4 == 4 then Some (slot_event slot) else None)
    ++ option_to_list (if bit_and flags 1 == 1 then Some e else None)

-- the events are a frame: after a report where it is not alone, and after another event where there are
-- enough
abbrev pub are_frame : Bool → Waiting → Bool
are_frame report w = if report then nat_lt 1 (length w.events) else nat_le w.hint (length w.events)

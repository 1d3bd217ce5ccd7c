-- Events, and the room for them.
use Rattle.std.specs.Prelude.{ℕ, ◌+◌, ◌*◌, List, length}
use Rattle.inp_model.specs.declared.event.Event.{Event}
use Rattle.inp_model.specs.declared.event.TheConstants.{EV_KEY, EV_ABS, EV_SW, EV_LED}
use Rattle.inp_model.specs.Description.{Description, supports}
use Rattle.inp_reader.specs.Synthesis.{where_below}

pub record RoomyEvents : Type 0 where
  pub events : List Event
  -- for so many events there is room
  pub room : ℕ

-- how many codes of a type the device has, of so many
abbrev pub code_total : Description → ℕ → ℕ → ℕ
code_total d kind count = length (where_below count (supports d kind))

-- No more events are synthesised on a device than so many. They are one for each key, LED, switch and axis
-- that it has, 17 for each slot, one for the current slot, and two reports.
abbrev pub synthesised_most : Description → ℕ
synthesised_most d = code_total d EV_KEY 768 + code_total d EV_LED 64 + code_total d EV_SW 64 + code_total d EV_ABS 64 + 3 + 17 * d.slots

-- What an event that a client took, and an answer to its query, make of its view (docs/READER.md, "Views").
use Rattle.std.specs.Prelude.{ℕ, ◌*◌, ◌/◌, ◌%◌, ◌≡◌, ◌≤◌, ◌==◌, ℤ, pos, Bool, false, ◌&&◌, not, if◌then◌else◌, nat_eq, nat_lt, List, [], ◌∷◌, length, map, take, replicate, slice_set, slice_index}
use Rattle.std.specs.Int.{bit_at}
use Rattle.std.specs.List.{range_with_len}
use Rattle.inp_model.specs.declared.event.TheConstants.{EV_KEY, EV_ABS, EV_SW, EV_LED, ABS_MAX}
use Rattle.inp_model.specs.declared.multi_touch.TheConstants.{ABS_MT_SLOT, SLOT_VALUES}
use Rattle.inp_model.specs.declared.event.Event.{Event}
use Rattle.inp_model.specs.declared.step.Step.{Step}
use Rattle.inp_model.specs.declared.step.Step.TheVariants.{GetKeys, GetSwitches, GetLeds, GetAxis, SyncSlots}
use Rattle.inp_model.specs.declared.reply.Reply.{Reply}
use Rattle.inp_model.specs.declared.reply.Reply.TheVariants.{Bits, Axis, Cells}
use Rattle.inp_model.specs.Description.{Description, is_multi_touch_code}
use Rattle.inp_model.specs.Event.{is_repeat, is_set, is_multi_touch, is_slot_value}
use Rattle.inp_recon.specs.declared.view.View.{View}
use Rattle.inp_recon.specs.Cells.{first_cells, with_cell}

-- how many keys a view has, and how many each of switches, LEDs and axes
abbrev pub key_count : ℕ
key_count = 768

abbrev pub code_count : ℕ
code_count = 64

-- A list of so many values with another one at the index; past the end nothing changes.
abbrev pub with_value_at : {X : Type 0} → ℕ → List X → ℕ → X → List X
with_value_at count values index value = if nat_lt index count then slice_set values index value else values

-- A new view (docs/READER.md, "Views"): nothing is down or on, axes and the current slot are 0, no slot has a contact.
unfoldable pub first_view : Description → View
first_view d = record {
  keys = replicate key_count false;
  switches = replicate code_count false;
  leds = replicate code_count false;
  axes = replicate code_count (pos 0);
  slot = pos 0;
  cells = first_cells d.slots;
}

-- An event taken (docs/READER.md, "Views").

-- the flag of the event's code is on where its value is not 0
abbrev pub with_flag : ℕ → List Bool → Event → List Bool
with_flag count flags e = with_value_at count flags e.code (is_set e)

-- a key is down where the last event on it that is no autorepeat set it
abbrev pub keys_after_event : List Bool → Event → List Bool
keys_after_event keys e = if nat_eq e.kind EV_KEY && not (is_repeat e) then with_flag key_count keys e else keys

-- a switch or an LED is on where the last event on it set it
abbrev pub bits_after_event : ℕ → List Bool → Event → List Bool
bits_after_event kind bits e = if nat_eq e.kind kind then with_flag code_count bits e else bits

-- an axis outside 0x2f to 0x3d has the value of the last event on it
abbrev pub axes_after_event : List ℤ → Event → List ℤ
axes_after_event axes e = if nat_eq e.kind EV_ABS && not (is_multi_touch e) then with_value_at code_count axes e.code e.value else axes

-- the current slot is the last one that was named
abbrev pub slot_after_event : ℤ → Event → ℤ
slot_after_event slot e = if nat_eq e.kind EV_ABS && nat_eq e.code ABS_MT_SLOT then e.value else slot

-- a multi-touch value is that of the current slot, if there is a slot of this number
abbrev pub cells_after_event : List ℤ → ℤ → Event → List ℤ
cells_after_event cells slot e = if is_slot_value e then with_cell cells slot e.code e.value else cells

unfoldable pub view_after_event : View → Event → View
view_after_event v e = record {
  keys = keys_after_event v.keys e;
  switches = bits_after_event EV_SW v.switches e;
  leds = bits_after_event EV_LED v.leds e;
  axes = axes_after_event v.axes e;
  slot = slot_after_event v.slot e;
  cells = cells_after_event v.cells v.slot e;
}

-- a view after events, the first one taken first
unfoldable pub view_after_events : View → List Event → View
view_after_events v [] = v
view_after_events v (e ∷ es) = view_after_events (view_after_event v e) es

-- An answer (docs/READER.md, "Views").

-- value i that words of 64 bits tell, the lowest bit of each first
abbrev pub bit_in : List ℕ → ℕ → Bool
bit_in words i = bit_at (slice_index words (i / 64)) (i % 64) == 1

-- the first values that they tell
unfoldable pub bits_in : ℕ → List ℕ → List Bool
bits_in count words = map (bit_in words) (range_with_len 0 count)

-- so many flags after a reply: all are as it tells, where it tells bits
abbrev pub flags_after_reply : ℕ → Reply → List Bool → List Bool
flags_after_reply count (Bits at words) flags = bits_in count words
flags_after_reply count _ flags = flags

-- the axes after a reply to a query of the axis `code`; those whose values belong to slots stay
abbrev pub axes_after_reply : ℕ → Reply → List ℤ → List ℤ
axes_after_reply code (Axis at info) axes = if is_multi_touch_code code then axes else with_value_at code_count axes code info.value
axes_after_reply code _ axes = axes

-- the current slot after a reply to a synchronisation of slots: the one that it tells
abbrev pub slot_after_reply : Reply → ℤ → ℤ
slot_after_reply (Cells at count told) slot = told
slot_after_reply _ slot = slot

-- the values of all slots after it: all are as they were written to the caller's buffer
abbrev pub cells_after_reply : Reply → List ℤ → List ℤ → List ℤ
cells_after_reply (Cells at count slot) buffer cells = take (length cells) buffer
cells_after_reply _ buffer cells = cells

-- A view after an answer: all flags of a type are as the answer to their query tells, the axis that was asked for has the
-- value that was told, and the current slot and all values of all slots are those that a synchronisation of slots tells.
unfoldable pub view_after_answer : View → Step → Reply → List ℤ → View
view_after_answer v (GetKeys client) reply buffer = record v { keys = flags_after_reply key_count reply v.keys }
view_after_answer v (GetSwitches client) reply buffer = record v { switches = flags_after_reply code_count reply v.switches }
view_after_answer v (GetLeds client) reply buffer = record v { leds = flags_after_reply code_count reply v.leds }
view_after_answer v (GetAxis client code) reply buffer = record v { axes = axes_after_reply code reply v.axes }
view_after_answer v (SyncSlots client) reply buffer =
    record v { slot = slot_after_reply reply v.slot; cells = cells_after_reply reply buffer v.cells }
view_after_answer v _ reply buffer = v

-- an axis that is told is one that a device can have
abbrev pub IsAxis : ℕ → Reply → Type 0
IsAxis code (Axis at info) = code ≤ ABS_MAX
IsAxis code _ = Unit {0}

-- where the values of all slots are told, the buffer has as many places as there are values
abbrev pub AreCells : Reply → List ℤ → List ℤ → Type 0
AreCells (Cells at count slot) cells buffer = length cells ≤ length buffer
AreCells _ cells buffer = Unit {0}

-- where a query of an axis is answered, the axis is one that a device can have
abbrev pub HasAxis : Step → Reply → Type 0
HasAxis (GetAxis client code) reply = IsAxis code reply
HasAxis _ reply = Unit {0}

-- where a synchronisation of slots is answered, the buffer has as many places as there are values
abbrev pub HasCells : Step → Reply → List ℤ → List ℤ → Type 0
HasCells (SyncSlots client) reply cells buffer = AreCells reply cells buffer
HasCells _ reply cells buffer = Unit {0}

-- a view of a device with so many slots: as long as each list is
pub record IsSizedFor (slots : ℕ) (v : View) : Type 0 where
  pub keys : length v.keys ≡ key_count
  pub switches : length v.switches ≡ code_count
  pub leds : length v.leds ≡ code_count
  pub axes : length v.axes ≡ code_count
  pub cells : length v.cells ≡ SLOT_VALUES * slots

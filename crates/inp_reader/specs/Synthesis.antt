-- The events that lead from one view to another (docs/READER.md, "What a reader makes of a loss").
use Rattle.std.specs.Prelude.{ℕ, ℤ, pos, negsuc, int_lt, Bool, true, false, ◌&&◌, not, if◌then◌else◌, List, [], ◌∷◌, ◌++◌, map, filter, slice_index_or}
use Rattle.std.specs.List.{range_with_len, list_any}
use Rattle.std.specs.Ordering.{int_eq}
use Rattle.inp_bits.specs.Bits.{is_on_at, bits_differ}
use Rattle.inp_model.specs.declared.event.TheConstants.{EV_SYN, EV_KEY, EV_ABS, EV_SW, EV_LED, SYN_REPORT}
use Rattle.inp_model.specs.declared.multi_touch.TheConstants.{ABS_MT_TOUCH_MAJOR, ABS_MT_TRACKING_ID, SLOT_VALUES}
use Rattle.inp_model.specs.declared.event.Event.{Event}
use Rattle.inp_model.specs.Event.{slot_event}
use Rattle.inp_recon.specs.declared.view.View.{View}
use Rattle.inp_recon.specs.Cells.{slot_count, cell_of}
use Rattle.inp_recon.specs.View.{view_after_events}

-- the numbers below a bound that pass a test, ascending
abbrev pub where_below : ℕ → (ℕ → Bool) → List ℕ
where_below bound test = filter test (range_with_len 0 bound)

-- the report after a group of events, where there is any
abbrev pub with_report : List Event → List Event
with_report [] = []
with_report (e ∷ es) = (e ∷ es) ++ record { kind = EV_SYN; code = SYN_REPORT; value = pos 0 } ∷ []

-- an event, where another one has not its value already
abbrev pub unless_same : Event → Event → List Event
unless_same other event = if int_eq other.value event.value then [] else event ∷ []

-- the event that makes this slot the current one, where another one is
abbrev pub to_slot : ℤ → ℤ → List Event
to_slot current slot = unless_same (slot_event current) (slot_event slot)

-- the events of each of these slots, each after the event that makes it the current one
abbrev pub in_slots : (ℕ → List Event) → List ℕ → ℤ → List Event
in_slots events [] current = []
in_slots events (slot ∷ slots) current = to_slot current (pos slot) ++ events slot ++ in_slots events slots (pos slot)

-- Keys, LEDs, switches and axes

abbrev pub bit_value : Bool → ℤ
bit_value true = pos 1
bit_value false = pos 0

-- that a code is on, or off
abbrev pub bit_event : ℕ → List Bool → ℕ → Event
bit_event kind bits code = record { kind = kind; code = code; value = bit_value (is_on_at bits code) }

-- two lists of bits differ at an index
abbrev pub bits_differ_at : List Bool → List Bool → ℕ → Bool
bits_differ_at old new i = bits_differ (is_on_at old i) (is_on_at new i)

-- of each of so many codes that two lists of bits differ in, the event of what it is in the new one
abbrev pub bit_changes : ℕ → ℕ → List Bool → List Bool → List Event
bit_changes kind count old new = map (bit_event kind new) (where_below count (bits_differ_at old new))

abbrev pub value_at : List ℤ → ℕ → ℤ
value_at values i = slice_index_or values i (pos 0)

-- two lists of numbers differ at an index
abbrev pub differs_at : List ℤ → List ℤ → ℕ → Bool
differs_at old new i = not (int_eq (value_at old i) (value_at new i))

abbrev pub axis_event : List ℤ → ℕ → ℕ → Event
axis_event values i code = record { kind = EV_ABS; code = code; value = value_at values i }

abbrev pub axis_changes : List ℤ → List ℤ → List Event
axis_changes old new = map (λ code. axis_event new code code) (where_below 64 (differs_at old new))

-- of keys, LEDs, switches and axes, each ascending
abbrev pub class_changes : View → View → List Event
class_changes old new =
    bit_changes EV_KEY 768 old.keys new.keys ++ bit_changes EV_LED 64 old.leds new.leds
    ++ bit_changes EV_SW 64 old.switches new.switches ++ axis_changes old.axes new.axes

-- Slots

-- the axes whose values belong to slots, ascending
abbrev pub slot_codes : List ℕ
slot_codes = range_with_len ABS_MT_TOUCH_MAJOR SLOT_VALUES

-- the value of a slot on an axis
abbrev pub cell_event : List ℤ → ℕ → ℕ → Event
cell_event cells slot code = record { kind = EV_ABS; code = code; value = cell_of cells slot code }

-- a slot has different values on an axis
abbrev pub cells_differ : List ℤ → List ℤ → ℕ → ℕ → Bool
cells_differ old new slot code = not (int_eq (cell_of old slot code) (cell_of new slot code))

abbrev pub tracking_id : View → ℕ → ℤ
tracking_id view slot = cell_of view.cells slot ABS_MT_TRACKING_ID

-- a slot has a contact in both views, and not the same one
abbrev pub is_replaced : View → View → ℕ → Bool
is_replaced old new slot =
    let before = tracking_id old slot in
    let after = tracking_id new slot in
    not (int_lt before (pos 0)) && not (int_lt after (pos 0)) && not (int_eq before after)

abbrev pub lift : Event
lift = record { kind = EV_ABS; code = ABS_MT_TRACKING_ID; value = negsuc 0 }

-- the end of each contact that another one followed in its slot
abbrev pub lifts : View → View → List Event
lifts old new = in_slots (λ slot. lift ∷ []) (where_below (slot_count old.cells) (is_replaced old new)) old.slot

-- the values of a slot that differ, by ascending codes
abbrev pub changes_in : View → View → ℕ → List Event
changes_in old new slot = map (cell_event new.cells slot) (filter (cells_differ old.cells new.cells slot) slot_codes)

-- a value of the slot differs
abbrev pub is_changed : View → View → ℕ → Bool
is_changed old new slot = list_any (cells_differ old.cells new.cells slot) slot_codes

-- the values that differ, slot by slot
abbrev pub cell_changes : View → View → List Event
cell_changes old new = in_slots (changes_in old new) (where_below (slot_count old.cells) (is_changed old new)) old.slot

-- the values that differ, and then the current slot
abbrev pub slot_changes : View → View → List Event
slot_changes old new = let events = cell_changes old new in events ++ to_slot (view_after_events old events).slot new.slot

-- The events that lead from the old view to the new one. The contacts that ended come first, with a report
-- after them, and then all that still differs, with a report.
unfoldable pub synth : View → View → List Event
synth old new =
    let ended = lifts old new in
    with_report ended ++ with_report (class_changes old new ++ slot_changes (view_after_events old ended) new)

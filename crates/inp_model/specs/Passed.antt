-- Which raw events are passed on to the clients (docs/RULES.md, "What is passed").
use Rattle.std.specs.Prelude.{ℤ, pos, Bool, true, false, ◌&&◌, ◌||◌, not, if◌then◌else◌, nat_eq, nat_lt, List, [], ◌∷◌, ◌++◌, Option, Some, None, is_some, option_to_list, option_map}
use Rattle.std.specs.Ordering.{int_eq}
use Rattle.inp_model.specs.declared.event.TheConstants.{EV_SYN, EV_KEY, EV_REL, EV_ABS, EV_MSC, EV_SW, EV_LED, EV_SND, EV_REP, SYN_CONFIG, SYN_DROPPED}
use Rattle.inp_model.specs.declared.multi_touch.TheConstants.{ABS_MT_SLOT}
use Rattle.inp_model.specs.declared.event.Event.{Event}
use Rattle.inp_model.specs.Description.{Description, supports, is_multi_touch_code}
use Rattle.inp_model.specs.Event.{is_repeat, is_set, is_slot_value, slot_event}
use Rattle.inp_model.specs.RawItem.{RawItem, Occurred, Described}
use Rattle.inp_model.specs.State.{key_down, turned_on, repeat_setting, axis_value, staged, cell}

-- one is true and the other is not
abbrev pub differ : Bool → Bool → Bool
differ true b = not b
differ false b = b

-- an autorepeat is passed, and what changes whether the key is down
abbrev pub key_passes : Description → List RawItem → Event → Bool
key_passes d r e = if is_repeat e then true else differ (key_down d r e.code) (key_down d (Occurred e ∷ r) e.code)

-- a switch or an LED is passed where it changes
abbrev pub switch_passes : Description → List RawItem → Event → Bool
switch_passes d r e = differ (turned_on d r e.kind e.code) (turned_on d (Occurred e ∷ r) e.kind e.code)

-- a setting of the autorepeat is passed where it changes
abbrev pub setting_passes : Description → List RawItem → Event → Bool
setting_passes d r e = not (int_eq (repeat_setting d r e.code) (repeat_setting d (Occurred e ∷ r) e.code))

-- the value of the staged slot that an event is about, after it (docs/RULES.md, "Multi-touch slots")
abbrev pub cell_after : Description → List RawItem → Event → ℤ
cell_after d r e = cell d (Occurred e ∷ r) (staged d r) e.code

-- a value is passed as it is, where it is passed
abbrev pub passed_if : Bool → ℤ → Option ℤ
passed_if passes value = if passes then Some value else None

-- a value is passed where it moves, as the one that it moves to
abbrev pub moved_to : ℤ → ℤ → Option ℤ
moved_to before after = if int_eq before after then None else Some after

abbrev pub axis_passes_as : Description → List RawItem → Event → Option ℤ
axis_passes_as d r e = moved_to (axis_value d r e.code) (axis_value d (Occurred e ∷ r) e.code)

-- The naming of a slot is not passed itself. A multi-touch value is passed where it moves the value of the staged slot;
-- without slots it is always passed as it is, and kept nowhere (docs/RULES.md, "Multi-touch slots").
abbrev pub multi_touch_passes_as : Description → List RawItem → Event → Option ℤ
multi_touch_passes_as d r e =
    if nat_eq e.code ABS_MT_SLOT then None
    else if nat_eq d.slots 0 then Some e.value
    else moved_to (cell d r (staged d r) e.code) (cell_after d r e)

-- the value under which an event of a supported code is passed, if it is: of an axis the one that it takes, and
-- of all else the one that was injected
abbrev pub code_passes_as : Description → List RawItem → Event → Option ℤ
code_passes_as d r e =
    if nat_eq e.kind EV_KEY then passed_if (key_passes d r e) e.value
    else if nat_eq e.kind EV_REL then passed_if (is_set e) e.value
    else if nat_eq e.kind EV_ABS then (if is_multi_touch_code e.code then multi_touch_passes_as d r e else axis_passes_as d r e)
    else if nat_eq e.kind EV_SW || nat_eq e.kind EV_LED then passed_if (switch_passes d r e) e.value
    else if nat_eq e.kind EV_REP then passed_if (setting_passes d r e) e.value
    else Some e.value

-- the value under which an event is passed after the items r, if it is passed
abbrev pub passes_as : Description → List RawItem → Event → Option ℤ
passes_as d r e =
    if nat_eq e.kind EV_SYN then passed_if (nat_lt e.code SYN_DROPPED) e.value
    else if supports d e.kind e.code then code_passes_as d r e
    else None

-- a value of a slot that is passed
abbrev pub passes_slot_value : Description → List RawItem → Event → Bool
passes_slot_value d r e = is_slot_value e && is_some (passes_as d r e)

-- the slot that the clients were told last: the one staged at the last value of a slot that was passed
-- (docs/RULES.md, "Multi-touch slots")
unfoldable pub announced : Description → List RawItem → ℤ
announced d [] = pos 0
announced d (Described axis i ∷ r) = announced d r
announced d (Occurred e ∷ r) =
    let before = announced d r in
    if passes_slot_value d r e then staged d r else before

-- a value of another slot than the one announced last is passed behind its slot (docs/RULES.md, "Multi-touch slots")
abbrev pub announces : Description → List RawItem → Event → Bool
announces d r e = passes_slot_value d r e && not (int_eq (staged d r) (announced d r))

abbrev pub announcement : Description → List RawItem → Event → List Event
announcement d r e = if announces d r e then slot_event (staged d r) ∷ [] else []

-- the events that are passed for it
abbrev pub passed : Description → List RawItem → Event → List Event
passed d r e = announcement d r e ++ option_to_list (option_map (λ v. record e { value = v }) (passes_as d r e))

-- the events that are passed for an item: none for a description
abbrev pub passed_for : Description → List RawItem → RawItem → List Event
passed_for d r (Occurred e) = passed d r e
passed_for d r (Described axis i) = []

-- types whose passed events the device itself gets too, to set its LEDs and the like
abbrev pub is_output : Event → Bool
is_output e =
    (nat_eq e.kind EV_SYN && nat_eq e.code SYN_CONFIG)
    || nat_eq e.kind EV_LED || nat_eq e.kind EV_SND || nat_eq e.kind EV_MSC || nat_eq e.kind EV_REP

-- the device gets it
abbrev pub goes_to_device : Description → List RawItem → Event → Bool
goes_to_device d r e = is_output e && is_some (passes_as d r e)

-- The state of a device after raw events and descriptions of axes, newest first. That of each key, switch and
-- the like is by the last write on it (docs/RULES.md, "What is passed").
use Rattle.std.specs.Prelude.{ℕ, ℤ, pos, negsuc, int_lt, Bool, false, ◌&&◌, not, if◌then◌else◌, nat_eq, List, [], ◌∷◌}
use Rattle.std.specs.Ordering.{int_eq}
use Rattle.inp_model.specs.declared.event.TheConstants.{EV_KEY, EV_ABS, EV_SW, EV_LED, EV_SND, EV_REP, REP_DELAY}
use Rattle.inp_model.specs.declared.multi_touch.TheConstants.{ABS_MT_SLOT, ABS_MT_TRACKING_ID}
use Rattle.inp_model.specs.declared.axis_info.AxisInfo.{AxisInfo}
use Rattle.inp_model.specs.Description.{Description, info}
use Rattle.inp_model.specs.Event.{is_on, is_repeat, is_set, is_negative, is_multi_touch}
use Rattle.inp_model.specs.RawItem.{RawItem, Occurred, Described}
use Rattle.inp_model.specs.Defuzz.{defuzz}

-- a key is down where the last event on it that is no autorepeat set it
unfoldable pub key_down : Description → List RawItem → ℕ → Bool
key_down d [] key = false
key_down d (Described axis i ∷ r) key = key_down d r key
key_down d (Occurred e ∷ r) key =
    let before = key_down d r key in
    if is_on d EV_KEY key e && not (is_repeat e) then is_set e else before

-- a code of a type without autorepeats is on where the last event on it set it
unfoldable pub turned_on : Description → List RawItem → ℕ → ℕ → Bool
turned_on d [] kind code = false
turned_on d (Described axis i ∷ r) kind code = turned_on d r kind code
turned_on d (Occurred e ∷ r) kind code =
    let before = turned_on d r kind code in
    if is_on d kind code e then is_set e else before

abbrev pub switch_on : Description → List RawItem → ℕ → Bool
switch_on d r code = turned_on d r EV_SW code

abbrev pub led_on : Description → List RawItem → ℕ → Bool
led_on d r code = turned_on d r EV_LED code

abbrev pub sound_on : Description → List RawItem → ℕ → Bool
sound_on d r code = turned_on d r EV_SND code

-- the settings of the autorepeat before any event, in milliseconds
abbrev pub first_setting : ℕ → ℤ
first_setting code = if nat_eq code REP_DELAY then pos 250 else pos 33

-- a setting of the autorepeat is the last value that was written to it and is not negative
unfoldable pub repeat_setting : Description → List RawItem → ℕ → ℤ
repeat_setting d [] code = first_setting code
repeat_setting d (Described axis i ∷ r) code = repeat_setting d r code
repeat_setting d (Occurred e ∷ r) code =
    let before = repeat_setting d r code in
    if is_on d EV_REP code e && not (is_negative e) then e.value else before

-- the description of an axis: the last one that was set, and the device's own at first
-- (docs/RULES.md, "Axes described anew")
unfoldable pub axis_info : Description → List RawItem → ℕ → AxisInfo
axis_info d [] code = info d code
axis_info d (Described axis i ∷ r) code = let before = axis_info d r code in if nat_eq axis code then i else before
axis_info d (Occurred e ∷ r) code = axis_info d r code

-- An axis begins at the value of its last description. Each event on it since moves it as far as that
-- description's fuzz allows. A multi-touch axis stays: its values belong to slots.
unfoldable pub axis_value : Description → List RawItem → ℕ → ℤ
axis_value d [] code = (info d code).value
axis_value d (Described axis i ∷ r) code = let before = axis_value d r code in if nat_eq axis code then i.value else before
axis_value d (Occurred e ∷ r) code =
    let before = axis_value d r code in
    if is_on d EV_ABS code e && not (is_multi_touch e) then defuzz e.value before (axis_info d r code).fuzz else before

-- the device has a slot of this number (docs/RULES.md, "Multi-touch slots")
abbrev pub is_slot : Description → ℤ → Bool
is_slot d slot = not (int_lt slot (pos 0)) && int_lt slot (pos d.slots)

-- the slot that the next multi-touch values belong to: the last one named of those that there are
-- (docs/RULES.md, "Multi-touch slots")
unfoldable pub staged : Description → List RawItem → ℤ
staged d [] = pos 0
staged d (Described axis i ∷ r) = staged d r
staged d (Occurred e ∷ r) =
    let before = staged d r in
    if is_on d EV_ABS ABS_MT_SLOT e && is_slot d e.value then e.value else before

-- at first there is no contact in a slot, and its other values are 0 (docs/RULES.md, "Multi-touch slots")
abbrev pub first_cell : ℕ → ℤ
first_cell code = if nat_eq code ABS_MT_TRACKING_ID then negsuc 0 else pos 0

-- Of a device with slots each slot has a value of its own of each multi-touch axis. An event on the axis
-- moves the value of the slot that is staged, as far as the axis's fuzz allows (docs/RULES.md, "Multi-touch
-- slots").
unfoldable pub cell : Description → List RawItem → ℤ → ℕ → ℤ
cell d [] slot code = first_cell code
cell d (Described axis i ∷ r) slot code = cell d r slot code
cell d (Occurred e ∷ r) slot code =
    let before = cell d r slot code in
    if is_on d EV_ABS code e && int_eq (staged d r) slot then defuzz e.value before (info d code).fuzz else before

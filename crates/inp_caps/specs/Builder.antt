-- What each call of a builder adds to the description that it gathers.
use Rattle.std.specs.Prelude.{ℕ, ◌-◌, ℤ, pos, Bool, true, false, ◌&&◌, not, if◌then◌else◌, nat_eq, nat_le, [], ◌∷◌, ◌++◌, length, Result, Ok, Err, slice_set, slice_index_or}
use Rattle.inp_model.specs.declared.event.TheConstants.{EV_KEY, EV_REL, EV_ABS, EV_MSC, EV_SW, EV_LED, EV_SND, EV_REP, KEY_MAX, REL_MAX, MSC_MAX, SW_MAX, LED_MAX, SND_MAX, REP_MAX}
use Rattle.inp_model.specs.declared.multi_touch.TheConstants.{ABS_MT_SLOT, ABS_MT_TRACKING_ID}
use Rattle.inp_model.specs.declared.axis_info.AxisInfo.{AxisInfo}
use Rattle.inp_model.specs.declared.filter.Filter.{Filter}
use Rattle.inp_model.specs.declared.limits.TheConstants.{FILTERS_MAX}
use Rattle.inp_caps.specs.declared.caps_refused.CapsRefused.{CapsRefused}
use Rattle.inp_caps.specs.declared.caps_refused.CapsRefused.TheVariants.{BadCode, BadFilter}
use Rattle.inp_model.specs.Description.{Description, no_info, is_filter}

-- the codes that a builder can add by their number; the axes need their data
abbrev pub is_code : ℕ → ℕ → Bool
is_code kind code =
    if nat_eq kind EV_KEY then nat_le 1 code && nat_le code KEY_MAX
    else if nat_eq kind EV_REL then nat_le code REL_MAX
    else if nat_eq kind EV_MSC then nat_le code MSC_MAX
    else if nat_eq kind EV_SW then nat_le code SW_MAX
    else if nat_eq kind EV_LED then nat_le code LED_MAX
    else if nat_eq kind EV_SND then nat_le code SND_MAX
    else if nat_eq kind EV_REP then nat_le code REP_MAX
    else false

abbrev pub with_kind : Description → ℕ → Description
with_kind d kind = record d { kinds = slice_set d.kinds kind true }

-- EV_REP always has both of its codes, where the type is supported
abbrev pub with_code : Description → ℕ → ℕ → Description
with_code d kind code =
    if nat_eq kind EV_KEY then record d { keys = slice_set d.keys code true }
    else if nat_eq kind EV_REL then record d { relatives = slice_set d.relatives code true }
    else if nat_eq kind EV_MSC then record d { miscs = slice_set d.miscs code true }
    else if nat_eq kind EV_SW then record d { switches = slice_set d.switches code true }
    else if nat_eq kind EV_LED then record d { leds = slice_set d.leds code true }
    else if nat_eq kind EV_SND then record d { sounds = slice_set d.sounds code true }
    else d

abbrev pub with_axis : Description → ℕ → AxisInfo → Description
with_axis d code i = record d { axes = slice_set d.axes code true; infos = slice_set d.infos code i }

-- one more filter, after the others
abbrev pub with_filter : Description → Filter → Description
with_filter d filter = record d { filters = d.filters ++ filter ∷ [] }

-- what a builder answers where it is asked for one more filter
abbrev pub filter_answer : Description → Filter → Result (Unit {0}) CapsRefused
filter_answer d filter =
    if not (is_filter filter) then Err BadCode
    else if nat_eq (length d.filters) FILTERS_MAX then Err BadFilter
    else Ok tt

-- an axis from 0 to a maximum, where it was not described
abbrev pub with_default_axis : Description → ℕ → ℤ → Description
with_default_axis d code maximum =
    if slice_index_or d.axes code false then d else with_axis d code (record no_info { maximum = maximum })

-- what a device with slots needs: the axes that name a slot and the contact in it
abbrev pub with_slot_axes : Description → Description
with_slot_axes d =
    with_default_axis (with_default_axis (with_kind d EV_ABS) ABS_MT_SLOT (pos (d.slots - 1))) ABS_MT_TRACKING_ID (pos 65535)

-- the description that was gathered
abbrev pub built : Description → Description
built d = if nat_eq d.slots 0 then d else with_slot_axes d

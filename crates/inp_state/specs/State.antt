-- The present state, and the lists of raw events and descriptions that it stands for.
use Rattle.std.specs.Prelude.{◌≡◌, ◌≤◌, ℕ, ℤ, pos, Bool, false, ◌&&◌, List, slice_index_or}
use Rattle.inp_model.specs.declared.event.TheConstants.{ABS_MAX, REP_DELAY, REP_PERIOD}
use Rattle.inp_model.specs.declared.event.Event.{Event}
use Rattle.inp_model.specs.declared.axis_info.AxisInfo.{AxisInfo}
use Rattle.inp_model.specs.RawItem.{RawItem}
use Rattle.inp_model.specs.Description.{Description, no_info}
use Rattle.inp_model.specs.Event.{is_report}
use Rattle.inp_model.specs.Passed.{is_output}
use Rattle.inp_caps.specs.Disposition.{flags}
use Rattle.inp_model.specs.State.{key_down, switch_on, led_on, sound_on, axis_info, axis_value, repeat_setting}

pub record Values : Type 0 where
  -- at k, whether the key k is down, and whether the switch, LED or sound k is on
  pub keys : List Bool
  pub switches : List Bool
  pub leds : List Bool
  pub sounds : List Bool
  -- at k, the value of the axis k
  pub axes : List ℤ
  -- at k, the description of the axis k, with the value that it was described with
  pub infos : List AxisInfo
  -- the settings of the autorepeat, in milliseconds
  pub delay : ℤ
  pub period : ℤ

-- on a device with this description these are the values after the items r, newest first
pub record StateStandsFor (d : Description) (r : List RawItem) (s : Values) : Type 0 where
  pub keys : (code : ℕ) → slice_index_or s.keys code false ≡ key_down d r code
  pub switches : (code : ℕ) → slice_index_or s.switches code false ≡ switch_on d r code
  pub leds : (code : ℕ) → slice_index_or s.leds code false ≡ led_on d r code
  pub sounds : (code : ℕ) → slice_index_or s.sounds code false ≡ sound_on d r code
  pub axes : (code : ℕ) → code ≤ ABS_MAX → slice_index_or s.axes code (pos 0) ≡ axis_value d r code
  pub infos : (code : ℕ) → code ≤ ABS_MAX → slice_index_or s.infos code no_info ≡ axis_info d r code
  pub delay : s.delay ≡ repeat_setting d r REP_DELAY
  pub period : s.period ≡ repeat_setting d r REP_PERIOD

-- What is done with an event that is about no slot, by whether it is passed: a passed output goes to the
-- device too, and a report ends the frame.
abbrev pub flags_by : Bool → Event → ℕ
flags_by passed e = flags passed (passed && is_output e) false (passed && is_report e)

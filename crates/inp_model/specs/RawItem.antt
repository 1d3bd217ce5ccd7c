-- What the device's core is given, item by item: raw events and descriptions of axes. And the frames that its
-- events are cut into (docs/RULES.md, "Frames" and "Axes described anew").
use Rattle.std.specs.Prelude.{ℕ, Bool, true, false, List}
use Rattle.inp_model.specs.declared.event.Event.{Event}
use Rattle.inp_model.specs.declared.axis_info.AxisInfo.{AxisInfo}
use Rattle.inp_model.specs.declared.step.Step.{Step}

-- A list of items is written newest first where nothing else is said.
pub data RawItem : Type 0 where
  -- a raw event
  Occurred : Event → RawItem
  -- the axis of this code is described anew
  Described : ℕ → AxisInfo → RawItem

-- it is a raw event
abbrev pub is_event_item : RawItem → Bool
is_event_item (Occurred e) = true
is_event_item (Described code axis) = false

-- a frame, by the raw events and the descriptions alone
pub record Cut : Type 0 where
  pub events : List Event
  -- the items up to its end, newest first
  pub until : List RawItem

-- a frame of a past
pub record Frame : Type 0 where
  pub cut : Cut
  -- the past before the step that ended it
  pub before : List Step
  -- that step
  pub step : Step

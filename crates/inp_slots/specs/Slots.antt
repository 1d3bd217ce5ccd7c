-- The present values of the slots, and the lists of raw events and descriptions that they stand for.
use Rattle.std.specs.Prelude.{◌≡◌, ◌<◌, ℕ, ◌-◌, ℤ, pos, true, List, [], length, slice_index_or}
use Rattle.inp_model.specs.declared.event.TheConstants.{EV_ABS}
use Rattle.inp_model.specs.declared.multi_touch.TheConstants.{ABS_MT_TOUCH_MAJOR}
use Rattle.inp_model.specs.declared.event.Event.{Event}
use Rattle.inp_model.specs.RawItem.{RawItem}
use Rattle.inp_model.specs.Description.{Description, is_slot_code}
use Rattle.inp_model.specs.State.{staged, cell}
use Rattle.inp_model.specs.Passed.{announced}

pub record SlotValues : Type 0 where
  -- at i, the fourteen values of the slot i, by ascending codes
  pub slots : List (List ℤ)
  -- the slot that the next values belong to
  pub staged : ℤ
  -- the slot that was announced last
  pub announced : ℤ
  -- the slot that was announced when the last frame was passed
  pub at_frame : ℤ

-- the value of a slot on an axis
abbrev pub slot_value : SlotValues → ℕ → ℕ → ℤ
slot_value s slot code = slice_index_or (slice_index_or s.slots slot []) (code - ABS_MT_TOUCH_MAJOR) (pos 0)

-- on a device with this description these are the values after the items r, newest first
pub record SlotsStandFor (d : Description) (r : List RawItem) (s : SlotValues) : Type 0 where
  pub count : length s.slots ≡ d.slots
  pub staged : s.staged ≡ staged d r
  pub announced : s.announced ≡ announced d r
  pub values : (slot code : ℕ) → slot < d.slots → is_slot_code code ≡ true →
      slot_value s slot code ≡ cell d r (pos slot) code

-- a raw multi-touch event
abbrev pub touch : ℕ → ℤ → Event
touch code value = record { kind = EV_ABS; code = code; value = value }

-- What the core makes of raw events that come one after another at one moment.
use Rattle.std.specs.Prelude.{◌≡◌, ℕ, pos, int_lt, ◌*◌, Bool, false, ◌&&◌, not, if◌then◌else◌, nat_eq, List, [], ◌∷◌, slice_index_or, unsigned_abs, map}
use Rattle.inp_model.specs.declared.event.TheConstants.{EV_KEY}
use Rattle.inp_model.specs.declared.multi_touch.TheConstants.{ABS_MT_TRACKING_ID}
use Rattle.inp_model.specs.declared.event.Event.{Event}
use Rattle.inp_model.specs.declared.timer.Timer.{Timer}
use Rattle.inp_model.specs.RawItem.{RawItem, Occurred, Cut}
use Rattle.inp_model.specs.Description.{Description}
use Rattle.inp_model.specs.Event.{is_repeat, slot_event}
use Rattle.inp_model.specs.Cut.{cuts, raw_after}
use Rattle.inp_model.specs.Timer.{repeats_keys, timer_at_key, timer_at_events, timer_at_cuts}
use Rattle.inp_model.specs.Raw.{key_event, lift_event}
use Rattle.inp_state.specs.State.{Values}
use Rattle.inp_slots.specs.Slots.{SlotValues, slot_value}
use Rattle.inp_frames.specs.Frames.{TakesAll}
use Rattle.inp_frames.specs.Core.{CoreValues, StandsAfter}

-- an event of a frame: a key arms or disarms the timer, where it is no autorepeat
abbrev pub timer_at_event : ℕ → ℕ → ℕ → Event → Timer → Timer
timer_at_event now delay period e timer =
    if nat_eq e.kind EV_KEY && not (is_repeat e) then timer_at_key now delay period e timer else timer

-- the timer after a frame, with the settings of a state
abbrev pub timer_at_frame : Description → ℕ → Values → List Event → Timer → Timer
timer_at_frame d now s events timer =
    if repeats_keys d then timer_at_events now (1000 * unsigned_abs s.delay) (1000 * unsigned_abs s.period) events timer
    else timer

-- the timer after frames, on a device that may repeat no keys
abbrev pub timer_after_cuts : Description → ℕ → List Cut → Timer → Timer
timer_after_cuts d now cs timer = if repeats_keys d then timer_at_cuts d now cs timer else timer

-- the core handled the raw events es after the items r, one after another at one moment
pub record Handles {T : Type 0} (d : Description) (r : List RawItem) (es : List Event) (now : ℕ) (takes : T → List Event → ℕ → T → Type 0) (old new : CoreValues) (to_old to_new : T) : Type 0 where
  pub stands_after : StandsAfter d (raw_after r (map Occurred es)) new
  pub takes_all : TakesAll takes now (cuts d r (map Occurred es)) to_old to_new
  pub timer : new.timer ≡ timer_after_cuts d now (cuts d r (map Occurred es)) old.timer
  pub inhibited : new.inhibited ≡ old.inhibited

-- the key of the timer may repeat: it is down, and the device is not inhibited
abbrev pub may_repeat : CoreValues → Bool
may_repeat core = slice_index_or core.state.keys core.timer.key false && not core.inhibited

-- a slot has a contact
abbrev pub has_contact_at : SlotValues → ℕ → Bool
has_contact_at s slot = not (int_lt (slot_value s slot ABS_MT_TRACKING_ID) (pos 0))

-- the raw events that lift the contact of a slot
abbrev pub lift_events : ℕ → List Event
lift_events slot = slot_event (pos slot) ∷ lift_event ∷ []

-- the raw event that releases a key
abbrev pub release_events : ℕ → List Event
release_events key = key_event key 0 ∷ []

-- The raw events and descriptions that a past stands for, and the timer, which makes some of them.
use Rattle.std.specs.Prelude.{ℕ, ◌+◌, pos, negsuc, int_lt, Bool, ◌&&◌, not, if◌then◌else◌, List, [], ◌∷◌, ◌++◌, map, flat_map}
use Rattle.std.specs.List.{range_with_len}
use Rattle.inp_model.specs.declared.event.TheConstants.{EV_KEY, EV_ABS, KEY_MAX, REP_PERIOD}
use Rattle.inp_model.specs.declared.multi_touch.TheConstants.{ABS_MT_TRACKING_ID}
use Rattle.inp_model.specs.declared.event.Event.{Event}
use Rattle.inp_model.specs.declared.step.Step.{Step}
use Rattle.inp_model.specs.declared.step.Step.TheVariants.{Inject, Tick, Write, Inhibit, SetAxis}
use Rattle.inp_model.specs.declared.timer.Timer.{Timer}
use Rattle.inp_model.specs.Description.{Description}
use Rattle.inp_model.specs.Event.{slot_event, core_report}
use Rattle.inp_model.specs.RawItem.{RawItem, Occurred, Described}
use Rattle.inp_model.specs.State.{key_down, cell}
use Rattle.inp_model.specs.Cut.{raw_after, cuts}
use Rattle.inp_model.specs.Timer.{repeats_keys, first_timer, is_due, timer_disarmed, setting, timer_at_cuts, timer_rearmed}
use Rattle.inp_model.specs.Step.{moment_of}
use Rattle.inp_model.specs.Past.{is_inhibited}

-- the events that the core makes itself

abbrev pub key_event : ℕ → ℕ → Event
key_event key value = record { kind = EV_KEY; code = key; value = pos value }

-- a contact is gone (docs/RULES.md, "Inhibition")
abbrev pub lift_event : Event
lift_event = record { kind = EV_ABS; code = ABS_MT_TRACKING_ID; value = negsuc 0 }

-- a key repeats (docs/RULES.md, "Autorepeat")
abbrev pub repeat_of : ℕ → List Event
repeat_of key = key_event key 2 ∷ core_report ∷ []

-- a slot has a contact (docs/RULES.md, "Inhibition")
abbrev pub has_contact : Description → List RawItem → ℕ → Bool
has_contact d r slot = not (int_lt (cell d r (pos slot) ABS_MT_TRACKING_ID) (pos 0))

abbrev pub slot_release : Description → List RawItem → ℕ → List Event
slot_release d r slot = if has_contact d r slot then slot_event (pos slot) ∷ lift_event ∷ [] else []

-- the releases of so many slots from one on
abbrev pub slot_releases : Description → List RawItem → ℕ → ℕ → List Event
slot_releases d r slot count = flat_map (slot_release d r) (range_with_len slot count)

abbrev pub key_release : Description → List RawItem → ℕ → List Event
key_release d r key = if key_down d r key then key_event key 0 ∷ [] else []

-- the releases of so many keys from one on
abbrev pub key_releases : Description → List RawItem → ℕ → ℕ → List Event
key_releases d r key count = flat_map (key_release d r) (range_with_len key count)

-- the contacts are lifted, then the keys are released, and a report ends the frame (docs/RULES.md, "Inhibition")
abbrev pub releases : Description → List RawItem → List Event
releases d r = slot_releases d r 0 d.slots ++ key_releases d r 0 (KEY_MAX + 1) ++ core_report ∷ []

-- the items of a past, newest first, and the timer after it
pub record RawAndTimer : Type 0 where
  pub raw : List RawItem
  pub timer : Timer

-- a tick at this moment makes the timer fire, which repeats its key (docs/RULES.md, "Autorepeat")
abbrev pub fires : Description → List Step → RawAndTimer → ℕ → Bool
fires d past before now = is_due before.timer now && key_down d before.raw before.timer.key && not (is_inhibited past)

-- The raw events that a step stands for, oldest first. What an inhibited device is injected or written is ignored
-- (docs/RULES.md, "Written events", "Autorepeat" and "Inhibition").
abbrev pub events_after : Description → List Step → Step → RawAndTimer → List Event
events_after d past (Inject e now) before = if is_inhibited past then [] else e ∷ []
events_after d past (Write client e now) before = if is_inhibited past then [] else e ∷ []
events_after d past (Tick now) before = if fires d past before now then repeat_of before.timer.key else []
events_after d past (Inhibit now) before = if is_inhibited past then [] else releases d before.raw
events_after d past _ before = []

-- the items that a step stands for, oldest first: its raw events, or a description (docs/RULES.md, "Axes
-- described anew")
abbrev pub items_after : Description → List Step → Step → RawAndTimer → List RawItem
items_after d past (SetAxis client code axis) before = Described code axis ∷ []
items_after d past x before = map Occurred (events_after d past x before)

-- the timer once a step has begun: a tick disarms the timer that is due (docs/RULES.md, "Autorepeat")
abbrev pub disarmed_by : Step → Timer → Timer
disarmed_by (Tick now) timer = if is_due timer now then timer_disarmed timer else timer
disarmed_by _ timer = timer

-- the timer at the end of a step: a tick that fired arms it anew, after its frames (docs/RULES.md, "Autorepeat")
abbrev pub rearmed_by : Description → List Step → Step → RawAndTimer → List RawItem → Timer → Timer
rearmed_by d past (Tick now) before r timer = if fires d past before now then timer_rearmed now (setting d r REP_PERIOD) timer else timer
rearmed_by d past _ before r timer = timer

-- the timer after a step that stands for these items: what the frames arm or disarm, in order
abbrev pub timer_after : Description → List Step → Step → RawAndTimer → List RawItem → Timer
timer_after d past x before xs =
    let armed = timer_at_cuts d (moment_of x) (cuts d before.raw xs) (disarmed_by x before.timer) in
    let after = rearmed_by d past x before (raw_after before.raw xs) armed in
    if repeats_keys d then after else before.timer

abbrev pub raw_and_timer_after : Description → List Step → Step → RawAndTimer → RawAndTimer
raw_and_timer_after d past x before =
    let xs = items_after d past x before in
    record { raw = raw_after before.raw xs; timer = timer_after d past x before xs }

unfoldable pub raw_and_timer : Description → List Step → RawAndTimer
raw_and_timer d [] = record { raw = []; timer = first_timer }
raw_and_timer d (x ∷ past) = raw_and_timer_after d past x (raw_and_timer d past)

-- the raw events and descriptions of a past, newest first
unfoldable pub raw : Description → List Step → List RawItem
raw d past = (raw_and_timer d past).raw

-- the timer after a past
unfoldable pub timer : Description → List Step → Timer
timer d past = (raw_and_timer d past).timer

-- the items that a step stands for after a past, oldest first
unfoldable pub raw_of_step : Description → List Step → Step → List RawItem
raw_of_step d past x = items_after d past x (raw_and_timer d past)

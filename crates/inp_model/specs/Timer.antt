-- The timer of the autorepeat (docs/RULES.md, "Autorepeat").
use Rattle.std.specs.Prelude.{ℕ, ◌+◌, ◌*◌, Bool, false, ◌&&◌, ◌||◌, not, if◌then◌else◌, nat_eq, nat_le, unsigned_abs, List, [], ◌∷◌, Option, Some, None}
use Rattle.inp_model.specs.declared.event.TheConstants.{EV_KEY, EV_REP, REP_DELAY, REP_PERIOD}
use Rattle.inp_model.specs.declared.event.Event.{Event}
use Rattle.inp_model.specs.declared.timer.Timer.{Timer}
use Rattle.inp_model.specs.Description.{Description, has_kind}
use Rattle.inp_model.specs.Event.{is_repeat, is_set}
use Rattle.inp_model.specs.RawItem.{RawItem, Cut}
use Rattle.inp_model.specs.State.{repeat_setting}

-- a device repeats keys where it has the types of the settings and of the keys
abbrev pub repeats_keys : Description → Bool
repeats_keys d = has_kind d EV_REP && has_kind d EV_KEY

-- before any press armed it: not armed, with the key 0, which is no key
abbrev pub first_timer : Timer
first_timer = record { due = None; key = 0 }

-- it is armed for this moment, or for an earlier one
abbrev pub is_due_by : Option ℕ → ℕ → Bool
is_due_by None now = false
is_due_by (Some due) now = nat_le due now

abbrev pub is_due : Timer → ℕ → Bool
is_due timer now = is_due_by timer.due now

-- it keeps the key that it was last armed for
abbrev pub timer_disarmed : Timer → Timer
timer_disarmed timer = record timer { due = None }

-- a setting of the autorepeat in microseconds; the settings are in milliseconds
abbrev pub setting : Description → List RawItem → ℕ → ℕ
setting d r code = 1000 * unsigned_abs (repeat_setting d r code)

-- A key event of a frame that ended at this moment. A release disarms the timer, and a press arms it for its
-- key, where neither delay nor period is 0.
abbrev pub timer_at_key : ℕ → ℕ → ℕ → Event → Timer → Timer
timer_at_key now delay period e timer =
    if not (is_set e) then timer_disarmed timer
    else if nat_eq delay 0 || nat_eq period 0 then timer
    else record { due = Some (now + delay); key = e.code }

-- the events of a frame one after another; those that are no key or an autorepeat leave the timer
abbrev pub timer_at_events : ℕ → ℕ → ℕ → List Event → Timer → Timer
timer_at_events now delay period [] timer = timer
timer_at_events now delay period (e ∷ es) timer =
    timer_at_events now delay period es (if nat_eq e.kind EV_KEY && not (is_repeat e) then timer_at_key now delay period e timer else timer)

-- the frames one after another, each with the settings at its end
abbrev pub timer_at_cuts : Description → ℕ → List Cut → Timer → Timer
timer_at_cuts d now [] timer = timer
timer_at_cuts d now (c ∷ cs) timer =
    timer_at_cuts d now cs (timer_at_events now (setting d c.until REP_DELAY) (setting d c.until REP_PERIOD) c.events timer)

-- a timer that fired is armed anew for the key that it was last armed for, where the period is not 0
abbrev pub timer_rearmed : ℕ → ℕ → Timer → Timer
timer_rearmed now period timer = if nat_eq period 0 then timer else record timer { due = Some (now + period) }

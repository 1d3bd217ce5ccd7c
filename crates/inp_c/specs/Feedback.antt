-- What the owner of a handle's device takes, and what C is told of it.
use Rattle.std.specs.Prelude.{◌≡◌, ℕ, List, length, map, min, Option, Some}
use Rattle.inp_model.specs.declared.taken.Taken.{Taken}
use Rattle.inp_model.specs.Reply.{written}
use Rattle.inp_feedback.specs.declared.fed.Fed.{Fed}
use Rattle.inp_feedback.specs.declared.fed.Fed.TheVariants.{Took, Full}
use Rattle.inp_feedback.specs.declared.fed.TheConstants.{FEEDBACK_MAX}
use Rattle.inp_feedback.specs.Feedback.{fed, taken_by_feedback, kept_after_feedback}
use Rattle.inp_c.specs.declared.kept.Kept.{Kept}
use Rattle.inp_c.specs.declared.kept.Kept.TheVariants.{Device}
use Rattle.inp_c.specs.declared.kept_device.KeptDevice.{KeptDevice}
use Rattle.inp_c.specs.Told.{told_untimed}

-- the history's length at a feedback call
abbrev pub fed_place : Fed → ℕ
fed_place (Took at count) = at
fed_place (Full at) = at

-- how many events it took
abbrev pub fed_count : Fed → ℕ
fed_count (Took at count) = count
fed_count (Full at) = 0

-- 1 where the calls are as many as may be kept, else 0
abbrev pub fed_full : Fed → ℕ
fed_full (Took at count) = 0
fed_full (Full at) = 1

-- how many events a call asks for, where C has room for so many: no more than wait at most
abbrev pub room_of_owner : List Taken → ℕ
room_of_owner events = min (length events) FEEDBACK_MAX

-- A kept device answered a feedback call so, and its reader and joystick client stay. The events that it took
-- stand at the front of C's array, and what is after them stays.
pub record FeedsDevice (old new : KeptDevice) (events new_events : List Taken) (answer : Fed) : Type 0 where
  pub answered : answer ≡ fed old.udev.description old.udev.kept (room_of_owner events)
  pub kept : new.udev.kept ≡ kept_after_feedback old.udev.description old.udev.kept (room_of_owner events)
  pub description : new.udev.description ≡ old.udev.description
  pub agains : new.udev.agains ≡ old.udev.agains
  pub reader : new.reader ≡ old.reader
  pub joy : new.joy ≡ old.joy
  pub events_written : new_events ≡ written (map told_untimed (taken_by_feedback old.udev.description old.udev.kept (room_of_owner events))) events

-- A handle keeps a device before and after, whose owner made a call. C is told its answer.
pub record IsOwnerTold (before after : Option Kept) (events new_events : List Taken) (at count full : ℕ) : Type 0 where
  pub old : KeptDevice
  pub new : KeptDevice
  pub answer : Fed
  pub was : before ≡ Some (Device old)
  pub is : after ≡ Some (Device new)
  pub feeds : FeedsDevice old new events new_events answer
  pub at_is : at ≡ fed_place answer
  pub count_is : count ≡ fed_count answer
  pub full_is : full ≡ fed_full answer

-- What a step of a handle's device leaves, and what C is told of it.
use Rattle.std.specs.Prelude.{◌≡◌, ℕ, ℤ, List, Option, Some}
use Rattle.inp_model.specs.declared.event.Event.{Event}
use Rattle.inp_model.specs.declared.step.Step.{Step}
use Rattle.inp_model.specs.declared.step.Step.TheVariants.{Inject}
use Rattle.inp_model.specs.declared.taken.Taken.{Taken}
use Rattle.inp_model.specs.declared.reply.Reply.{Reply}
use Rattle.inp_model.specs.declared.reply.Reply.TheVariants.{Took}
use Rattle.inp_model.specs.Reply.{Answer, IsAnswer, written}
use Rattle.inp_model.specs.Run.{place_of}
use Rattle.inp_model.specs.Evdev.{agains_after}
use Rattle.inp_feedback.specs.UEntry.{steps_in, kept_after_step}
use Rattle.inp_c.specs.declared.kept.Kept.{Kept}
use Rattle.inp_c.specs.declared.kept.Kept.TheVariants.{Device}
use Rattle.inp_c.specs.declared.kept_device.KeptDevice.{KeptDevice}
use Rattle.inp_c.specs.declared.c_step.CStep.{CStep}
use Rattle.inp_c.specs.declared.c_reply.CReply.{CReply}
use Rattle.inp_c.specs.StepOfC.{step_of_c}
use Rattle.inp_c.specs.Told.{told, told_refusal}

-- how many events a reply says that were read
abbrev pub read_count : Reply → ℕ
read_count (Took at count) = count
read_count _ = 0

-- A kept device made the step with this answer, which is the one-thread device's, and its reader and joystick
-- client stay.
pub record IsDeviceAnswer (old new : KeptDevice) (x : Step) (given : Answer) : Type 0 where
  pub exact : IsAnswer old.udev.description (steps_in old.udev.kept) x given
  pub kept : new.udev.kept ≡ kept_after_step given.reply x old.udev.kept
  pub description : new.udev.description ≡ old.udev.description
  pub agains : new.udev.agains ≡ agains_after given.reply old.udev.agains
  pub reader : new.reader ≡ old.reader
  pub joy : new.joy ≡ old.joy

-- The same, with C's arrays of events and of values, to whose fronts the answer is written; what is after it
-- stays.
pub record IsKeptStep (old new : KeptDevice) (x : Step) (reply : Reply) (events new_events : List Taken) (cells new_cells : List ℤ) : Type 0 where
  pub given : Answer
  pub answered : IsDeviceAnswer old new x given
  pub replied : reply ≡ given.reply
  pub events_written : new_events ≡ written given.events events
  pub cells_written : new_cells ≡ written given.cells cells

-- The same, with the reply that C is told.
pub record TellsStep (old new : KeptDevice) (x : Step) (reply : CReply) (events new_events : List Taken) (cells new_cells : List ℤ) : Type 0 where
  pub given : Answer
  pub answered : IsDeviceAnswer old new x given
  pub replied : reply ≡ told given.reply
  pub events_written : new_events ≡ written given.events events
  pub cells_written : new_cells ≡ written given.cells cells

-- A handle keeps a device before and after, which made the step that C gave, and C is told of it.
pub record IsToldStep (before after : Option Kept) (c : CStep) (reply : CReply) (events new_events : List Taken) (cells new_cells : List ℤ) : Type 0 where
  pub old : KeptDevice
  pub new : KeptDevice
  pub step : Step
  pub was : before ≡ Some (Device old)
  pub is : after ≡ Some (Device new)
  pub reads : step_of_c c ≡ Some step
  pub tells : TellsStep old new step reply events new_events cells new_cells

-- A handle keeps a device before and after, which was injected this event. C is told its place, or the
-- history's length and the cause.
pub record IsToldInject (before after : Option Kept) (event : Event) (now at why : ℕ) : Type 0 where
  pub old : KeptDevice
  pub new : KeptDevice
  pub given : Answer
  pub was : before ≡ Some (Device old)
  pub is : after ≡ Some (Device new)
  pub answered : IsDeviceAnswer old new (Inject event now) given
  pub place : at ≡ place_of given.reply
  pub cause : why ≡ told_refusal given.reply

-- Many events that are injected into the device of a handle.
use Rattle.std.specs.Prelude.{◌≡◌, ℕ, Bool, ◌&&◌, nat_eq, nat_le, if◌then◌else◌, List, length, take, Option, Some}
use Rattle.std.specs.List.{list_all}
use Rattle.inp_model.specs.declared.injected.Injected.{Injected}
use Rattle.inp_model.specs.declared.stamped.Stamped.{Stamped}
use Rattle.inp_model.specs.declared.stamped.TheConstants.{MOMENT_MAX}
use Rattle.inp_model.specs.declared.reply.Refusal.TheVariants.{LogFull}
use Rattle.inp_model.specs.Injection.{entered_count}
use Rattle.inp_feedback.specs.UEntry.{steps_in, kept_after_events}
use Rattle.inp_actors.specs.declared.command.TheConstants.{READ_MAX}
use Rattle.inp_c.specs.declared.kept.Kept.{Kept}
use Rattle.inp_c.specs.declared.kept.Kept.TheVariants.{Device}
use Rattle.inp_c.specs.declared.kept_device.KeptDevice.{KeptDevice}
use Rattle.inp_c.specs.declared.status.TheConstants.{BAD_HANDLE}
use Rattle.inp_c.specs.Status.{argument_status}
use Rattle.inp_c.specs.Told.{refusal_number}

-- each moment is within its limit
abbrev pub are_timely : List Stamped → Bool
are_timely events = list_all (λ (s : Stamped). nat_le s.now MOMENT_MAX) events

-- a call that wants a device, and no more events than a read may ask for, each in time
abbrev pub inject_all_status : Option Kept → List Stamped → ℕ
inject_all_status (Some (Device device)) events = argument_status (nat_le (length events) READ_MAX && are_timely events)
inject_all_status _ events = BAD_HANDLE

-- the number of the cause for which an event was not injected, where so many were, else 0
abbrev pub inject_cause : ℕ → ℕ
inject_cause count = if nat_eq count 0 then refusal_number LogFull else 0

-- A kept device was injected these events, as many of them as its history has room for, and its reader and
-- joystick client stay.
pub record IsKeptInjectAll (old new : KeptDevice) (events : List Stamped) (injected : Injected) : Type 0 where
  pub from : injected.from ≡ length (steps_in old.udev.kept)
  pub count : injected.count ≡ entered_count old.udev.description injected.from events
  pub kept : new.udev.kept ≡ kept_after_events (take injected.count events) old.udev.kept
  pub description : new.udev.description ≡ old.udev.description
  pub agains : new.udev.agains ≡ old.udev.agains
  pub reader : new.reader ≡ old.reader
  pub joy : new.joy ≡ old.joy

-- A handle keeps a device before and after, which was injected the events that C gave. C is told the place of
-- the first one and how many were entered.
pub record IsToldInjectAll (before after : Option Kept) (events : List Stamped) (from count : ℕ) : Type 0 where
  pub old : KeptDevice
  pub new : KeptDevice
  pub injected : Injected
  pub was : before ≡ Some (Device old)
  pub is : after ≡ Some (Device new)
  pub injects : IsKeptInjectAll old new events injected
  pub from_is : from ≡ injected.from
  pub count_is : count ≡ injected.count

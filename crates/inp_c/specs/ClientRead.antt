-- What a read of a handle's device leaves, and what C is told of it.
use Rattle.std.specs.Prelude.{◌≡◌, ℕ, nat_le, List, length, Option, Some}
use Rattle.inp_model.specs.declared.reply.Reply.{Reply}
use Rattle.inp_model.specs.declared.step.Step.TheVariants.{Read}
use Rattle.inp_model.specs.declared.taken.Taken.{Taken}
use Rattle.inp_model.specs.Reply.{Answer, written}
use Rattle.inp_model.specs.Run.{place_of}
use Rattle.inp_actors.specs.declared.command.TheConstants.{READ_MAX}
use Rattle.inp_c.specs.declared.kept.Kept.{Kept}
use Rattle.inp_c.specs.declared.kept.Kept.TheVariants.{Device}
use Rattle.inp_c.specs.declared.kept_device.KeptDevice.{KeptDevice}
use Rattle.inp_c.specs.declared.status.TheConstants.{BAD_HANDLE}
use Rattle.inp_c.specs.Status.{argument_status}
use Rattle.inp_c.specs.Steps.{IsDeviceAnswer, read_count}
use Rattle.inp_c.specs.Told.{told_refusal}

-- a call that wants a device, and an array that is no longer than the greatest read
abbrev pub read_status : Option Kept → ℕ → ℕ
read_status (Some (Device device)) room = argument_status (nat_le room READ_MAX)
read_status _ room = BAD_HANDLE

-- A kept device made a read of as many events as C has room for, with this answer. The events stand at the
-- front of C's array.
pub record TellsRead (old new : KeptDevice) (client : ℕ) (events new_events : List Taken) (reply : Reply) : Type 0 where
  pub given : Answer
  pub answered : IsDeviceAnswer old new (Read client (length events)) given
  pub replied : reply ≡ given.reply
  pub events_written : new_events ≡ written given.events events

-- A handle keeps a device before and after, which made the read. C is told its place, or the history's
-- length, how many events were read, and the cause where it was refused.
pub record IsToldRead (before after : Option Kept) (client : ℕ) (events new_events : List Taken) (at count why : ℕ) : Type 0 where
  pub old : KeptDevice
  pub new : KeptDevice
  pub reply : Reply
  pub was : before ≡ Some (Device old)
  pub is : after ≡ Some (Device new)
  pub tells : TellsRead old new client events new_events reply
  pub place : at ≡ place_of reply
  pub count_is : count ≡ read_count reply
  pub cause : why ≡ told_refusal reply

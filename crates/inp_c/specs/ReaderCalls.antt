-- What a call of a device's reader leaves, and what C is told of it.
use Rattle.std.specs.Prelude.{◌≡◌, ℕ, nat_eq, if◌then◌else◌, [], Option, Some, None, is_some}
use Rattle.inp_model.specs.declared.taken.Taken.{Taken}
use Rattle.inp_uinput.specs.UdevView.{owned_view}
use Rattle.inp_reader.specs.declared.mode.Mode.{Mode}
use Rattle.inp_reader.specs.declared.mode.Mode.TheVariants.{Normal, Sync as SyncMode}
use Rattle.inp_reader.specs.declared.next.Next.{Next}
use Rattle.inp_reader.specs.declared.next.Next.TheVariants.{Success, Dropped, Sync, Again, Synced, NoDevice, Closed, Full}
use Rattle.inp_reader.specs.declared.started.Started.{Started}
use Rattle.inp_reader.specs.declared.started.Started.TheVariants.{Opened, Refused}
use Rattle.inp_reader.specs.Reader.{start_talk, next_talk, with_sync_needed}
use Rattle.inp_reader.specs.FollowsTalk.{FollowsTalk}
use Rattle.inp_reader.specs.LeftEvdev.{LeavesMade, agains_after_next}
use Rattle.inp_c.specs.declared.kept.Kept.{Kept}
use Rattle.inp_c.specs.declared.kept.Kept.TheVariants.{Device}
use Rattle.inp_c.specs.declared.kept_device.KeptDevice.{KeptDevice}
use Rattle.inp_c.specs.declared.status.TheConstants.{BAD_HANDLE}
use Rattle.inp_c.specs.Status.{argument_status}
use Rattle.inp_c.specs.Told.{told_untimed, refusal_number}

-- The reader started: its calls on the device are those of a start, and this is its answer. What the device's owner took
-- and what waits for it are as before, since the calls keep the tie of `owned_view`.
pub record IsKeptStart (old new : KeptDevice) (answer : Started) : Type 0 where
  pub says : FollowsTalk (owned_view old.udev) (owned_view new.udev) [] new.reader.made (start_talk old.reader.description old.reader.reading) (answer, new.reader.reading)
  pub left : LeavesMade (owned_view old.udev) (owned_view new.udev) new.reader.made
  pub agains : new.udev.agains ≡ old.udev.agains
  pub description : new.udev.description ≡ old.udev.description
  pub joy : new.joy ≡ old.joy

-- The reader went on: its calls on the device are those of its next event, and this is its answer. What the owner has is
-- as before.
pub record IsKeptNext (old new : KeptDevice) (mode : Mode) (answer : Next) : Type 0 where
  pub says : FollowsTalk (owned_view old.udev) (owned_view new.udev) [] new.reader.made (next_talk old.reader.description mode old.reader.reading) (answer, new.reader.reading)
  pub left : LeavesMade (owned_view old.udev) (owned_view new.udev) new.reader.made
  pub agains : new.udev.agains ≡ agains_after_next answer old.udev.agains
  pub description : new.udev.description ≡ old.udev.description
  pub joy : new.joy ≡ old.joy

-- the mode of this number
abbrev pub mode_numbered : ℕ → Option Mode
mode_numbered number = if nat_eq number 0 then Some Normal else if nat_eq number 1 then Some SyncMode else None

-- a call that wants a device and a mode
abbrev pub next_status : Option Kept → ℕ → ℕ
next_status (Some (Device device)) number = argument_status (is_some (mode_numbered number))
next_status _ number = BAD_HANDLE

-- the number of the cause for which a start was refused, else 0
abbrev pub start_refusal : Started → ℕ
start_refusal (Opened client ring) = 0
start_refusal (Refused at why) = refusal_number why

-- the number of an answer
abbrev pub next_number : Next → ℕ
next_number (Success event) = 0
next_number (Dropped event) = 1
next_number (Sync event) = 2
next_number (Again at ends) = 3
next_number Synced = 4
next_number NoDevice = 5
next_number Closed = 6
next_number (Full at) = 7

-- the event of an answer; where the answer has no event it is the one that C had
abbrev pub next_event : Next → Taken → Taken
next_event (Success event) had = event
next_event (Dropped event) had = event
next_event (Sync event) had = told_untimed event
next_event _ had = had

-- The reader of the handle's device started. C is told its client, and why a call was refused, or 0.
pub record IsToldStart (before after : Option Kept) (client why : ℕ) : Type 0 where
  pub old : KeptDevice
  pub new : KeptDevice
  pub answer : Started
  pub was : before ≡ Some (Device old)
  pub is : after ≡ Some (Device new)
  pub started : IsKeptStart old new answer
  pub client_is : client ≡ new.reader.reading.client
  pub why_is : why ≡ start_refusal answer

-- The reader of the handle's device went on. C is told which answer it is, and its event.
pub record IsToldNext (before after : Option Kept) (number : ℕ) (event new_event : Taken) (told : ℕ) : Type 0 where
  pub old : KeptDevice
  pub new : KeptDevice
  pub mode : Mode
  pub answer : Next
  pub was : before ≡ Some (Device old)
  pub is : after ≡ Some (Device new)
  pub reads : mode_numbered number ≡ Some mode
  pub went_on : IsKeptNext old new mode answer
  pub event_is : new_event ≡ next_event answer event
  pub told_is : told ≡ next_number answer

-- The reader of the handle's device is to synchronise. All else stays.
pub record IsForced (before after : Option Kept) : Type 0 where
  pub old : KeptDevice
  pub new : KeptDevice
  pub was : before ≡ Some (Device old)
  pub is : after ≡ Some (Device new)
  pub reader : new.reader ≡ record old.reader { reading = with_sync_needed old.reader.reading }
  pub udev : new.udev ≡ old.udev
  pub joy : new.joy ≡ old.joy

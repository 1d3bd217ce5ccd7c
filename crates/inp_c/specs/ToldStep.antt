-- What C is told of a step, and of a call that a reader made.
use Rattle.std.specs.Prelude.{◌≡◌, ℕ, pos, nat_lt, length, slice_get, Option, Some}
use Rattle.inp_model.specs.declared.clock.Clock.{Clock}
use Rattle.inp_model.specs.declared.clock.Clock.TheVariants.{Realtime, Monotonic, Boottime}
use Rattle.inp_model.specs.declared.step.Step.{Step}
use Rattle.inp_model.specs.declared.step.Step.TheVariants.{Inject, Tick, Open, Close, Read, Discard, GetKeys, GetSwitches, GetLeds, GetSounds, GetAxis, SetAxis, GetSlots, SyncSlots, Write, Grab, Ungrab, Mask, Clock as ToClock, Revoke, Inhibit, Uninhibit, End}
use Rattle.inp_reader.specs.declared.call_made.CallMade.{CallMade}
use Rattle.inp_c.specs.declared.kept.Kept.{Kept}
use Rattle.inp_c.specs.declared.kept.Kept.TheVariants.{Device}
use Rattle.inp_c.specs.declared.kept_device.KeptDevice.{KeptDevice}
use Rattle.inp_c.specs.declared.c_reply.CReply.{CReply}
use Rattle.inp_c.specs.declared.c_step.CStep.{CStep}
use Rattle.inp_c.specs.declared.status.TheConstants.{BAD_HANDLE}
use Rattle.inp_c.specs.Status.{argument_status}
use Rattle.inp_c.specs.Told.{told, info_of_zeros}

-- the kernel's number of a clock
abbrev pub clock_number : Clock → ℕ
clock_number Realtime = 0
clock_number Monotonic = 1
clock_number Boottime = 7

abbrev pub step_of_zeros : CStep
step_of_zeros = record { step = 0; client = 0; kind = 0; code = 0; value = pos 0; moment = 0; count = 0; clock = 0; bits = 0; info = info_of_zeros }

-- a step that names a client and no more
abbrev pub step_by : ℕ → ℕ → CStep
step_by number client = record step_of_zeros { step = number; client = client }

-- what C is told of a step; what is not named is 0
abbrev pub told_step : Step → CStep
told_step (Inject event now) = record step_of_zeros { kind = event.kind; code = event.code; value = event.value; moment = now }
told_step (Tick now) = record step_of_zeros { step = 1; moment = now }
told_step Open = step_by 2 0
told_step (Close client) = step_by 3 client
told_step (Read client count) = record step_of_zeros { step = 4; client = client; count = count }
told_step (Discard client) = step_by 5 client
told_step (GetKeys client) = step_by 6 client
told_step (GetSwitches client) = step_by 7 client
told_step (GetLeds client) = step_by 8 client
told_step (GetSounds client) = step_by 9 client
told_step (GetAxis client code) = record step_of_zeros { step = 10; client = client; code = code }
told_step (SetAxis client code info) = record step_of_zeros { step = 11; client = client; code = code; info = info }
told_step (GetSlots client code) = record step_of_zeros { step = 12; client = client; code = code }
told_step (SyncSlots client) = step_by 13 client
told_step (Write client event now) = record step_of_zeros { step = 14; client = client; kind = event.kind; code = event.code; value = event.value; moment = now }
told_step (Grab client) = step_by 15 client
told_step (Ungrab client) = step_by 16 client
told_step (Mask client kind word bits) = record step_of_zeros { step = 17; client = client; kind = kind; code = word; bits = bits }
told_step (ToClock client clock now) = record step_of_zeros { step = 18; client = client; clock = clock_number clock; moment = now }
told_step (Revoke client) = step_by 19 client
told_step (Inhibit now) = record step_of_zeros { step = 20; moment = now }
told_step Uninhibit = step_by 21 0
told_step End = step_by 22 0

-- a call that wants a device, and the number of a call that its reader made last
abbrev pub call_status : Option Kept → ℕ → ℕ
call_status (Some (Device device)) index = argument_status (nat_lt index (length device.reader.made))
call_status _ index = BAD_HANDLE

-- the call of this number that the reader of the handle's device made last, as C is told of it
pub record IsToldCall (before : Option Kept) (index : ℕ) (step : CStep) (reply : CReply) : Type 0 where
  pub device : KeptDevice
  pub call : CallMade
  pub is : before ≡ Some (Device device)
  pub there : slice_get device.reader.made index ≡ Some call
  pub step_is : step ≡ told_step call.step
  pub reply_is : reply ≡ told call.reply

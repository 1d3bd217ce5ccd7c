-- What a call of a device's joystick client leaves, and what C is told of it.
use Rattle.std.specs.Prelude.{◌≡◌, ℕ, List, [], Option, Some}
use Rattle.inp_uinput.specs.UdevView.{owned_view}
use Rattle.inp_reader.specs.declared.started.Started.{Started}
use Rattle.inp_reader.specs.FollowsTalk.{FollowsTalk}
use Rattle.inp_reader.specs.LeftEvdev.{LeavesMade}
use Rattle.inp_joy.specs.declared.joy_read.JoyRead.{JoyRead}
use Rattle.inp_joy.specs.declared.joy_read.JoyRead.TheVariants.{Record, Frame, Again, NoDevice, Closed, Full, More}
use Rattle.inp_joy.specs.declared.picture.Picture.{Picture}
use Rattle.inp_joy.specs.Joy.{joy_start}
use Rattle.inp_joy.specs.Picture.{seen_as}
use Rattle.inp_joy.specs.Reads.{IsJoyRead, agains_after_read}
use Rattle.inp_c.specs.declared.kept.Kept.{Kept}
use Rattle.inp_c.specs.declared.kept.Kept.TheVariants.{Device}
use Rattle.inp_c.specs.declared.kept_device.KeptDevice.{KeptDevice}
use Rattle.inp_c.specs.declared.c_picture.CPicture.{CPicture}
use Rattle.inp_c.specs.ReaderCalls.{start_refusal}

-- The joystick client started: its calls on the device are those of a start, and this is its answer. What the device's
-- owner has is as before (`IsKeptStart`).
pub record IsKeptJoyStart (old new : KeptDevice) (answer : Started) : Type 0 where
  pub says : FollowsTalk (owned_view old.udev) (owned_view new.udev) [] new.joy.made (joy_start old.joy.description old.joy.joying) (answer, new.joy.joying)
  pub left : LeavesMade (owned_view old.udev) (owned_view new.udev) new.joy.made
  pub agains : new.udev.agains ≡ old.udev.agains
  pub description : new.udev.description ≡ old.udev.description
  pub reader : new.reader ≡ old.reader

-- The joystick client read: its calls on the device are those of a read, and this is its answer, with the eight bytes.
-- What the owner has is as before.
pub record IsKeptJoyRead (old new : KeptDevice) (answer : JoyRead) (out new_out : List ℕ) : Type 0 where
  pub reads : IsJoyRead (owned_view old.udev) (owned_view new.udev) old.joy.description old.joy.joying new.joy.joying new.joy.made answer out new_out
  pub left : LeavesMade (owned_view old.udev) (owned_view new.udev) new.joy.made
  pub agains : new.udev.agains ≡ agains_after_read answer old.udev.agains
  pub description : new.udev.description ≡ old.udev.description
  pub reader : new.reader ≡ old.reader

-- the number of an answer
abbrev pub joy_number : JoyRead → ℕ
joy_number Record = 0
joy_number (Frame place) = 1
joy_number (Again at ends) = 2
joy_number NoDevice = 3
joy_number Closed = 4
joy_number (Full at) = 5
joy_number More = 6

-- the place of the step that ended a frame, else 0
abbrev pub joy_place : JoyRead → ℕ
joy_place (Frame place) = place
joy_place _ = 0

-- a picture as C has it
abbrev pub told_picture : Picture → CPicture
told_picture p = record { buttons = p.buttons; axes = p.axes }

-- The joystick client of the handle's device started. C is told its client, and why a call was refused, or 0.
pub record IsToldJoyStart (before after : Option Kept) (client why : ℕ) : Type 0 where
  pub old : KeptDevice
  pub new : KeptDevice
  pub answer : Started
  pub was : before ≡ Some (Device old)
  pub is : after ≡ Some (Device new)
  pub started : IsKeptJoyStart old new answer
  pub client_is : client ≡ new.joy.joying.reading.client
  pub why_is : why ≡ start_refusal answer

-- The joystick client of the handle's device read. C is told which answer it is, the place where a frame ended, and the
-- eight bytes of a record.
pub record IsToldJoyRead (before after : Option Kept) (out new_out : List ℕ) (told place : ℕ) : Type 0 where
  pub old : KeptDevice
  pub new : KeptDevice
  pub answer : JoyRead
  pub was : before ≡ Some (Device old)
  pub is : after ≡ Some (Device new)
  pub read : IsKeptJoyRead old new answer out new_out
  pub told_is : told ≡ joy_number answer
  pub place_is : place ≡ joy_place answer

-- what C has is how the buttons and axes stand, as the records of the handle's joystick client tell
pub record IsJoyPicture (before : Option Kept) (told : CPicture) : Type 0 where
  pub device : KeptDevice
  pub picture : Picture
  pub is : before ≡ Some (Device device)
  pub told_is : told ≡ told_picture picture
  pub stands_for : seen_as picture ≡ device.joy.joying.picture

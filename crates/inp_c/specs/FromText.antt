-- Devices and records that are made of a text, and what C is told of a text that is no device and no record.
use Rattle.std.specs.Prelude.{◌≡◌, ◌≢◌, ◌⊎◌, ◌<◌, ◌≤◌, ℕ, false, List, [], length, replicate, slice_get, Option, Some, None, Result, Ok, Err}
use Rattle.inp_edge.specs.declared.input.TheConstants.{INPUT_LIMIT}
use Rattle.inp_model.specs.Description.{Description}
use Rattle.inp_actors.specs.Record.{RecordView}
use Rattle.inp_actors.specs.declared.device_text.DeviceText.{DeviceText}
use Rattle.inp_record.specs.declared.refused.Refused.{Refused}
use Rattle.inp_record.specs.Meaning.{meaning}
use Rattle.inp_c.specs.declared.kept.Kept.{Kept}
use Rattle.inp_c.specs.declared.kept.Kept.TheVariants.{Device, Record}
use Rattle.inp_c.specs.declared.kept_device.KeptDevice.{KeptDevice}
use Rattle.inp_c.specs.declared.kept_record.KeptRecord.{KeptRecord}
use Rattle.inp_c.specs.declared.status.TheConstants.{OK, REFUSED, BAD_ARGUMENT, NO_MEMORY, TOO_LONG, IN_USE}
use Rattle.inp_c.specs.Cause.{cause_number}
use Rattle.inp_c.specs.Fresh.{fresh_udev, IsFreshReader, IsFreshJoy}

-- the text is refused: this is the first line that has no meaning, and the number of its cause
pub record IsRefusedText (text : List ℕ) (line cause : ℕ) : Type 0 where
  pub refused : Refused
  pub means : meaning text ≡ Err refused
  pub line_is : line ≡ refused.line
  pub cause_is : cause ≡ cause_number refused.cause

-- What a status other than OK says of a text, and what is told of a line. The two numbers after are those
-- before.
pub record IsNoText (text : List ℕ) (old_line old_cause status line cause : ℕ) : Type 0 where
  pub one_of : (status ≡ REFUSED) ⊎ ((status ≡ TOO_LONG) ⊎ (status ≡ NO_MEMORY))
  pub refused : status ≡ REFUSED → IsRefusedText text line cause
  pub too_long : status ≡ TOO_LONG → INPUT_LIMIT < length text
  pub fits : status ≢ TOO_LONG → length text ≤ INPUT_LIMIT
  pub line_stays : status ≢ REFUSED → line ≡ old_line
  pub cause_stays : status ≢ REFUSED → cause ≡ old_cause

-- what reading a text gives: the record that it means, or a status
abbrev pub IsTextRead : List ℕ → ℕ → ℕ → Result RecordView ℕ → ℕ → ℕ → Type 0
IsTextRead text old_line old_cause (Ok recorded) line cause = (meaning text ≡ Ok recorded) × (length text ≤ INPUT_LIMIT) × (line ≡ old_line) × (cause ≡ old_cause)
IsTextRead text old_line old_cause (Err status) line cause = IsNoText text old_line old_cause status line cause

-- What a call that makes something of a text answers. The handle is in use exactly where it keeps something,
-- else the text is too long exactly where it is. The call says refused only of a text that is to be refused.
-- It tells a line and a cause where the text is refused, else zeros. There is no other status.
pub record IsMakingAnswer (before : Option Kept) (text : List ℕ) (status line cause : ℕ) : Type 0 where
  pub one_of : (status ≡ OK) ⊎ ((status ≡ REFUSED) ⊎ ((status ≡ BAD_ARGUMENT) ⊎ ((status ≡ TOO_LONG) ⊎ ((status ≡ IN_USE) ⊎ (status ≡ NO_MEMORY)))))
  pub in_use : status ≡ IN_USE → before ≢ None
  pub was_free : status ≢ IN_USE → before ≡ None
  pub refused : status ≡ REFUSED → IsRefusedText text line cause
  pub too_long : status ≡ TOO_LONG → INPUT_LIMIT < length text
  pub fits : status ≢ IN_USE → status ≢ TOO_LONG → length text ≤ INPUT_LIMIT
  pub no_line : status ≢ REFUSED → line ≡ 0
  pub no_cause : status ≢ REFUSED → cause ≡ 0

-- what is kept is a device of this description, with a history that is empty, and a reader and a joystick client
-- that have not started
pub record IsFreshKept (d : Description) (kept : Kept) : Type 0 where
  pub device : KeptDevice
  pub is : kept ≡ Device device
  pub udev : device.udev ≡ fresh_udev d
  pub reader : IsFreshReader d device.reader
  pub joy : IsFreshJoy d device.joy

-- what is kept is the device of this number of a record, with a history that is empty, and a reader and a
-- joystick client that have not started
pub record IsDeviceKept (recorded : RecordView) (number : ℕ) (after : Option Kept) : Type 0 where
  pub text : DeviceText
  pub device : KeptDevice
  pub there : slice_get recorded.devices number ≡ Some text
  pub is : after ≡ Some (Device device)
  pub udev : device.udev ≡ fresh_udev text.caps
  pub reader : IsFreshReader text.caps device.reader
  pub joy : IsFreshJoy text.caps device.joy

-- a text is a record, and what is kept is its device of this number
pub record IsDeviceMade (text : List ℕ) (number : ℕ) (after : Option Kept) : Type 0 where
  pub recorded : RecordView
  pub means : meaning text ≡ Ok recorded
  pub kept : IsDeviceKept recorded number after

-- a text is a record that has no device of this number
pub record LacksDevice (text : List ℕ) (number : ℕ) : Type 0 where
  pub recorded : RecordView
  pub means : meaning text ≡ Ok recorded
  pub past_end : length recorded.devices ≤ number

-- what is kept is this record, none of whose streams has its bytes, and no text was made of it
pub record IsRecordKept (recorded : RecordView) (after : Option Kept) : Type 0 where
  pub kept : KeptRecord
  pub is : after ≡ Some (Record kept)
  pub recorded_is : kept.recorded ≡ recorded
  pub none_loaded : kept.loaded.items ≡ replicate (length recorded.streams) false
  pub no_text : kept.text.items ≡ []

-- a text is a record, and it is kept
pub record IsRecordMade (text : List ℕ) (after : Option Kept) : Type 0 where
  pub recorded : RecordView
  pub means : meaning text ≡ Ok recorded
  pub kept : IsRecordKept recorded after

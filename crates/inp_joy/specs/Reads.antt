-- What `read` of a joystick client promises (docs/RULES.md, "Joystick clients").
use Rattle.std.specs.Prelude.{◌≡◌, ℕ, ◌+◌, ◌-◌, ◌^◌, ◌<◌, nat_lt, if◌then◌else◌, false, List, [], reverse, drop, slice_get, Option, Some, None}
use Rattle.inp_model.specs.declared.step.Step.{Step}
use Rattle.inp_model.specs.Description.{Description}
use Rattle.inp_model.specs.Evdev.{EvdevView}
use Rattle.inp_model.specs.RawItem.{Frame as DeviceFrame}
use Rattle.inp_recon.specs.ClientView.{ReadEntry, read_entries}
use Rattle.inp_recon.specs.Faithful.{IsReportOf, IsFollowed}
use Rattle.inp_reader.specs.declared.call_made.CallMade.{CallMade}
use Rattle.inp_reader.specs.FollowsTalk.{FollowsTalk}
use Rattle.inp_reader.specs.TrueView.{index_handed_out}
use Rattle.inp_reader.specs.ReaderPlace.{StandsAt, is_needed}
use Rattle.inp_joy.specs.declared.joy_read.JoyRead.{JoyRead}
use Rattle.inp_joy.specs.declared.joy_read.JoyRead.TheVariants.{Frame, Again, More}
use Rattle.inp_joy.specs.declared.joy_record.JoyRecord.{JoyRecord}
use Rattle.inp_joy.specs.JoyRecord.{bytes_of_record}
use Rattle.inp_joy.specs.Picture.{picture_after_all, picture_of_view, picture_of_device}
use Rattle.inp_joy.specs.Joy.{JoystickState, JoyView, startup, turns}

-- the caller's eight bytes: the record that was handed out, or what they were
abbrev pub bytes_after : Option JoyRecord → List ℕ → List ℕ
bytes_after None out = out
bytes_after (Some r) out = bytes_of_record r

-- The calls that were made are those of some number of turns, and the answer, what is kept and what is
-- written are their result.
pub record IsJoyRead (before after : EvdevView) (d : Description) (old new : JoystickState) (made : List CallMade) (read : JoyRead) (out new_out : List ℕ) : Type 0 where
  pub count : ℕ
  pub record_out : Option JoyRecord
  pub says : FollowsTalk before after [] made (turns d count 0 old) (Some (record { read = read; record_out = record_out; joying = new }))
  pub out_written : new_out ≡ bytes_after record_out out

-- the count of answers Again after a read; it stays at the end of its type
abbrev pub agains_after_read : JoyRead → ℕ → ℕ
agains_after_read (Again at ends) n = if nat_lt n (2 ^ 64 - 1) then n + 1 else n
agains_after_read _ n = n

-- A read that ended a frame, or that was long, leaves its reader less to do (a number, its effort). Of the
-- others nothing is said. By this a caller's loop over `read` that counts its records ends.
abbrev pub IsReadLess : JoyRead → ℕ → ℕ → Type 0
IsReadLess (Frame place) after before = after < before
IsReadLess More after before = after < before
IsReadLess _ after before = Unit {0}

-- What is left of a startup leads the picture to the view's buttons and cut axes; after the startup it shows them.
abbrev pub IsPictured : Description → JoystickState → Type 0
IsPictured d j =
    is_needed j.reading.phase ≡ false
    → picture_after_all j.picture (drop j.handed (startup d j.reading.view)) ≡ picture_of_view d j.reading.view

-- the reader of a joystick client stands at the end of the history that is seen
abbrev pub JoyStands : EvdevView → JoyView → Type 0
JoyStands told joy = StandsAt joy.description (reverse told.seen) joy.joying.reading

-- A report that its client took ended the frame of this place. Where the client could follow the device up to
-- that frame, the picture is the device's at the frame's end.
pub record PicturesTheDevice (d : Description) (past : List Step) (j : JoystickState) (place : ℕ) : Type 0 where
  pub at : ReadEntry
  pub is_at : slice_get (read_entries d past j.reading.client) (index_handed_out d past j.reading) ≡ Some at
  pub is_place : at.entry.taken.place ≡ place
  pub pictures : (f : DeviceFrame) → IsReportOf at.entry f → IsFollowed d j.reading.client at f → j.picture ≡ picture_of_device d f.cut.until

-- what `read` answered, where a frame ended
abbrev pub ReadPictures : EvdevView → Description → JoystickState → JoyRead → Type 0
ReadPictures told d j (Frame place) = PicturesTheDevice d (reverse told.seen) j place
ReadPictures told d j _ = Unit {0}

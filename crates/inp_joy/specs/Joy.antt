-- What a joystick client keeps, and what `start` and `read` ask and answer (docs/RULES.md, "Joystick clients").
use Rattle.std.specs.Prelude.{ℕ, zero, suc, ◌+◌, ℤ, pos, Bool, ◌&&◌, if◌then◌else◌, nat_eq, nat_le, List, [], ◌∷◌, ◌++◌, map, slice_get, slice_index_or, Option, Some, None}
use Rattle.std.specs.Ordering.{int_eq}
use Rattle.inp_model.specs.declared.event.TheConstants.{EV_KEY, EV_ABS}
use Rattle.inp_model.specs.declared.taken.Taken.{Taken}
use Rattle.inp_model.specs.Description.{Description}
use Rattle.inp_model.specs.Event.{is_repeat, is_report}
use Rattle.inp_model.specs.Reply.{is_accepted}
use Rattle.inp_recon.specs.declared.view.View.{View}
use Rattle.inp_reader.specs.declared.call_made.CallMade.{CallMade}
use Rattle.inp_reader.specs.declared.mode.Mode.TheVariants.{Normal, Sync as Synchronising}
use Rattle.inp_reader.specs.declared.next.Next.{Next}
use Rattle.inp_reader.specs.declared.next.Next.TheVariants.{Success, Dropped, Again as NothingVisible, NoDevice as Revoked, Closed as NotOpen, Full as FullHistory}
use Rattle.inp_reader.specs.declared.started.Started.{Started}
use Rattle.inp_reader.specs.declared.started.Started.TheVariants.{Opened, Refused}
use Rattle.inp_reader.specs.Reader.{ReaderState, start_talk, next_talk}
use Rattle.inp_reader.specs.ReaderPlace.{is_needed}
use Rattle.inp_reader.specs.Talk.{Talk, finish, ask, and_then}
use Rattle.inp_joy.specs.declared.joy_read.JoyRead.{JoyRead}
use Rattle.inp_joy.specs.declared.joy_read.JoyRead.TheVariants.{Record, Frame, Again, NoDevice, Closed, Full, More}
use Rattle.inp_joy.specs.declared.joy_record.JoyRecord.{JoyRecord}
use Rattle.inp_joy.specs.JoyRecord.{within_16_bits, startup_button, startup_axis, button_record, axis_record}
use Rattle.inp_joy.specs.Codes.{buttons, axes, number_among, startup_len}
use Rattle.inp_joy.specs.Picture.{PictureView, blank_picture, picture_after, is_down_in, value_in}

pub record JoystickState : Type 0 where
  pub reading : ReaderState
  -- how many records of the startup were handed out
  pub handed : ℕ
  -- what the records since that startup began make of a blank picture
  pub picture : PictureView

-- what a joystick client is seen as
pub record JoyView : Type 0 where
  -- the description of the devices that it reads
  pub description : Description
  pub joying : JoystickState
  -- the calls of the last `start` or `read`, those answered Again left out
  pub made : List CallMade

-- Startups

-- what f makes of each item and of its number, from so many on
abbrev pub map_numbered : {X : Type 0} → (ℕ → X → JoyRecord) → ℕ → List X → List JoyRecord
map_numbered f n [] = []
map_numbered f n (x ∷ xs) = f n x ∷ map_numbered f (n + 1) xs

-- how the buttons stand in a view, and the axes
abbrev pub startup_buttons : Description → View → List JoyRecord
startup_buttons d v = map_numbered startup_button 0 (map (is_down_in v) (buttons d))

abbrev pub startup_axes : Description → View → List JoyRecord
startup_axes d v = map_numbered startup_axis 0 (map (λ code. within_16_bits (value_in v code)) (axes d))

-- the records of a startup: all buttons and then all axes
unfoldable pub startup : Description → View → List JoyRecord
startup d v = startup_buttons d v ++ startup_axes d v

abbrev pub with_reading : JoystickState → ReaderState → JoystickState
with_reading j r = record j { reading = r }

-- a startup begins
abbrev pub with_startup : ReaderState → JoystickState
with_startup r = record { reading = r; handed = 0; picture = blank_picture }

-- no startup record is left
abbrev pub without_startup : Description → JoystickState → JoystickState
without_startup d j = record j { handed = startup_len d }

abbrev pub is_startup_over : Description → JoystickState → Bool
is_startup_over d j = nat_le (startup_len d) j.handed

-- Starting

-- a startup begins where a client was opened; where its queries were refused in part no record is left
abbrev pub joying_after_start : Description → JoystickState → Started → JoystickState
joying_after_start d j (Opened client ring) = with_startup j.reading
joying_after_start d j (Refused at why) = if is_needed j.reading.phase then without_startup d j else j

abbrev pub joy_started : Description → JoystickState → Started × ReaderState → Started × JoystickState
joy_started d j o = (o.0, joying_after_start d (with_reading j o.1) o.0)

-- its reader starts
unfoldable pub joy_start : Description → JoystickState → Talk (Started × JoystickState)
joy_start d j = and_then (start_talk d j.reading) (λ o. finish (joy_started d j o))

-- Reading

-- an answer of `read`, with the record that it hands out and what is kept then
pub record JoyAnswer : Type 0 where
  pub read : JoyRead
  pub record_out : Option JoyRecord
  pub joying : JoystickState

-- a turn gives an answer, or the read goes on
pub data JoyTurn : Type 0 where
  gives : JoyAnswer → JoyTurn
  goes_on : JoystickState → JoyTurn

abbrev pub hand_out_record : JoystickState → JoyRecord → JoyAnswer
hand_out_record j r = record { read = Record; record_out = Some r; joying = record j { picture = picture_after j.picture r } }

abbrev pub stop_with : JoyRead → JoystickState → JoyAnswer
stop_with read j = record { read = read; record_out = None; joying = j }

-- the answers of a reader that are answers of a read too
abbrev pub joy_read_of : Next → Option JoyRead
joy_read_of (NothingVisible at ends) = Some (Again at ends)
joy_read_of Revoked = Some NoDevice
joy_read_of NotOpen = Some Closed
joy_read_of (FullHistory at) = Some (Full at)
joy_read_of _ = None

-- a key event gives a record where the key is a button, but for an autorepeat
abbrev pub record_of_key : Option ℕ → Taken → Option JoyRecord
record_of_key None taken = None
record_of_key (Some number) taken = if is_repeat taken.event then None else Some (button_record number taken)

-- the value of an axis in a picture
abbrev pub last_value : PictureView → ℕ → ℤ
last_value p number = slice_index_or p.axes number (pos 0)

-- an axis event gives one where its value, cut to 16 bits, is not the last one that was handed out
abbrev pub record_of_axis : PictureView → Option ℕ → Taken → Option JoyRecord
record_of_axis p None taken = None
record_of_axis p (Some number) taken =
    if int_eq (within_16_bits taken.event.value) (last_value p number) then None else Some (axis_record number taken)

abbrev pub joy_record_of : Description → PictureView → Taken → Option JoyRecord
joy_record_of d p taken =
    if nat_eq taken.event.kind EV_KEY then record_of_key (number_among taken.event.code (buttons d)) taken
    else if nat_eq taken.event.kind EV_ABS then record_of_axis p (number_among taken.event.code (axes d)) taken
    else None

-- the record that is there is handed out
abbrev pub record_or_on : JoystickState → Option JoyRecord → JoyTurn
record_or_on j None = goes_on j
record_or_on j (Some r) = gives (hand_out_record j r)

-- after an event of the reader: a report ends a frame, and others may give a record
abbrev pub joying_after_event : Description → JoystickState → Taken → JoyTurn
joying_after_event d j taken =
    if is_report taken.event then gives (stop_with (Frame taken.place) j)
    else record_or_on j (joy_record_of d j.picture taken)

-- the reader's answer is given where it is one of a read too, and else the read goes on from here
abbrev pub stop_or_on : JoystickState → JoystickState → Option JoyRead → JoyTurn
stop_or_on j here None = goes_on here
stop_or_on j here (Some read) = gives (stop_with read j)

-- after an answer of the reader that lost no events
abbrev pub joying_after_next : Description → JoystickState → Next → JoyTurn
joying_after_next d j (Success taken) = joying_after_event d j taken
joying_after_next d j next = stop_or_on j j (joy_read_of next)

-- after a synchronisation: a startup begins, unless it was stopped
abbrev pub joying_after_sync : JoystickState → Next × ReaderState → JoyTurn
joying_after_sync j o = stop_or_on (with_reading j o.1) (with_startup o.1) (joy_read_of o.0)

-- the reader synchronises
unfoldable pub sync_turn : Description → JoystickState → Talk JoyTurn
sync_turn d j = and_then (next_talk d Synchronising j.reading) (λ o. finish (joying_after_sync j o))

-- after an answer of the reader in Normal mode: where events were lost it synchronises
abbrev pub after_normal : Description → JoystickState → Next × ReaderState → Talk JoyTurn
after_normal d j (Dropped taken, r) = sync_turn d (with_reading j r)
after_normal d j (next, r) = finish (joying_after_next d (with_reading j r) next)

-- the reader is asked for its next event
unfoldable pub event_turn : Description → JoystickState → Talk JoyTurn
event_turn d j = and_then (next_talk d Normal j.reading) (after_normal d j)

-- one record of the startup more was handed out
abbrev pub next_in_startup : JoystickState → JoystickState
next_in_startup j = record j { handed = j.handed + 1 }

-- what a turn does, by what there is (docs/RULES.md, "Joystick clients"):
--
--   a startup record is left       hands it out
--   a synchronisation is needed    synchronises, and a startup begins
--   else the reader's next answer:
--   a report                       ends a frame, and tells its place
--   a button, no autorepeat        hands out its record
--   an axis with another value     hands out its record
--   lost events                    synchronises, and a startup begins
--   a stop of the reader           gives it as the read's answer
--   another event                  goes on
abbrev pub record_or_turn : Description → JoystickState → Option JoyRecord → Talk JoyTurn
record_or_turn d j None = if is_needed j.reading.phase then sync_turn d j else event_turn d j
record_or_turn d j (Some r) = finish (gives (hand_out_record (next_in_startup j) r))

abbrev pub turn_talk : Description → JoystickState → Talk JoyTurn
turn_talk d j = record_or_turn d j (slice_get (startup d j.reading.view) j.handed)

-- a talk, with how many of its steps were accepted after so many before
abbrev pub with_count : {A : Type 0} → Talk A → ℕ → Talk (ℕ × A)
with_count (finish a) n = finish (n, a)
with_count (ask x rest) n = ask x (λ answer. with_count (rest answer) (if is_accepted answer.reply then n + 1 else n))

-- a read is over for now: no startup record is left, and 64 of its steps were accepted
abbrev pub is_long : Description → JoystickState → ℕ → Bool
is_long d j n = is_startup_over d j && nat_le 64 n

abbrev pub after_turn : Description → (ℕ → JoystickState → Talk (Option JoyAnswer)) → ℕ → JoyTurn → Talk (Option JoyAnswer)
after_turn d go_on n (gives answer) = finish (Some answer)
after_turn d go_on n (goes_on j) = if is_long d j n then finish (Some (stop_with More j)) else go_on n j

-- turns until one gives an answer or the read is long, at most so many
unfoldable pub turns : Description → ℕ → ℕ → JoystickState → Talk (Option JoyAnswer)
turns d zero n j = finish None
turns d (suc k) n j = and_then (with_count (turn_talk d j) n) (λ o. after_turn d (turns d k) o.0 o.1)

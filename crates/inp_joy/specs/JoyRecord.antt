-- The records that a joystick client hands out (docs/RULES.md, "Joystick clients").
use Rattle.std.specs.Prelude.{ℕ, ◌+◌, ◌/◌, ◌%◌, ◌^◌, ℤ, pos, negsuc, slice_index_or, take, drop, int_lt, Bool, ◌||◌, if◌then◌else◌, nat_eq, List, [], ◌∷◌, ◌++◌}
use Rattle.std.specs.Int.{w16, w32, to_le_bytes, from_le_bytes, cast_unsigned, cast_signed}
use Rattle.inp_model.specs.declared.taken.Taken.{Taken}
use Rattle.inp_model.specs.Event.{is_set}
use Rattle.inp_reader.specs.Synthesis.{bit_value}
use Rattle.inp_joy.specs.declared.joy_record.JoyRecord.{JoyRecord}
use Rattle.inp_joy.specs.declared.joy_record.TheConstants.{JS_EVENT_BUTTON, JS_EVENT_AXIS, JS_EVENT_INIT}

-- the eight bytes of a record: time, value, type and number, each lowest byte first
abbrev pub bytes_of_record : JoyRecord → List ℕ
bytes_of_record r = to_le_bytes w32 r.time ++ to_le_bytes w16 (cast_unsigned w16 r.value) ++ r.kind ∷ r.number ∷ []

-- the record that eight bytes are
abbrev pub record_in : List ℕ → JoyRecord
record_in bytes = record {
  time = from_le_bytes w32 (take 4 bytes);
  value = cast_signed w16 (from_le_bytes w16 (take 2 (drop 4 bytes)));
  kind = slice_index_or bytes 6 0;
  number = slice_index_or bytes 7 0;
}

-- the value of an axis, cut to those of 16 bits that have a negative
abbrev pub within_16_bits : ℤ → ℤ
within_16_bits value =
    if int_lt value (negsuc 32766) then negsuc 32766
    else if int_lt (pos 32767) value then pos 32767
    else value

-- the lowest 32 bits of a time in milliseconds, of one in microseconds
abbrev pub milliseconds : ℕ → ℕ
milliseconds time = time / 1000 % 2 ^ 32

-- how a button or an axis stands as a startup begins
abbrev pub startup_button : ℕ → Bool → JoyRecord
startup_button number down =
    record { time = 0; value = bit_value down; kind = JS_EVENT_BUTTON + JS_EVENT_INIT; number = number }

abbrev pub startup_axis : ℕ → ℤ → JoyRecord
startup_axis number value =
    record { time = 0; value = value; kind = JS_EVENT_AXIS + JS_EVENT_INIT; number = number }

-- that a button was pressed or released
abbrev pub button_record : ℕ → Taken → JoyRecord
button_record number taken =
    record { time = milliseconds taken.time; value = bit_value (is_set taken.event); kind = JS_EVENT_BUTTON; number = number }

-- that an axis moved
abbrev pub axis_record : ℕ → Taken → JoyRecord
axis_record number taken =
    record { time = milliseconds taken.time; value = within_16_bits taken.event.value; kind = JS_EVENT_AXIS; number = number }

-- it is about a button, or about an axis
abbrev pub is_of_button : JoyRecord → Bool
is_of_button r = nat_eq r.kind JS_EVENT_BUTTON || nat_eq r.kind (JS_EVENT_BUTTON + JS_EVENT_INIT)

abbrev pub is_of_axis : JoyRecord → Bool
is_of_axis r = nat_eq r.kind JS_EVENT_AXIS || nat_eq r.kind (JS_EVENT_AXIS + JS_EVENT_INIT)

-- The bytes of an event and its moment (docs/FORMATS.md, "Event streams"). A record's seconds, and its
-- microseconds, have so many bytes: 8 on a 64-bit machine, 4 on a 32-bit one.
use Rattle.std.specs.Prelude.{◌≡◌, ℕ, ◌+◌, ◌*◌, ◌/◌, ◌%◌, ◌^◌, ◌<◌, ◌≤◌, ◌||◌, if◌then◌else◌, nat_le, nat_lt, FitsSigned, List, ◌++◌, length, slice_index, take, drop, Result, Ok, Err}
use Rattle.std.specs.Int.{w32, cast_signed, cast_unsigned}
use Rattle.byteorder.specs.Endian.{little_bytes, little_number}
use Rattle.inp_model.specs.declared.event.Event.{Event}
use Rattle.inp_model.specs.declared.stamped.TheConstants.{MOMENT_MAX}
use Rattle.inp_stream.specs.declared.fields.TheConstants.{SECOND}
use Rattle.inp_stream.specs.declared.stream_refused.StreamRefused.{StreamRefused}
use Rattle.inp_stream.specs.declared.stream_refused.StreamRefused.TheVariants.{Short, BadTime}

-- the number of bytes of a record: its time, the type, the code and the value
abbrev pub record_len : ℕ → ℕ
record_len time_len = 2 * time_len + 8

-- the record of an event at a moment in microseconds
abbrev pub record_bytes : ℕ → Event → ℕ → List ℕ
record_bytes time_len event time =
    little_bytes time_len (time / SECOND)
    ++ little_bytes time_len (time % SECOND)
    ++ little_bytes 2 event.kind
    ++ little_bytes 2 event.code
    ++ little_bytes 4 (cast_unsigned w32 event.value)

abbrev pub seconds_of : ℕ → List ℕ → ℕ
seconds_of time_len bytes = little_number time_len bytes

abbrev pub microseconds_of : ℕ → List ℕ → ℕ
microseconds_of time_len bytes = little_number time_len (drop time_len bytes)

abbrev pub moment_in : ℕ → List ℕ → ℕ
moment_in time_len bytes = seconds_of time_len bytes * SECOND + microseconds_of time_len bytes

-- the event that bytes after the time are
abbrev pub event_in : List ℕ → Event
event_in bytes = record {
  kind = little_number 2 bytes;
  code = little_number 2 (drop 2 bytes);
  value = cast_signed w32 (little_number 4 (drop 4 bytes));
}

-- the event and the moment that bytes begin with, or why they begin with no record
abbrev pub decoded : ℕ → List ℕ → Result (Event × ℕ) StreamRefused
decoded time_len bytes =
    if nat_lt (length bytes) (record_len time_len) then Err Short
    else if nat_le SECOND (microseconds_of time_len bytes) || nat_lt MOMENT_MAX (moment_in time_len bytes) then Err BadTime
    else Ok (event_in (drop (2 * time_len) bytes), moment_in time_len bytes)

-- its numbers fit their types
pub record IsEvent (event : Event) : Type 0 where
  pub kind : event.kind < 2 ^ 16
  pub code : event.code < 2 ^ 16
  pub value : FitsSigned w32 event.value

-- what was written is read again, whatever stands after it; the moment is so many microseconds at most
abbrev pub IsReadAgain : ℕ → ℕ → Type 0
IsReadAgain time_len most =
    (event : Event) (time : ℕ) (rest : List ℕ)
    → IsEvent event → time ≤ most → decoded time_len (record_bytes time_len event time ++ rest) ≡ Ok (event, time)

-- bytes that mean an event and its moment begin with their record
abbrev pub HasOneSpelling : ℕ → Type 0
HasOneSpelling time_len =
    (bytes : List ℕ) (event : Event) (time : ℕ)
    → ((i : ℕ) → slice_index bytes i < 256) → decoded time_len bytes ≡ Ok (event, time)
    → take (record_len time_len) bytes ≡ record_bytes time_len event time

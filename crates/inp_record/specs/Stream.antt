-- The streams of a record (docs/FORMATS.md, "Event streams").
use Rattle.std.specs.Prelude.{◌≡◌, ℕ, zero, suc, ◌/◌, nat_eq, if◌then◌else◌, List, [], ◌∷◌, length, drop, slice_get, slice_set, Option, Some, None, option_map, option_and_then, Result, Ok, Err}
use Rattle.std.specs.Result.{result_ok}
use Rattle.inp_model.specs.declared.stamped.Stamped.{Stamped}
use Rattle.inp_actors.specs.declared.command.Command.{Command}
use Rattle.inp_actors.specs.declared.command.Command.TheVariants.{Stream16}
use Rattle.inp_actors.specs.declared.line.Line.{Line}
use Rattle.inp_actors.specs.Command.{stream_of, first_of}
use Rattle.inp_actors.specs.Record.{RecordView}
use Rattle.inp_stream.specs.declared.record_form.RecordForm.{RecordForm}
use Rattle.inp_stream.specs.declared.record_form.RecordForm.TheVariants.{Wide, Narrow}
use Rattle.inp_stream.specs.Form.{time_len}
use Rattle.inp_stream.specs.Stream.{record_len, decoded}
use Rattle.inp_record.specs.declared.refused.LoadFault.{LoadFault}
use Rattle.inp_record.specs.declared.refused.LoadFault.TheVariants as fault

-- the events that so many records are, if each has a time and nothing stands after them; the seconds of a
-- record, and its microseconds, have this number of bytes
unfoldable pub stamps_from : ℕ → ℕ → List ℕ → Option (List Stamped)
stamps_from time_len zero bytes = if nat_eq (length bytes) 0 then Some [] else None
stamps_from time_len (suc count) bytes =
    option_and_then
    (λ read. option_map (λ stamps. record { event = read.0; now = read.1 } ∷ stamps) (stamps_from time_len count (drop (record_len time_len) bytes)))
    (result_ok (decoded time_len bytes))

-- the events that bytes are, if they are whole records that each have a time
abbrev pub stamps_of : ℕ → List ℕ → Option (List Stamped)
stamps_of time_len bytes = stamps_from time_len (length bytes / record_len time_len) bytes

-- the form of the records that a command's stream has
abbrev pub form_of : Command → RecordForm
form_of (Stream16 file index) = Narrow
form_of _ = Wide

-- the events that a command's stream has, where its file has these bytes
abbrev pub stamps_of_command : Command → List ℕ → Option (List Stamped)
stamps_of_command command bytes = stamps_of (time_len (form_of command)) bytes

-- the events that a line's stream has, where its file has these bytes
abbrev pub events_at : RecordView → ℕ → List ℕ → Option (List Stamped)
events_at r line bytes = option_and_then (λ (l : Line). stamps_of_command l.command bytes) (slice_get r.lines line)

-- the number of the stream that a line takes, if it takes one
abbrev pub stream_at : RecordView → ℕ → Option ℕ
stream_at r line = option_and_then (λ l. first_of (stream_of l.command)) (slice_get r.lines line)

abbrev pub with_stream_at : RecordView → List Stamped → Option ℕ → RecordView
with_stream_at r stamps None = r
with_stream_at r stamps (Some index) = record r { streams = slice_set r.streams index stamps }

-- the record with these events in the stream that a line takes
abbrev pub with_stream : RecordView → ℕ → List Stamped → RecordView
with_stream r line stamps = with_stream_at r stamps (stream_at r line)

-- what bytes are, unless memory ran out
abbrev pub AreStamps : Result (List Stamped) LoadFault → Option (List Stamped) → Type 0
AreStamps (Ok stamps) means = means ≡ Some stamps
AreStamps (Err fault.BadStream) means = means ≡ None
AreStamps (Err fault.NoMemory) means = Unit {0}

-- the line's stream is what the bytes are, and all else is as before; the record is unchanged where they are no stream,
-- and where memory ran out
abbrev pub IsLoaded : Result (Unit {0}) LoadFault → RecordView → ℕ → List ℕ → RecordView → Type 0
IsLoaded (Ok done) old line bytes new =
    (stamps : List Stamped) × (events_at old line bytes ≡ Some stamps) × (new ≡ with_stream old line stamps)
IsLoaded (Err fault.BadStream) old line bytes new = (events_at old line bytes ≡ None) × (new ≡ old)
IsLoaded (Err fault.NoMemory) old line bytes new = new ≡ old

-- The events of the stream lines of a record that a handle keeps, and what C is told of them.
use Rattle.std.specs.Prelude.{◌≡◌, ℕ, Bool, false, nat_le, List, length, take, drop, slice_get, Option, Some, None, option_and_then}
use Rattle.inp_model.specs.declared.stamped.Stamped.{Stamped}
use Rattle.inp_model.specs.Reply.{written}
use Rattle.inp_actors.specs.Record.{RecordView}
use Rattle.inp_record.specs.Stream.{stream_at}
use Rattle.inp_c.specs.declared.kept.Kept.{Kept}
use Rattle.inp_c.specs.declared.kept.Kept.TheVariants.{Record}
use Rattle.inp_c.specs.declared.kept_record.KeptRecord.{KeptRecord}
use Rattle.inp_c.specs.declared.status.TheConstants.{BAD_HANDLE}
use Rattle.inp_c.specs.Status.{argument_status}

-- the events of the stream that a line takes, if it takes one; before its bytes are given they are none
abbrev pub stream_of_line : RecordView → ℕ → Option (List Stamped)
stream_of_line r line = option_and_then (λ index. slice_get r.streams index) (stream_at r line)

-- there is a stream, and this is a place in it or its end
abbrev pub has_place : Option (List Stamped) → ℕ → Bool
has_place (Some stamps) from = nat_le from (length stamps)
has_place None from = false

-- a call that wants a record, a line that takes a stream, and a place in the stream or its end
abbrev pub events_status : Option Kept → ℕ → ℕ → ℕ
events_status (Some (Record kept)) line from = argument_status (has_place (stream_of_line kept.recorded line) from)
events_status _ line from = BAD_HANDLE

-- the events of the line's stream from a place on stand at the front of C's array, as many as fit, and C is told how
-- many there are
pub record IsToldEvents (before : Option Kept) (line from : ℕ) (events new_events : List Stamped) (left : ℕ) : Type 0 where
  pub kept : KeptRecord
  pub stamps : List Stamped
  pub is : before ≡ Some (Record kept)
  pub there : stream_of_line kept.recorded line ≡ Some stamps
  pub left_is : left ≡ length (drop from stamps)
  pub events_written : new_events ≡ written (take (length events) (drop from stamps)) events

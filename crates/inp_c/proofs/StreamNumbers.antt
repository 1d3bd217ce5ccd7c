-- A stream that a line of a record takes is one that the record has.
use Rattle.std.proofs.Common.{◌≡◌, ◌<◌, ℕ, length, Option, Some, None, sym}
use Rattle.std.specs.Prelude.{slice_get, IfSome}
use Rattle.inp_actors.specs.declared.line.Line.{Line}
use Rattle.inp_actors.specs.Command.{stream_of, first_of}
use Rattle.inp_actors.specs.Record.{RecordView, IsRecord}
use Rattle.inp_record.proofs.Stamps.{stream_within}

-- each line's stream number is below the number of the record's streams
pub if_within : (r : RecordView) (line : ℕ) (l : Line) (o : Option ℕ) → IsRecord r
    → slice_get r.lines line ≡ Some l → o ≡ first_of (stream_of l.command)
    → IfSome o (λ index. index < length r.streams)
if_within r line l None h there e = tt
if_within r line l (Some index) h there e =
    stream_within r.lines (length r.streams) line l index there (sym e) h.numbered

-- The line that takes a stream.
use Rattle.std.proofs.Common.{◌≡◌, ℕ, ◌<◌, length, Option, Some, None, refl}
use Rattle.std.specs.Prelude.{slice_get, IsSome, option_and_then}
use Rattle.std.proofs.lemmas.Option.{slice_get_within}
use Rattle.inp_actors.specs.declared.line.Line.{Line}
use Rattle.inp_actors.specs.Command.{stream_of, first_of}
use Rattle.inp_actors.specs.Record.{RecordView}
use Rattle.inp_record.specs.Stream.{stream_at}

-- a line that takes a stream is one of the record
pub stream_within : (r : RecordView) (line : ℕ) → IsSome (stream_at r line) → line < length r.lines
stream_within r line h = by_line (slice_get r.lines line) refl h
  where
    by_line : (found : Option Line) → slice_get r.lines line ≡ found
        → IsSome (option_and_then (λ (l : Line). first_of (stream_of l.command)) found)
        → line < length r.lines
    by_line None e h = let none : ⊥ = cc h in absurd none
    by_line (Some l) e h = slice_get_within r.lines line l e

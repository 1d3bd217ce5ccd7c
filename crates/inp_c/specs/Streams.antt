-- The files that the stream lines of a record name.
use Rattle.std.specs.Prelude.{◌≡◌, ℕ, List, length, take, slice_get, Option, Some, None, option_and_then, is_some}
use Rattle.inp_model.specs.Reply.{written}
use Rattle.inp_actors.specs.declared.command.Command.{Command}
use Rattle.inp_actors.specs.declared.command.Command.TheVariants.{Stream, Stream16}
use Rattle.inp_actors.specs.declared.line.Line.{Line}
use Rattle.inp_actors.specs.Record.{RecordView}
use Rattle.inp_c.specs.declared.kept.Kept.{Kept}
use Rattle.inp_c.specs.declared.kept.Kept.TheVariants.{Record}
use Rattle.inp_c.specs.declared.kept_record.KeptRecord.{KeptRecord}
use Rattle.inp_c.specs.declared.status.TheConstants.{BAD_HANDLE}
use Rattle.inp_c.specs.Status.{argument_status}

-- the name of the file from which a command's stream comes
abbrev pub file_of_stream : Command → Option (List ℕ)
file_of_stream (Stream file index) = Some file
file_of_stream (Stream16 file index) = Some file
file_of_stream _ = None

-- the name of the file that a line names, if it takes a stream
abbrev pub file_at : RecordView → ℕ → Option (List ℕ)
file_at r line = option_and_then (λ (l : Line). file_of_stream l.command) (slice_get r.lines line)

-- a call that wants a record, and a line that names a file
abbrev pub file_status : Option Kept → ℕ → ℕ
file_status (Some (Record kept)) line = argument_status (is_some (file_at kept.recorded line))
file_status _ line = BAD_HANDLE

-- the name of the line's file stands at the front of C's array, as many bytes as fit, and C is told how many it has
pub record IsToldFile (before : Option Kept) (line : ℕ) (out new_out : List ℕ) (len : ℕ) : Type 0 where
  pub kept : KeptRecord
  pub name : List ℕ
  pub is : before ≡ Some (Record kept)
  pub named : file_at kept.recorded line ≡ Some name
  pub len_is : len ≡ length name
  pub bytes : new_out ≡ written (take (length out) name) out

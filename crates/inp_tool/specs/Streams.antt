-- The files that the stream lines of a record name.
use Rattle.std.specs.Prelude.{ℕ, List, [], ◌∷◌, flat_map, Option}
use Rattle.inp_model.specs.declared.stamped.Stamped.{Stamped}
use Rattle.inp_actors.specs.declared.command.Command.{Command}
use Rattle.inp_actors.specs.declared.command.Command.TheVariants.{Stream, Stream16}
use Rattle.inp_actors.specs.declared.line.Line.{Line}
use Rattle.inp_stream.specs.declared.record_form.RecordForm.{RecordForm}
use Rattle.inp_stream.specs.declared.record_form.RecordForm.TheVariants.{Wide, Narrow}
use Rattle.inp_stream.specs.Form.{time_len}
use Rattle.inp_record.specs.Stream.{stamps_of}

-- A file of a stream, and the form of its records.
pub record StreamFile : Type 0 where
  pub name : List ℕ
  pub form : RecordForm

-- the file whose events a command takes, if it takes a stream
abbrev pub file_of : Command → List StreamFile
file_of (Stream file index) = record { name = file; form = Wide } ∷ []
file_of (Stream16 file index) = record { name = file; form = Narrow } ∷ []
file_of _ = []

-- the files of the stream lines among these, in line order; one that two lines name stands there twice
abbrev pub stream_files : List Line → List StreamFile
stream_files lines = flat_map (λ line. file_of line.command) lines

-- the events that a file of a stream holds, where its bytes are these
abbrev pub events_in : StreamFile → List ℕ → Option (List Stamped)
events_in file bytes = stamps_of (time_len file.form) bytes

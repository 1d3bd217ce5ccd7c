-- What it means that some of a record's streams were read, line by line.
use Rattle.std.specs.Prelude.{ℕ, ◌≡◌, ◌⊎◌, List, [], ◌∷◌, ◌++◌, length, drop, take, slice_get, Some, None, option_map, Result, Ok, Err}
use Rattle.inp_model.specs.declared.stamped.Stamped.{Stamped}
use Rattle.inp_actors.specs.declared.line.Line.{Line}
use Rattle.inp_actors.specs.Record.{RecordView}
use Rattle.inp_texts.specs.Line.{lines_of as text_lines}
use Rattle.inp_record.specs.declared.refused.Refused.{Refused}
use Rattle.inp_record.specs.declared.cause.Cause.TheVariants.{BadStream}
use Rattle.inp_record.specs.Meaning.{meaning}
use Rattle.inp_record.specs.Stream.{events_at, with_stream}
use Rattle.inp_record.specs.LineNumber.{action_numbers}
use Rattle.inp_tool.specs.declared.no_record.NoRecord.{NoRecord}
use Rattle.inp_tool.specs.declared.no_record.NoRecord.TheVariants.{Unread, TooLong, Refused as IsRefused, NoMemory}
use Rattle.inp_tool.specs.Edge.{Reads}
use Rattle.inp_tool.specs.Streams.{StreamFile, file_of, stream_files, events_in}
use Rattle.inp_tool.specs.RecordFile.{IsRead, IsUnread, IsTooLong, RanOut, IsReadLast, IsLast, AreLoaded, last_contents}

-- an action line names these files: one, or none where it takes no stream
abbrev pub TakesFiles : RecordView → ℕ → List StreamFile → Type 0
TakesFiles recorded line files = option_map (λ (l : Line). file_of l.command) (slice_get recorded.lines line) ≡ Some files

-- the line takes no stream, and nothing was read
pub record IsPassedOver (r : Reads) (old : RecordView) (line : ℕ) (new : RecordView) : Type 0 where
  pub takes : TakesFiles old line []
  pub untouched : r.after ≡ r.before
  pub same : new ≡ old

-- the line's file was read, and its events are the line's stream
pub record IsTaken (r : Reads) (old : RecordView) (line : ℕ) (new : RecordView) : Type 0 where
  pub stream : StreamFile
  pub takes : TakesFiles old line (stream ∷ [])
  pub bytes : List ℕ
  pub read : IsReadLast r stream.name bytes
  pub stamps : List Stamped
  pub means : events_at old line bytes ≡ Some stamps
  pub now : new ≡ with_stream old line stamps

abbrev pub IsDone : Reads → RecordView → ℕ → RecordView → Type 0
IsDone r old line new = IsPassedOver r old line new ⊎ IsTaken r old line new

-- the line's file was read, and its bytes are no stream
pub record IsBad (r : Reads) (text : List ℕ) (old : RecordView) (line : ℕ) (refused : Refused) : Type 0 where
  pub stream : StreamFile
  pub takes : TakesFiles old line (stream ∷ [])
  pub bytes : List ℕ
  pub read : IsReadLast r stream.name bytes
  pub no_stream : events_at old line bytes ≡ None
  pub number : slice_get (action_numbers 1 (text_lines text)) line ≡ Some refused.line
  pub cause : refused.cause ≡ BadStream

-- why the stream of a line was not read
abbrev pub CannotDo : Reads → List ℕ → RecordView → ℕ → NoRecord → Type 0
CannotDo r text old line Unread = (stream : StreamFile) × TakesFiles old line (stream ∷ []) × IsUnread r stream.name
CannotDo r text old line TooLong = (stream : StreamFile) × TakesFiles old line (stream ∷ []) × IsTooLong r stream.name
CannotDo r text old line (IsRefused refused) = IsBad r text old line refused
CannotDo r text old line NoMemory = RanOut r

-- the file that was read last is the last of these; where the list is empty no file was read
abbrev pub IsLastOf : Reads → List (List ℕ) → Type 0
IsLastOf r [] = r.after ≡ r.before
IsLastOf r (bytes ∷ contents) = IsLast r (last_contents bytes contents)

-- The streams of the first lines of a record were read, and stand in it; all else is as before.
pub record IsLoadedTo (r : Reads) (parsed : RecordView) (line : ℕ) (now : RecordView) : Type 0 where
  pub contents : List (List ℕ)
  pub streams : List (List Stamped)
  pub loaded : AreLoaded (IsRead r) (stream_files (take line parsed.lines)) contents streams
  pub whole : now ≡ record parsed { streams = streams ++ drop (length streams) parsed.streams }
  pub last : IsLastOf r contents
  pub no_fault : r.after.faults ≡ r.before.faults

-- All streams were read, and stand in the record.
pub record AreStreamsLoaded (r : Reads) (parsed now : RecordView) : Type 0 where
  pub contents : List (List ℕ)
  pub streams : List (List Stamped)
  pub loaded : AreLoaded (IsRead r) (stream_files parsed.lines) contents streams
  pub whole : now ≡ record parsed { streams = streams }
  pub last : IsLastOf r contents
  pub no_fault : r.after.faults ≡ r.before.faults

-- An action line takes this file as its stream, and the streams of the lines before it are loaded.
pub record IsAtStream (r : Reads) (parsed : RecordView) (line : ℕ) (stream : StreamFile) : Type 0 where
  pub contents : List (List ℕ)
  pub streams : List (List Stamped)
  pub loaded : AreLoaded (IsRead r) (stream_files (take line parsed.lines)) contents streams
  pub here : TakesFiles parsed line (stream ∷ [])

-- the file of a stream line was read, and its bytes are no stream
pub record IsBadStream (r : Reads) (text : List ℕ) (parsed : RecordView) (refused : Refused) : Type 0 where
  pub line : ℕ
  pub stream : StreamFile
  pub at : IsAtStream r parsed line stream
  pub bytes : List ℕ
  pub read : IsReadLast r stream.name bytes
  pub no_stream : events_in stream bytes ≡ None
  pub number : slice_get (action_numbers 1 (text_lines text)) line ≡ Some refused.line
  pub cause : refused.cause ≡ BadStream

-- why the streams of a record were not read
abbrev pub CannotFinish : Reads → List ℕ → RecordView → NoRecord → Type 0
CannotFinish r text parsed Unread =
    (line : ℕ) × (stream : StreamFile) × IsAtStream r parsed line stream × IsUnread r stream.name
CannotFinish r text parsed TooLong =
    (line : ℕ) × (stream : StreamFile) × IsAtStream r parsed line stream × IsTooLong r stream.name
CannotFinish r text parsed (IsRefused refused) = IsBadStream r text parsed refused
CannotFinish r text parsed NoMemory = RanOut r

-- why a text is no record, by its lines alone
abbrev pub IsRefusal : Result RecordView Refused → NoRecord → Type 0
IsRefusal means Unread = ⊥
IsRefusal means TooLong = ⊥
IsRefusal means (IsRefused refused) = means ≡ Err refused
IsRefusal means NoMemory = Unit {0}

-- the text is a record, and its streams were read
pub record HasParts (r : Reads) (text : List ℕ) (recorded : RecordView) : Type 0 where
  pub parsed : RecordView
  pub means : meaning text ≡ Ok parsed
  pub done : AreStreamsLoaded r parsed recorded

-- the text is a record, and its streams were not read
pub record HasNoStreams (r : Reads) (text : List ℕ) (why : NoRecord) : Type 0 where
  pub parsed : RecordView
  pub means : meaning text ≡ Ok parsed
  pub cannot : CannotFinish r text parsed why

-- the text is no record, and no file was read
pub record HasNoLines (r : Reads) (text : List ℕ) (why : NoRecord) : Type 0 where
  pub refusal : IsRefusal (meaning text) why
  pub untouched : r.after ≡ r.before

abbrev pub HasNoParts : Reads → List ℕ → NoRecord → Type 0
HasNoParts r text why = HasNoLines r text why ⊎ HasNoStreams r text why

-- the bytes are the events of the line's stream
pub record IsStream (old : RecordView) (line : ℕ) (bytes : List ℕ) (new : RecordView) : Type 0 where
  pub stamps : List Stamped
  pub means : events_at old line bytes ≡ Some stamps
  pub now : new ≡ with_stream old line stamps

-- why bytes are not the stream of a line
abbrev pub IsNoStream : List ℕ → RecordView → ℕ → List ℕ → NoRecord → Type 0
IsNoStream text old line bytes Unread = ⊥
IsNoStream text old line bytes TooLong = ⊥
IsNoStream text old line bytes (IsRefused refused) =
    (events_at old line bytes ≡ None) × (slice_get (action_numbers 1 (text_lines text)) line ≡ Some refused.line) × (refused.cause ≡ BadStream)
IsNoStream text old line bytes NoMemory = Unit {0}

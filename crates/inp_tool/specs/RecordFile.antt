-- What it means that a record and its streams were read, and that they were not.
use Rattle.std.specs.Prelude.{ℕ, ◌≡◌, ◌≤◌, ◌<◌, ◌⊎◌, IsTrue, is_some, List, [], ◌∷◌, length, take, slice_get, Some, None, option_map, Ok, Err}
use Rattle.inp_edge.specs.Count.{RoseUnlessSaturated}
use Rattle.inp_edge.specs.File.{IsMissing, HasFile, HasLongerFile}
use Rattle.inp_edge.specs.Input.{IsAtEnd}
use Rattle.inp_edge.specs.declared.input.TheConstants.{INPUT_LIMIT}
use Rattle.inp_model.specs.declared.stamped.Stamped.{Stamped}
use Rattle.inp_actors.specs.declared.line.Line.{Line}
use Rattle.inp_actors.specs.Record.{RecordView}
use Rattle.inp_texts.specs.Line.{lines_of as text_lines}
use Rattle.inp_record.specs.declared.refused.Refused.{Refused}
use Rattle.inp_record.specs.declared.cause.Cause.TheVariants.{BadStream}
use Rattle.inp_record.specs.Meaning.{meaning}
use Rattle.inp_record.specs.LineNumber.{action_numbers}
use Rattle.inp_tool.specs.declared.no_record.NoRecord.{NoRecord}
use Rattle.inp_tool.specs.declared.no_record.NoRecord.TheVariants.{Unread, TooLong, Refused as IsRefused, NoMemory}
use Rattle.inp_tool.specs.Edge.{Reads}
use Rattle.inp_tool.specs.Streams.{StreamFile, file_of, stream_files, events_in}

-- The file of this name was read, and these are its bytes, all of them where the input tells its bytes.
pub record IsRead (r : Reads) (name bytes : List ℕ) : Type 0 where
  pub found : ¬ (IsMissing r.files name)
  pub within : length bytes ≤ INPUT_LIMIT
  pub whole : IsTrue (is_some r.after.left) → HasFile r.files name bytes

-- These bytes are those of the file that was read last, to its end, and no call was at fault.
pub record IsLast (r : Reads) (bytes : List ℕ) : Type 0 where
  pub counted : length bytes ≡ r.after.given
  pub ended : IsAtEnd r.after.left
  pub no_fault : r.after.faults ≡ r.before.faults

-- a file was read, after which no other was, and no call was at fault
abbrev pub IsReadLast : Reads → List ℕ → List ℕ → Type 0
IsReadLast r name bytes = IsRead r name bytes × IsLast r bytes

-- the file of this name was not read: a call was at fault, or no file has this name
pub record IsUnread (r : Reads) (name : List ℕ) : Type 0 where
  pub fault : RoseUnlessSaturated r.before.faults r.after.faults ⊎ IsMissing r.files name
  pub within : r.after.given ≤ INPUT_LIMIT

-- more bytes were given of the file of this name than an input may have, and the file has more
pub record IsTooLong (r : Reads) (name : List ℕ) : Type 0 where
  pub found : ¬ (IsMissing r.files name)
  pub no_fault : r.after.faults ≡ r.before.faults
  pub given : INPUT_LIMIT < r.after.given
  pub longer : IsTrue (is_some r.after.left) → HasLongerFile r.files name INPUT_LIMIT

-- Memory ran out while files were read: no call was at fault, and no file was too long.
pub record RanOut (r : Reads) : Type 0 where
  pub no_fault : r.after.faults ≡ r.before.faults
  pub within : r.after.given ≤ INPUT_LIMIT

-- why a single file was not read
abbrev pub CannotRead : Reads → List ℕ → NoRecord → Type 0
CannotRead r name Unread = IsUnread r name
CannotRead r name TooLong = IsTooLong r name
CannotRead r name (IsRefused refused) = ⊥
CannotRead r name NoMemory = RanOut r

-- each of these files has the content beside it, by what is said of a name and its bytes, and it holds the events beside it
abbrev pub AreLoaded : (List ℕ → List ℕ → Type 0) → List StreamFile → List (List ℕ) → List (List Stamped) → Type 0
AreLoaded Has [] [] [] = Unit {0}
AreLoaded Has (file ∷ files) (bytes ∷ contents) (stamps ∷ streams) =
    Has file.name bytes × (events_in file bytes ≡ Some stamps) × AreLoaded Has files contents streams
AreLoaded Has _ _ _ = ⊥

-- The file has a text, which is a record whose streams are still empty. The files of the stream lines among these are loaded.
pub record HasLoaded (Has : List ℕ → List ℕ → Type 0) (file : List ℕ) (parsed : RecordView) (lines : List Line) : Type 0 where
  pub text : List ℕ
  pub read : Has file text
  pub means : meaning text ≡ Ok parsed
  pub contents : List (List ℕ)
  pub streams : List (List Stamped)
  pub loaded : AreLoaded Has (stream_files lines) contents streams

-- An action line of FILE takes a stream, and the streams of the lines before it are loaded: its file is read next.
pub record StreamReached (r : Reads) (file : List ℕ) : Type 0 where
  pub parsed : RecordView
  pub line : ℕ
  pub before : HasLoaded (IsRead r) file parsed (take line parsed.lines)
  pub stream : StreamFile
  pub here : option_map (λ (l : Line). file_of l.command) (slice_get parsed.lines line) ≡ Some (stream ∷ [])

-- The next file to be read is such a one: FILE, or after it those of its stream lines, in line order.
abbrev pub HasNext : Reads → List ℕ → (List ℕ → Type 0) → Type 0
HasNext r file Is = Is file ⊎ ((reached : StreamReached r file) × Is reached.stream.name)

-- FILE was read, and its text is no record, by a line and its cause that the text alone decides
abbrev pub HasBadText : Reads → Refused → List ℕ → Type 0
HasBadText r refused file = (text : List ℕ) × IsReadLast r file text × (meaning text ≡ Err refused)

-- the file of a stream line was read, and its bytes are no stream
pub record HasBadStream (r : Reads) (refused : Refused) (file : List ℕ) : Type 0 where
  pub reached : StreamReached r file
  pub bytes : List ℕ
  pub read : IsReadLast r reached.stream.name bytes
  pub no_stream : events_in reached.stream bytes ≡ None
  pub number : slice_get (action_numbers 1 (text_lines reached.before.text)) reached.line ≡ Some refused.line
  pub cause : refused.cause ≡ BadStream

-- why FILE gave no record
abbrev pub HasNoRecord : Reads → List ℕ → NoRecord → Type 0
HasNoRecord r file Unread = HasNext r file (IsUnread r)
HasNoRecord r file TooLong = HasNext r file (IsTooLong r)
HasNoRecord r file (IsRefused refused) = HasBadText r refused file ⊎ HasBadStream r refused file
HasNoRecord r file NoMemory = RanOut r

-- the last of some contents
abbrev pub last_contents : List ℕ → List (List ℕ) → List ℕ
last_contents bytes [] = bytes
last_contents bytes (next ∷ contents) = last_contents next contents

-- FILE and the files of its stream lines have contents, and those are this record with its streams.
pub record IsRecorded (Has : List ℕ → List ℕ → Type 0) (file : List ℕ) (recorded : RecordView) : Type 0 where
  pub parsed : RecordView
  pub all : HasLoaded Has file parsed parsed.lines
  pub whole : recorded ≡ record parsed { streams = all.streams }

-- The record was read with its streams, each file to its end, and no call was at fault.
pub record HasRecord (r : Reads) (file : List ℕ) (recorded : RecordView) : Type 0 where
  pub is : IsRecorded (IsRead r) file recorded
  pub last : IsLast r (last_contents is.all.text is.all.contents)

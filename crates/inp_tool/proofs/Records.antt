-- A text, and the streams behind it.
use Rattle.std.proofs.Common.{◌≡◌, ◌≤◌, ◌⊎◌, ℕ, List, [], ◌∷◌, length, take, Option, Some, Result, Ok, Err}
use Rattle.std.proofs.Common.{sym, ap, subst, ◌∙◌, inl, inr, arith}
use Rattle.std.specs.Prelude.{MatchResult, slice_get}
use Rattle.std.proofs.lemmas.Result.{MatchResult-weaker}
use Rattle.inp_edge.specs.File.{File}
use Rattle.inp_edge.specs.declared.input.TheConstants.{INPUT_LIMIT}
use Rattle.inp_model.specs.declared.stamped.Stamped.{Stamped}
use Rattle.inp_actors.specs.declared.command.Command.TheVariants.{Stream, Stream16}
use Rattle.inp_actors.specs.declared.line.Line.{Line}
use Rattle.inp_actors.specs.Record.{RecordView}
use Rattle.inp_record.specs.Meaning.{meaning}
use Rattle.inp_stream.specs.declared.record_form.RecordForm.{RecordForm}
use Rattle.inp_stream.specs.declared.record_form.RecordForm.TheVariants.{Wide, Narrow}
use Rattle.inp_tool.specs.declared.no_record.NoRecord.{NoRecord}
use Rattle.inp_tool.specs.declared.no_record.NoRecord.TheVariants.{Unread, TooLong, Refused, NoMemory}
use Rattle.inp_tool.specs.Edge.{InputView, Reads}
use Rattle.inp_tool.specs.Streams.{StreamFile, file_of, stream_files}
use Rattle.inp_tool.specs.RecordFile.{IsRead, IsLast, IsReadLast, IsUnread, IsTooLong, RanOut, CannotRead}
use Rattle.inp_tool.specs.RecordFile.{AreLoaded, HasLoaded, StreamReached, HasRecord, HasNoRecord}
use Rattle.inp_tool.specs.RecordFile.{last_contents}
use Rattle.inp_tool.specs.LoadedStreams.{TakesFiles, IsDone, CannotDo, IsStream, IsNoStream, IsLastOf}
use Rattle.inp_tool.specs.LoadedStreams.{IsAtStream}
use Rattle.inp_tool.specs.LoadedStreams.{HasParts, HasNoParts, HasNoLines, HasNoStreams}
use Rattle.inp_tool.proofs.Spans.{span, AreToldAlike, is_read_on, are_read_from, is_unread_from}
use Rattle.inp_tool.proofs.Spans.{is_too_long_from, ran_out_from, is_read_last_from}

-- memory ran out behind a file that was read
pub ran_out_behind : (r : Reads) (name bytes : List ℕ) → IsReadLast r name bytes → RanOut r
ran_out_behind r name bytes h =
    record { no_fault = h.1.no_fault; within = omega (arith, h.1.counted, h.0.within) }

last_within : (r : Reads) (first : List ℕ) (its : List StreamFile) (contents : List (List ℕ))
    (streams : List (List Stamped)) → length first ≤ INPUT_LIMIT
    → AreLoaded (IsRead r) its contents streams → length (last_contents first contents) ≤ INPUT_LIMIT
last_within r first [] [] [] h are = h
last_within r first (file ∷ its) (next ∷ contents) (stamps ∷ streams) h are =
    last_within r next its contents streams are.0.within are.2
last_within r first its contents streams h are = absurd are

takes_files : (old : RecordView) (line : ℕ) (l : Line) (stream : StreamFile)
    → slice_get old.lines line ≡ Some l → file_of l.command ≡ stream ∷ [] → TakesFiles old line (stream ∷ [])
takes_files old line l stream e f = rw (e, f)

-- a line whose command names a file takes it, in one of the two forms
pub takes_file : (old : RecordView) (line : ℕ) (l : Line) (name : List ℕ) → slice_get old.lines line ≡ Some l
    → ((index : ℕ) × (l.command ≡ Stream name index)) ⊎ ((index : ℕ) × (l.command ≡ Stream16 name index))
    → (form : RecordForm) × TakesFiles old line (record { name = name; form = form } ∷ [])
takes_file old line l name e (inl c) = (Wide, takes_files old line l _ e (ap file_of c.1))
takes_file old line l name e (inr c) = (Narrow, takes_files old line l _ e (ap file_of c.1))

-- what comes of a line whose file was read
pub line_loaded : (r : Reads) (text : List ℕ) (old new : RecordView) (line : ℕ) (stream : StreamFile)
    (name bytes : List ℕ) (result : Result (Unit {0}) NoRecord) → TakesFiles old line (stream ∷ [])
    → name ≡ stream.name → IsReadLast r name bytes
    → MatchResult result (λ _. IsStream old line bytes new) (IsNoStream text old line bytes)
    → MatchResult result (λ _. IsDone r old line new) (CannotDo r text old line)
line_loaded r text old new line stream name bytes result takes same last h = by_result result h
  where
    read : IsReadLast r stream.name bytes
    read = rw same at last

    by_result : (result : Result (Unit {0}) NoRecord)
        → MatchResult result (λ _. IsStream old line bytes new) (IsNoStream text old line bytes)
        → MatchResult result (λ _. IsDone r old line new) (CannotDo r text old line)
    by_result (Ok done) h =
        inr (record {
          stream = stream;
          takes = takes;
          bytes = bytes;
          read = read;
          stamps = h.stamps;
          means = h.means;
          now = h.now;
        })
    by_result (Err Unread) h = absurd h
    by_result (Err TooLong) h = absurd h
    by_result (Err (Refused refused)) h =
        record {
          stream = stream;
          takes = takes;
          bytes = bytes;
          read = read;
          no_stream = h.0;
          number = h.1;
          cause = h.2;
        }
    by_result (Err NoMemory) h = ran_out_behind r stream.name bytes read

-- what comes of a line whose file was not read
pub line_unread : (r : Reads) (text : List ℕ) (old : RecordView) (line : ℕ) (stream : StreamFile)
    (name : List ℕ) (why : NoRecord) → TakesFiles old line (stream ∷ []) → name ≡ stream.name
    → CannotRead r name why → CannotDo r text old line why
line_unread r text old line stream name Unread takes same h = (stream, takes, subst (IsUnread r) same h)
line_unread r text old line stream name TooLong takes same h = (stream, takes, subst (IsTooLong r) same h)
line_unread r text old line stream name (Refused refused) takes same h = absurd h
line_unread r text old line stream name NoMemory takes same h = h

-- memory ran out behind a record that was read
pub ran_out_after : (r : Reads) (file : List ℕ) (recorded : RecordView) → HasRecord r file recorded → RanOut r
ran_out_after r file recorded h =
    let all = h.is.all in
    let last =
    last_within r all.text (stream_files h.is.parsed.lines) all.contents all.streams all.read.within
    all.loaded in
    record { no_fault = h.last.no_fault; within = omega (arith, h.last.counted, last) }

module _ (files : Option (List File)) (before middle after : InputView) (told : AreToldAlike middle after)
    (file text : List ℕ) (first : IsReadLast (span files before middle) file text) where
  last_read : (contents : List (List ℕ)) → IsLastOf (span files middle after) contents
      → IsLast (span files before after) (last_contents text contents)
  last_read [] same =
      let P : InputView → Type 0 = λ v. IsLast (span files before v) text in
      subst P (sym same) first.1
  last_read (bytes ∷ contents) h =
      record { counted = h.counted; ended = h.ended; no_fault = h.no_fault ∙ first.1.no_fault }

  -- the streams of some lines do not depend on what was before them
  has_loaded : (parsed : RecordView) (lines : List Line) (contents : List (List ℕ))
      (streams : List (List Stamped)) → meaning text ≡ Ok parsed
      → AreLoaded (IsRead (span files middle after)) (stream_files lines) contents streams
      → HasLoaded (IsRead (span files before after)) file parsed lines
  has_loaded parsed lines contents streams means loaded = record {
    text = text;
    read = is_read_on files before middle after told file text first.0;
    means = means;
    contents = contents;
    streams = streams;
    loaded = are_read_from files before middle after (stream_files lines) contents streams loaded;
  }

  pub has_record : (recorded : RecordView) → HasParts (span files middle after) text recorded
      → HasRecord (span files before after) file recorded
  unfolding has_loaded
  has_record recorded h = record {
    is = record {
      parsed = h.parsed;
      all = has_loaded h.parsed h.parsed.lines h.done.contents h.done.streams h.means h.done.loaded;
      whole = h.done.whole;
    };
    last = last_read h.done.contents h.done.last;
  }

  stream_reached : (parsed : RecordView) → meaning text ≡ Ok parsed → (line : ℕ) (stream : StreamFile)
      → IsAtStream (span files middle after) parsed line stream → StreamReached (span files before after) file
  stream_reached parsed means line stream h = record {
    parsed = parsed;
    line = line;
    before = has_loaded parsed (take line parsed.lines) h.contents h.streams means h.loaded;
    stream = stream;
    here = h.here;
  }

  -- the text is no record
  no_lines : (why : NoRecord) → HasNoLines (span files middle after) text why
      → HasNoRecord (span files before after) file why
  no_lines Unread h = absurd h.refusal
  no_lines TooLong h = absurd h.refusal
  no_lines (Refused refused) h =
      let P : InputView → Type 0 = λ v. IsReadLast (span files before v) file text in
      inl (text, subst P (sym h.untouched) first, h.refusal)
  no_lines NoMemory h =
      let P : InputView → Type 0 = λ v. RanOut (span files before v) in
      subst P (sym h.untouched) (ran_out_behind (span files before middle) file text first)

  -- a stream was not read
  no_streams : (why : NoRecord) → HasNoStreams (span files middle after) text why
      → HasNoRecord (span files before after) file why
  unfolding stream_reached has_loaded
  no_streams Unread h =
      let c = h.cannot in
      inr (
        stream_reached h.parsed h.means c.0 c.1 c.2,
        is_unread_from files before middle after (c.1).name first.1.no_fault c.3,
      )
  no_streams TooLong h =
      let c = h.cannot in
      inr (
        stream_reached h.parsed h.means c.0 c.1 c.2,
        is_too_long_from files before middle after (c.1).name first.1.no_fault c.3,
      )
  no_streams (Refused refused) h =
      let bad = h.cannot in
      inr (record {
        reached = stream_reached h.parsed h.means bad.line bad.stream bad.at;
        bytes = bad.bytes;
        read =
            is_read_last_from files before middle after bad.stream.name bad.bytes first.1.no_fault bad.read;
        no_stream = bad.no_stream;
        number = bad.number;
        cause = bad.cause;
      })
  no_streams NoMemory h = ran_out_from files before middle after first.1.no_fault h.cannot

  pub has_no_record : (why : NoRecord) → HasNoParts (span files middle after) text why
      → HasNoRecord (span files before after) file why
  has_no_record why (inl h) = no_lines why h
  has_no_record why (inr h) = no_streams why h

-- what comes of a file whose text was read
pub record_read : (files other : Option (List File)) (before middle after : InputView)
    (file text same_text : List ℕ) (result : Result RecordView NoRecord)
    → IsReadLast (span files before middle) file text
    → MatchResult result (HasParts (span other middle after) same_text)
    (HasNoParts (span other middle after) same_text)
    → same_text ≡ text → other ≡ files → AreToldAlike middle after
    → MatchResult result (HasRecord (span files before after) file)
    (HasNoRecord (span files before after) file)
record_read files other before middle after file text same_text result first parts t e told =
    let P : Option (List File) → List ℕ → Type 0 =
    λ f bytes. MatchResult result (HasParts (span f middle after) bytes)
    (HasNoParts (span f middle after) bytes) in
    let here = rw e at (rw t at parts) in
    MatchResult-weaker result here (has_record files before middle after told file text first)
    (has_no_record files before middle after told file text first)

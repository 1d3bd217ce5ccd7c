-- Streams, read line by line.
use Rattle.std.proofs.Common.{◌≡◌, ℕ, suc, ◌+◌, ◌<◌, ◌≤◌, List, [], ◌∷◌, ◌++◌, length, get_or, take, drop}
use Rattle.std.proofs.Common.{set, append_assoc, Option, Some, refl, sym, ap, subst, ◌∙◌, inl, inr, arith}
use Rattle.std.specs.Prelude.{slice_get, option_and_then}
use Rattle.std.proofs.lemmas.List.{append-nil, length-append, take_all, drop_all}
use Rattle.std.proofs.Math.Seq.{set-append_seam, drop-cons}
use Rattle.std.proofs.lemmas.List.FromFn.{length-range_with_len}
use Rattle.inp_edge.specs.File.{File}
use Rattle.inp_model.specs.declared.stamped.Stamped.{Stamped}
use Rattle.inp_actors.specs.declared.line.Line.{Line}
use Rattle.inp_actors.specs.Command.{stream_of, first_of}
use Rattle.inp_actors.specs.Record.{RecordView, IsRecord}
use Rattle.inp_record.specs.Stream.{events_at, stream_at, with_stream}
use Rattle.inp_tool.specs.declared.no_record.NoRecord.{NoRecord}
use Rattle.inp_tool.specs.declared.no_record.NoRecord.TheVariants.{Unread, TooLong, Refused, NoMemory}
use Rattle.inp_tool.specs.Edge.{InputView, Reads}
use Rattle.inp_tool.specs.Streams.{StreamFile, file_of, stream_files, events_in}
use Rattle.inp_tool.specs.RecordFile.{IsRead, AreLoaded}
use Rattle.inp_tool.specs.LoadedStreams.{TakesFiles, IsPassedOver, IsTaken, IsDone, CannotDo, IsLoadedTo}
use Rattle.inp_tool.specs.LoadedStreams.{IsAtStream, AreStreamsLoaded, CannotFinish}
use Rattle.inp_tool.proofs.Spans.{span, AreToldAlike, are_read_on, are_read_push, are_read_length}
use Rattle.inp_tool.proofs.Spans.{is_read_from, is_last_push, is_unread_from, is_too_long_from, ran_out_from}
use Rattle.inp_tool.proofs.Spans.{is_read_last_from}
use Rattle.inp_tool.proofs.StreamFiles.{one_stream, stamps_of_command-file, as_many_files, line_found}
use Rattle.inp_tool.proofs.StreamFiles.{files_more, stream_number}

abbrev files_to : RecordView → ℕ → List StreamFile
files_to parsed line = stream_files (take line parsed.lines)

-- a line names files, found in the record as it was parsed
takes_parsed : (parsed mid : RecordView) (line : ℕ) (files : List StreamFile) → mid.lines ≡ parsed.lines
    → TakesFiles mid line files → TakesFiles parsed line files
takes_parsed parsed mid line files e h = rw (← e) h

-- one more line, and the files that it names
files_after : (parsed : RecordView) (line : ℕ) (files : List StreamFile) → TakesFiles parsed line files
    → files_to parsed (line + 1) ≡ files_to parsed line ++ files
files_after parsed line files h =
    let found = line_found (λ (l : Line). file_of l.command) (slice_get parsed.lines line) files h in
    rw (files_more parsed.lines line found.0 found.1, found.2)

-- the events that a line takes are those that its file holds
events_at-file : (r : RecordView) (line : ℕ) (file : StreamFile) (bytes : List ℕ)
    → TakesFiles r line (file ∷ []) → events_at r line bytes ≡ events_in file bytes
events_at-file r line file bytes h =
    let found = line_found (λ (l : Line). file_of l.command) (slice_get r.lines line) (file ∷ []) h in
    rw found.1 (stamps_of_command-file (found.0).command file bytes found.2)

-- a stream that is put in its place, with the empty ones behind it
put_stream : (streams empty : List (List Stamped)) (stamps : List Stamped) → length streams < length empty
    → set (streams ++ drop (length streams) empty) (length streams) stamps ≡ (streams ++ stamps ∷ [])
    ++ drop (length (streams ++ stamps ∷ [])) empty
put_stream streams empty stamps h =
    let n = length streams in
    let first : drop n empty ≡ get_or empty n [] ∷ drop (suc n) empty = drop-cons empty n [] h in
    let count : suc n ≡ length (streams ++ stamps ∷ []) =
    omega (arith, length-append streams (stamps ∷ [])) in
    rw (first, set-append_seam streams (get_or empty n []) (drop (suc n) empty) stamps, count)
    (sym (append_assoc streams (stamps ∷ []) (drop (length (streams ++ stamps ∷ [])) empty)))

-- the stream of a line that names a file
stream_found : (parsed : RecordView) (line : ℕ) (file : StreamFile) → IsRecord parsed
    → TakesFiles parsed line (file ∷ [])
    → (stream_at parsed line ≡ Some (length (files_to parsed line)))
    × (length (files_to parsed line) < length parsed.streams)
stream_found parsed line file is h =
    let found = line_found (λ (l : Line). file_of l.command) (slice_get parsed.lines line) (file ∷ []) h in
    let one = one_stream (found.0).command file found.2 in
    let numbered =
    stream_number parsed.lines line found.0 (length parsed.streams) one.0 is.numbered found.1 one.1 in
    let at : stream_at parsed line ≡ Some one.0 =
    ap (λ (o : Option Line). option_and_then (λ (l : Line). first_of (stream_of l.command)) o) found.1
    ∙ ap first_of one.1 in
    (rw (at, numbered.0), rw numbered.0 at numbered.1)

module _ (files : Option (List File)) (before middle after : InputView) (told : AreToldAlike middle after)
    (parsed mid : RecordView) (line : ℕ) where
  pub is_at_stream : IsLoadedTo (span files before middle) parsed line mid → (file : StreamFile)
      → TakesFiles mid line (file ∷ []) → IsAtStream (span files before after) parsed line file
  is_at_stream h file takes = record {
    contents = h.contents;
    streams = h.streams;
    loaded = are_read_on files before middle after told (files_to parsed line) h.contents h.streams h.loaded;
    here = takes_parsed parsed mid line (file ∷ []) (rw h.whole) takes;
  }

  -- a line that takes no stream
  passed_over : (new : RecordView) → IsLoadedTo (span files before middle) parsed line mid
      → IsPassedOver (span files middle after) mid line new
      → IsLoadedTo (span files before after) parsed (line + 1) new
  passed_over new h done =
      let P : InputView → Type 0 = λ v. IsLoadedTo (span files before v) parsed (line + 1) new in
      let takes = takes_parsed parsed mid line [] (rw h.whole) done.takes in
      let more : files_to parsed line ≡ files_to parsed (line + 1) =
      sym (files_after parsed line [] takes ∙ append-nil (files_to parsed line)) in
      let Q : List StreamFile → Type 0 =
      λ fs. AreLoaded (IsRead (span files before middle)) fs h.contents h.streams in
      let here : P middle = record {
        contents = h.contents;
        streams = h.streams;
        loaded = subst Q more h.loaded;
        whole = done.same ∙ h.whole;
        last = h.last;
        no_fault = h.no_fault;
      } in
      subst P (sym done.untouched) here

  -- the record after a line's stream was put in
  whole_more : (new : RecordView) → IsRecord parsed
      → (h : IsLoadedTo (span files before middle) parsed line mid)
      → (file : StreamFile) (stamps : List Stamped) → TakesFiles parsed line (file ∷ [])
      → new ≡ with_stream mid line stamps
      → new ≡ record parsed {
        streams = (h.streams ++ stamps ∷ []) ++ drop (length (h.streams ++ stamps ∷ [])) parsed.streams;
      }
  whole_more new is h file stamps takes e =
      let found = stream_found parsed line file is takes in
      let k : length (files_to parsed line) ≡ length h.streams =
      are_read_length (span files before middle) (files_to parsed line) h.contents h.streams h.loaded in
      let room : length h.streams < length parsed.streams = rw k at found.1 in
      let at : stream_at mid line ≡ Some (length h.streams) = rw (h.whole, found.0, k) in
      rw (e, at, h.whole, put_stream h.streams parsed.streams stamps room)

  -- a line whose stream was read
  taken : (new : RecordView) → IsRecord parsed → IsLoadedTo (span files before middle) parsed line mid
      → IsTaken (span files middle after) mid line new
      → IsLoadedTo (span files before after) parsed (line + 1) new
  taken new is h done =
      let takes = takes_parsed parsed mid line (done.stream ∷ []) (rw h.whole) done.takes in
      let Q : List StreamFile → Type 0 =
      λ fs. AreLoaded (IsRead (span files before after)) fs (h.contents ++ done.bytes ∷ [])
      (h.streams ++ done.stamps ∷ []) in
      let all =
      are_read_on files before middle after told (files_to parsed line) h.contents h.streams h.loaded in
      let one = is_read_from files before middle after done.stream.name done.bytes done.read.0 in
      let events = sym (events_at-file mid line done.stream done.bytes done.takes) ∙ done.means in
      record {
        contents = h.contents ++ done.bytes ∷ [];
        streams = h.streams ++ done.stamps ∷ [];
        loaded =
            subst Q (sym (files_after parsed line (done.stream ∷ []) takes))
            (are_read_push (span files before after) (files_to parsed line) h.contents h.streams done.stream
            done.bytes done.stamps all one events);
        whole = whole_more new is h done.stream done.stamps takes done.now;
        last = is_last_push files before middle after h.contents done.bytes h.no_fault done.read.1;
        no_fault = done.read.1.no_fault ∙ h.no_fault;
      }

  -- one more line
  pub line_done : (new : RecordView) → IsRecord parsed → IsLoadedTo (span files before middle) parsed line mid
      → IsDone (span files middle after) mid line new
      → IsLoadedTo (span files before after) parsed (line + 1) new
  line_done new is h (inl done) = passed_over new h done
  line_done new is h (inr done) = taken new is h done

  -- the line whose stream was not read
  pub line_refused : (text : List ℕ) (why : NoRecord) → IsLoadedTo (span files before middle) parsed line mid
      → CannotDo (span files middle after) text mid line why
      → CannotFinish (span files before after) text parsed why
  line_refused text Unread h cannot = (
    line,
    cannot.0,
    is_at_stream h cannot.0 cannot.1,
    is_unread_from files before middle after (cannot.0).name h.no_fault cannot.2,
  )
  line_refused text TooLong h cannot = (
    line,
    cannot.0,
    is_at_stream h cannot.0 cannot.1,
    is_too_long_from files before middle after (cannot.0).name h.no_fault cannot.2,
  )
  line_refused text (Refused refused) h bad = record {
    line = line;
    stream = bad.stream;
    at = is_at_stream h bad.stream bad.takes;
    bytes = bad.bytes;
    read = is_read_last_from files before middle after bad.stream.name bad.bytes h.no_fault bad.read;
    no_stream = sym (events_at-file mid line bad.stream bad.bytes bad.takes) ∙ bad.no_stream;
    number = bad.number;
    cause = bad.cause;
  }
  line_refused text NoMemory h cannot = ran_out_from files before middle after h.no_fault cannot

-- no line was read yet
pub none_read : (files : Option (List File)) (v : InputView) (parsed : RecordView)
    → IsLoadedTo (span files v v) parsed 0 parsed
none_read files v parsed = record {
  contents = [];
  streams = [];
  loaded = tt;
  whole = refl;
  last = refl;
  no_fault = refl;
}

-- all lines were read
pub all_read : (r : Reads) (parsed now : RecordView) (line : ℕ) → IsRecord parsed → length parsed.lines ≤ line
    → IsLoadedTo r parsed line now → AreStreamsLoaded r parsed now
all_read r parsed now line is past h =
    let files : files_to parsed line ≡ stream_files parsed.lines =
    ap stream_files (take_all line parsed.lines past) in
    let k : length (files_to parsed line) ≡ length h.streams =
    are_read_length r (files_to parsed line) h.contents h.streams h.loaded in
    let count : length (stream_files parsed.lines) ≡ length parsed.streams =
    rw (← as_many_files parsed.lines, is.numbered) (length-range_with_len 0 (length parsed.streams)) in
    let full : length parsed.streams ≤ length h.streams =
    omega (arith, k, count, ap (λ (x : List StreamFile). length x) files) in
    let Q : List StreamFile → Type 0 = λ fs. AreLoaded (IsRead r) fs h.contents h.streams in
    record {
      contents = h.contents;
      streams = h.streams;
      loaded = subst Q files h.loaded;
      whole = rw (h.whole, drop_all (length h.streams) parsed.streams full, append-nil h.streams);
      last = h.last;
      no_fault = h.no_fault;
    }

-- the same, where the input tells the same files after some calls
pub line_done_at : (files other : Option (List File)) (before middle after : InputView)
    (parsed mid new : RecordView) (line : ℕ) → IsRecord parsed
    → IsLoadedTo (span files before middle) parsed line mid
    → IsDone (span other middle after) mid line new → other ≡ files → AreToldAlike middle after
    → IsLoadedTo (span files before after) parsed (line + 1) new
line_done_at files other before middle after parsed mid new line is h done same told =
    let P : Option (List File) → Type 0 = λ f. IsDone (span f middle after) mid line new in
    line_done files before middle after told parsed mid line new is h (subst P same done)

-- the input's files stay the same, so a stream refused in a part is refused in the whole
pub line_refused_at : (files other : Option (List File)) (before middle after : InputView)
    (parsed mid : RecordView) (line : ℕ) (text : List ℕ) (why : NoRecord)
    → IsLoadedTo (span files before middle) parsed line mid
    → CannotDo (span other middle after) text mid line why → other ≡ files → AreToldAlike middle after
    → CannotFinish (span files before after) text parsed why
line_refused_at files other before middle after parsed mid line text why h cannot same told =
    let P : Option (List File) → Type 0 = λ f. CannotDo (span f middle after) text mid line why in
    line_refused files before middle after told parsed mid line text why h (subst P same cannot)

-- Where nothing is at fault, the report is written, or memory ran out.
use Rattle.std.proofs.Common.{◌≡◌, ℕ, zero, suc, List, [], ◌∷◌, ◌++◌, length, Option, Some, None, Ok, Err}
use Rattle.std.proofs.Common.{refl, sym, ap, subst, ◌∙◌, inl, inr, arith}
use Rattle.std.specs.Prelude.{◌⊎◌, IsTrue, is_some, slice_get}
use Rattle.inp_edge.specs.Count.{RoseUnlessSaturated}
use Rattle.inp_edge.specs.File.{File, IsMissing, HasFile, HasLongerFile, bytes_of}
use Rattle.inp_edge.specs.declared.input.TheConstants.{INPUT_LIMIT}
use Rattle.inp_args.specs.declared.request.Request.{Request}
use Rattle.inp_args.specs.declared.request.Request.TheVariants.{Play, Migrate, Make}
use Rattle.inp_args.specs.Request.{Arguments, requested}
use Rattle.inp_model.specs.declared.stamped.Stamped.{Stamped}
use Rattle.inp_actors.specs.declared.line.Line.{Line}
use Rattle.inp_actors.specs.Record.{RecordView}
use Rattle.inp_record.specs.declared.refused.Refused.{Refused as Refusal}
use Rattle.inp_record.specs.Meaning.{meaning}
use Rattle.inp_tool.specs.declared.end.End.{End}
use Rattle.inp_tool.specs.declared.outcome.Outcome.{Outcome}
use Rattle.inp_tool.specs.declared.outcome.Outcome.TheVariants.{Usage, Unread, TooLong, Refused, NoMemory}
use Rattle.inp_tool.specs.declared.outcome.Outcome.TheVariants.{Played as WasPlayed, Migrated}
use Rattle.inp_tool.specs.Edge.{Reads, Writes}
use Rattle.inp_tool.specs.Outcome.{end_of}
use Rattle.inp_tool.specs.Streams.{StreamFile, file_of, stream_files, events_in}
use Rattle.inp_tool.specs.RecordFile.{IsRead, IsUnread, IsTooLong, AreLoaded, StreamReached, HasNext}
use Rattle.inp_tool.specs.RecordFile.{HasBadText, HasBadStream, HasRecord}
use Rattle.inp_tool.specs.Promise.{NameSuch, IsRecordOf, IsAnswerTo, IsAnswered, HasCause, IsWrittenWhole}
use Rattle.inp_tool.specs.Promise.{IsWrittenInPart, Promise}
use Rattle.inp_tool.specs.Complete.{IsFaultless, IsThere, IsReadable, IsComplete}
use Rattle.inp_tool.proofs.StreamFiles.{line_found}
use Rattle.inp_tool.proofs.Faults.{file_or_none, same_file, names_file, names_none}

-- a file that is there, and is a stream
record HasStream (files : List File) (stream : StreamFile) : Type 0 where
  bytes : List ℕ
  there : IsThere files stream.name bytes
  stamps : List Stamped
  means : events_in stream bytes ≡ Some stamps

abbrev Each : (StreamFile → Type 0) → List StreamFile → Type 0
Each P [] = Unit {0}
Each P (stream ∷ streams) = P stream × Each P streams

each_behind : (P : StreamFile → Type 0) (front streams : List StreamFile) → Each P (front ++ streams)
    → Each P streams
each_behind P [] streams h = h
each_behind P (stream ∷ front) streams h = each_behind P front streams h.1

each_has : (files : List File) (its : List StreamFile) (contents : List (List ℕ))
    (streams : List (List Stamped)) → AreLoaded (IsThere files) its contents streams
    → Each (HasStream files) its
each_has files [] [] [] h = tt
each_has files (stream ∷ its) (bytes ∷ contents) (stamps ∷ streams) h = (
  record { bytes = bytes; there = h.0; stamps = stamps; means = h.1 },
  each_has files its contents streams h.2,
)
each_has files its contents streams h = absurd h

-- what each stream file has, that of a line has
at_line : (P : StreamFile → Type 0) (lines : List Line) (i : ℕ) (l : Line) (stream : StreamFile)
    → Each P (stream_files lines) → slice_get lines i ≡ Some l → file_of l.command ≡ stream ∷ [] → P stream
at_line P [] i l stream h e f = let never : ⊥ = cc e in absurd never
at_line P (line ∷ lines) zero l stream h e f =
    let same : file_of line.command ≡ stream ∷ [] = cc (e, f) in
    let Q : List StreamFile → Type 0 = λ fs. Each P (fs ++ stream_files lines) in
    let here = subst Q same h in here.0
at_line P (line ∷ lines) (suc i) l stream h e f =
    at_line P lines i l stream (each_behind P (file_of line.command) (stream_files lines) h) e f

-- a file that is told has one content
same_bytes : (told : Option (List File)) (files : List File) (name bytes others : List ℕ) → told ≡ Some files
    → bytes_of files name ≡ Some bytes → HasFile told name others → others ≡ bytes
same_bytes told files name bytes others e f h =
    let P : Option (List File) → Type 0 = λ t. HasFile t name others in
    let is : bytes_of files name ≡ Some others = subst P e h in
    cc (is, f)

there_is_found : (told : Option (List File)) (files : List File) (name bytes : List ℕ) → told ≡ Some files
    → bytes_of files name ≡ Some bytes → IsMissing told name → ⊥
there_is_found told files name bytes e f h =
    let P : Option (List File) → Type 0 = λ t. IsMissing t name in
    let is : bytes_of files name ≡ None = subst P e h in
    cc (is, f)

there_is_within : (told : Option (List File)) (files : List File) (name bytes : List ℕ) → told ≡ Some files
    → IsThere files name bytes → HasLongerFile told name INPUT_LIMIT → ⊥
there_is_within told files name bytes e is h =
    let same = same_bytes told files name bytes h.0 e is.file h.1 in
    omega (arith, is.within, h.2, ap length same)

-- events that were read of files that are there
same_events : (r : Reads) (files : List File) (its : List StreamFile) (contents : List (List ℕ))
    (streams : List (List Stamped)) (others : List (List ℕ)) (more : List (List Stamped))
    → r.files ≡ Some files → IsTrue (is_some r.after.left) → AreLoaded (IsThere files) its contents streams
    → AreLoaded (IsRead r) its others more → more ≡ streams
same_events r files [] [] [] [] [] e told h k = refl
same_events r files (f ∷ its) (b ∷ contents) (s ∷ streams) (c ∷ others) (t ∷ more) e told h k =
    let first : c ≡ b = same_bytes r.files files f.name b c e (h.0).file ((k.0).whole told) in
    let its_events : events_in f b ≡ Some t = ap (events_in f) (sym first) ∙ k.1 in
    let same : t ≡ s = cc (h.1, its_events) in
    let rest = same_events r files its contents streams others more e told h.2 k.2 in
    cc (same, rest)
same_events r files [] [] [] others more e told h k = absurd k
same_events r files (f ∷ its) (b ∷ contents) (s ∷ streams) others more e told h k = absurd k
same_events r files its contents streams others more e told h k = absurd h

-- a count that did not rise though it can
no_rise : (before after : ℕ) → IsFaultless before after → RoseUnlessSaturated before after → ⊥
no_rise before after h rose = omega (arith, h.0, h.1, rose h.0)

-- A record that is there, in an input that had no fault.
module _ (r : Reads) (file : List ℕ) (recorded : RecordView) (readable : IsReadable r file recorded)
    (stays : is_some r.after.left ≡ is_some r.before.left) where
  told : IsTrue (is_some r.after.left)
  told = stays ∙ readable.told_bytes

  same_text : (text : List ℕ) → IsRead r file text → text ≡ readable.there.all.text
  same_text text h =
      same_bytes r.files readable.files file readable.there.all.text text readable.told_files
      readable.there.all.read.file (h.whole told)

  same_record : (text : List ℕ) (parsed : RecordView) → IsRead r file text → meaning text ≡ Ok parsed
      → parsed ≡ readable.there.parsed
  same_record text parsed h e =
      let same = same_text text h in
      let means : meaning readable.there.all.text ≡ Ok parsed = ap meaning (sym same) ∙ e in
      cc (means, readable.there.all.means)

  stream_there : (reached : StreamReached r file) → HasStream readable.files reached.stream
  stream_there reached =
      let parsed = reached.parsed in
      let same = same_record reached.before.text parsed reached.before.read reached.before.means in
      let found =
      line_found (λ (l : Line). file_of l.command) (slice_get parsed.lines reached.line)
      (reached.stream ∷ []) reached.here in
      let P : RecordView → Type 0 = λ p. slice_get p.lines reached.line ≡ Some found.0 in
      let here : P readable.there.parsed = subst P same found.1 in
      let all =
      each_has readable.files (stream_files readable.there.parsed.lines) readable.there.all.contents
      readable.there.all.streams readable.there.all.loaded in
      at_line (HasStream readable.files) readable.there.parsed.lines reached.line found.0 reached.stream all
      here found.2

  -- the next file is there
  next_there : (Is : List ℕ → Type 0) → HasNext r file Is
      → (name : List ℕ) × (bytes : List ℕ) × IsThere readable.files name bytes × Is name
  next_there Is (inl is) = (file, readable.there.all.text, readable.there.all.read, is)
  next_there Is (inr h) =
      let has = stream_there h.0 in
      (h.0.stream.name, has.bytes, has.there, h.1)

  not_unread : HasNext r file (IsUnread r) → ⊥
  not_unread h =
      let next = next_there (IsUnread r) h in
      elim next.3.fault [
        | inl rose ↦ no_rise r.before.faults r.after.faults readable.no_fault rose
        | inr missing ↦
            there_is_found r.files readable.files next.0 next.1 readable.told_files next.2.file missing
      ]

  not_too_long : HasNext r file (IsTooLong r) → ⊥
  not_too_long h =
      let next = next_there (IsTooLong r) h in
      there_is_within r.files readable.files next.0 next.1 readable.told_files next.2 (next.3.longer told)

  not_refused : (refused : Refusal) → HasBadText r refused file ⊎ HasBadStream r refused file → ⊥
  not_refused refused (inl h) =
      let same = same_text h.0 h.1.0 in
      let means : meaning readable.there.all.text ≡ Err refused = ap meaning (sym same) ∙ h.2 in
      cc (means, readable.there.all.means)
  not_refused refused (inr h) =
      let stream = h.reached.stream in
      let has = stream_there h.reached in
      let same =
      same_bytes r.files readable.files stream.name has.bytes h.bytes readable.told_files
      has.there.file (h.read.0.whole told) in
      let none : events_in stream has.bytes ≡ None = ap (events_in stream) (sym same) ∙ h.no_stream in
      cc (none, has.means)

  same_whole : (its : RecordView) → HasRecord r file its → its ≡ recorded
  same_whole its h =
      let all = h.is.all in
      let mine = readable.there.all in
      let parsed = same_record all.text h.is.parsed all.read all.means in
      let P : RecordView → Type 0 =
      λ p. AreLoaded (IsRead r) (stream_files p.lines) all.contents all.streams in
      let streams =
      same_events r readable.files (stream_files readable.there.parsed.lines) mine.contents mine.streams
      all.contents all.streams readable.told_files told mine.loaded (subst P parsed all.loaded) in
      rw (h.is.whole, parsed, streams) (sym readable.there.whole)

-- A request whose record is there.
module _ (words : Arguments) (r : Reads) (request : Request) (recorded : RecordView)
    (asked : requested words ≡ Some request) (stays : is_some r.after.left ≡ is_some r.before.left) where
  -- the file that the words name is that of the request
  there_is_none : (Is : List ℕ → Type 0)
      → ((file : List ℕ) → IsReadable r file recorded → Is file → ⊥)
      → IsRecordOf (IsReadable r) request recorded → NameSuch words Is → ⊥
  there_is_none Is never had such = elim (file_or_none (IsReadable r) request recorded had) [
    | inl its ↦
        let same = same_file words its.0 such.0 (names_file words request its.0 asked its.1) such.1 in
        never its.0 its.2 (subst Is same such.2)
    | inr none ↦ names_none words request such.0 asked none such.1
  ]

  -- its record is the one that was read, or the one that is made
  same_recorded : (q : Request) (its : RecordView) → IsRecordOf (IsReadable r) q recorded
      → IsRecordOf (HasRecord r) q its → its ≡ recorded
  same_recorded (Play file history idle) its had h = same_whole r file recorded had stays its h
  same_recorded (Migrate file) its had h = same_whole r file recorded had stays its h
  same_recorded (Make number count) its had h = h ∙ sym had

  -- what was answered is the answer to it
  same_answer : (found : Outcome) → IsRecordOf (IsReadable r) request recorded → IsAnswered words r found
      → IsAnswerTo request recorded found
  same_answer found had h =
      let same : h.request ≡ request = cc (h.asked, asked) in
      let P : Request → Type 0 = λ q. IsRecordOf (HasRecord r) q h.recorded in
      let its = same_recorded request h.recorded had (subst P same h.had) in
      let Q : Request → Type 0 = λ q. IsAnswerTo q h.recorded found in
      let R : RecordView → Type 0 = λ x. IsAnswerTo request x found in
      subst R its (subst Q same h.answer)

  -- it was answered, or memory ran out
  answered : (found : Outcome) → IsRecordOf (IsReadable r) request recorded → HasCause words r found
      → ((end_of found).status ≡ 5) ⊎ IsAnswerTo request recorded found
  answered Usage had h = let never : ⊥ = cc (h.0, asked) in absurd never
  answered Unread had h =
      absurd
      (there_is_none (λ file. HasNext r file (IsUnread r))
      (λ file readable. not_unread r file recorded readable stays) had h)
  answered TooLong had h =
      absurd
      (there_is_none (λ file. HasNext r file (IsTooLong r))
      (λ file readable. not_too_long r file recorded readable stays) had h)
  answered (Refused refused text) had h =
      absurd
      (there_is_none (λ file. HasBadText r refused file ⊎ HasBadStream r refused file)
      (λ file readable. not_refused r file recorded readable stays refused) had h.0)
  answered NoMemory had h = inl refl
  answered (WasPlayed played text) had h = inr (same_answer (WasPlayed played text) had h)
  answered (Migrated text) had h = inr (same_answer (Migrated text) had h)

-- where no write failed, what was found was written whole
written_whole : (w : Writes) (found : Outcome) (end : End) → IsFaultless w.before.faults w.after.faults
    → IsWrittenWhole w found end ⊎ IsWrittenInPart w found end → IsWrittenWhole w found end
written_whole w found end none (inl whole) = whole
written_whole w found end none (inr part) = absurd (no_rise w.before.faults w.after.faults none part.fault)

-- without a fault what is asked for is read, found and written whole, unless memory runs out
pub complete : (words : Arguments) (r : Reads) (w : Writes) (end : End) → Promise words r w end
    → is_some r.after.left ≡ is_some r.before.left → IsComplete words r w end
complete words r w end p stays = record {
  answered = λ request recorded asked had none.
      let whole = written_whole w p.found end none p.written in
      elim (answered words r request recorded asked stays p.found had p.cause) [
        | inl lacks ↦ inl (rw whole.ended lacks)
        | inr answer ↦ inr (p.found, answer, whole)
      ];
}

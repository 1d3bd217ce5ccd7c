-- What the program's one call promises (docs/PROMISES.md).
use Rattle.std.specs.Prelude.{ℕ, ◌≡◌, ◌<◌, ◌≢◌, ◌⊎◌, List, [], length, replicate, string_bytes, Option, Some, None, option_and_then, Ok}
use Rattle.inp_edge.specs.Count.{RoseUnlessSaturated}
use Rattle.inp_edge.specs.File.{IsMissing}
use Rattle.inp_edge.specs.Sink.{Appends, IsCutOff}
use Rattle.inp_edge.specs.declared.input.TheConstants.{INPUT_LIMIT}
use Rattle.inp_args.specs.declared.request.Request.{Request}
use Rattle.inp_args.specs.declared.request.Request.TheVariants.{Play, Migrate, Make}
use Rattle.inp_args.specs.Request.{requested, record_file}
pub use Rattle.inp_args.specs.Request.{Arguments}
use Rattle.inp_make.specs.Generated.{generated}
use Rattle.inp_actors.specs.Record.{RecordView}
use Rattle.inp_record.specs.canon.Text.{record_text}
use Rattle.inp_record.specs.Meaning.{meaning}
use Rattle.inp_script.specs.declared.run.Played.{Played}
use Rattle.inp_runs.specs.Play.{IsPlay}
use Rattle.inp_runs.specs.Job.{ArePromised}
use Rattle.inp_tool.specs.Upgrade.{upgraded}
use Rattle.inp_report.specs.Summary.{summary}
use Rattle.inp_report.specs.Whole.{whole_report}
use Rattle.inp_tool.specs.declared.end.End.{End}
use Rattle.inp_tool.specs.declared.no_record.NoRecord.{NoRecord}
use Rattle.inp_tool.specs.declared.outcome.Outcome.{Outcome}
use Rattle.inp_tool.specs.declared.outcome.Outcome.TheVariants.{Usage, Unread, TooLong, Refused as IsRefused, NoMemory, Played as WasPlayed, Migrated}
use Rattle.inp_tool.specs.Edge.{Reads, Writes}
use Rattle.inp_tool.specs.Outcome.{refused_text, played_status, text_of, end_of}
use Rattle.inp_tool.specs.RecordFile.{IsUnread, IsTooLong, HasNext, HasBadText, HasBadStream, HasRecord, HasNoRecord, RanOut}

-- The words ask for what is made of the record in this file: its report, or its text in the newest version.
abbrev pub NameFile : Arguments → List ℕ → Type 0
NameFile words file = option_and_then record_file (requested words) ≡ Some file

-- the words name a file, and it is such a one
abbrev pub NameSuch : Arguments → (List ℕ → Type 0) → Type 0
NameSuch words Is = (file : List ℕ) × NameFile words file × Is file

-- The result of a record. Each job's replies are the one-thread device's at their places in one history, and
-- its sight follows its lines. Each place of the history is in one sight, where joysticks' jobs are jobs too.
-- What each owner was told is what its feedback calls took of what was sent to its device. On one thread the
-- lines were done in file order besides (both of `inp_runs`).
pub record IsResultOf (idle : Option ℕ) (recorded : RecordView) (played : Played) : Type 0 where
  pub promised : ArePromised idle recorded played
  pub in_order : idle ≡ None → IsPlay recorded played

-- The result and the summary of a record that was made. No job of it stops since a history is full: the status is 0. It
-- has no joystick and no owner.
pub record IsMade (number count : ℕ) (made : RecordView) (played : Played) (text : List ℕ) : Type 0 where
  pub came : IsResultOf None made played
  pub says : text ≡ summary number count made played.runs
  pub status : played_status played ≡ 0
  pub joys : played.joys ≡ []
  pub owners : played.owners ≡ []

-- Which record a request is about: the one in its file, by what is said of a file and a record, or the one that is made.
abbrev pub IsRecordOf : (List ℕ → RecordView → Type 0) → Request → RecordView → Type 0
IsRecordOf Is (Play file history idle) recorded = Is file recorded
IsRecordOf Is (Migrate file) recorded = Is file recorded
IsRecordOf Is (Make number count) recorded = recorded ≡ generated number count

-- What a request asks for of its record. With `idle` each job is to have a thread, and waits through so many answers Again
-- in a row. What is migrated is the canonical text in version 2, by which it means the same record but for its version. A
-- record's text names the files of its streams, and has no event of them.
abbrev pub IsAnswerTo : Request → RecordView → Outcome → Type 0
IsAnswerTo (Play file history idle) recorded (WasPlayed played text) =
    IsResultOf idle recorded played × (text.items ≡ whole_report recorded history played)
IsAnswerTo (Migrate file) recorded (Migrated text) =
    (text.items ≡ record_text (upgraded recorded))
    × (meaning text.items ≡ Ok (record (upgraded recorded) { streams = replicate (length recorded.streams) [] }))
IsAnswerTo (Make number count) recorded (WasPlayed played text) = IsMade number count recorded played text.items
IsAnswerTo _ _ _ = ⊥

-- The record of the request was read with its streams, or it was made and the input is as it was. The outcome is what the
-- request asks for.
pub record IsAnswered (words : Arguments) (r : Reads) (found : Outcome) : Type 0 where
  pub request : Request
  pub asked : requested words ≡ Some request
  pub recorded : RecordView
  pub had : IsRecordOf (HasRecord r) request recorded
  pub untouched : record_file request ≡ None → r.after ≡ r.before
  pub answer : IsAnswerTo request recorded found

-- Each outcome has its cause: where a file was not read, or is too long, it is FILE or that of a stream line. Memory may
-- run out anywhere, but never in place of a fault: the input is as it was, or no file was too long.
abbrev pub HasCause : Arguments → Reads → Outcome → Type 0
HasCause words r Usage = (requested words ≡ None) × (r.after ≡ r.before)
HasCause words r Unread = NameSuch words (λ file. HasNext r file (IsUnread r))
HasCause words r TooLong = NameSuch words (λ file. HasNext r file (IsTooLong r))
HasCause words r (IsRefused refused text) =
    NameSuch words (λ file. HasBadText r refused file ⊎ HasBadStream r refused file) × (string_bytes text ≡ refused_text refused)
HasCause words r NoMemory = (r.after ≡ r.before) ⊎ RanOut r
HasCause words r (WasPlayed played text) = IsAnswered words r (WasPlayed played text)
HasCause words r (Migrated text) = IsAnswered words r (Migrated text)

-- the outcome where FILE gave no record for this reason
abbrev pub IsOutcomeOf : NoRecord → Outcome → Type 0
IsOutcomeOf why found = (words : Arguments) (r : Reads) (file : List ℕ) → NameFile words file → HasNoRecord r file why → HasCause words r found

-- the text of an outcome was written whole, and the end is that of the outcome
pub record IsWrittenWhole (w : Writes) (found : Outcome) (end : End) : Type 0 where
  pub no_fault : w.after.faults ≡ w.before.faults
  pub written : Appends (text_of found) w.before.written w.after.written
  pub ended : end ≡ end_of found

-- the sink was at fault, and a front part of the text was written, and not all of it
pub record IsWrittenInPart (w : Writes) (found : Outcome) (end : End) : Type 0 where
  pub fault : RoseUnlessSaturated w.before.faults w.after.faults
  pub written : IsCutOff (text_of found) w.before.written w.after.written
  pub ended : end ≡ record (end_of found) { status = 4; refused = None }

-- something was found that has its cause, and it was told
pub record Promise (words : Arguments) (r : Reads) (w : Writes) (end : End) : Type 0 where
  pub found : Outcome
  pub cause : HasCause words r found
  pub written : IsWrittenWhole w found end ⊎ IsWrittenInPart w found end

-- No fault is hidden. A call of the input that was at fault ends in status 3, a call of the sink in status 4.
-- With 4 the text may be that of any outcome.
pub record HidesNoFault (words : Arguments) (r : Reads) (w : Writes) (end : End) : Type 0 where
  pub input : end.status ≢ 3 → end.status ≢ 4 → r.after.faults ≡ r.before.faults
  pub sink : end.status ≢ 4 → w.after.faults ≡ w.before.faults
  -- so does a FILE that is not there, unless memory ran out
  pub missing : (file : List ℕ) → NameFile words file → IsMissing r.files file
      → (end.status ≡ 3) ⊎ (end.status ≡ 4) ⊎ (end.status ≡ 5)
  -- and a file that has more bytes than an input may have ends in status 7, unless its text was cut off
  pub too_long : (file : List ℕ) → NameFile words file → r.after ≢ r.before → INPUT_LIMIT < r.after.given
      → (end.status ≡ 7) ⊎ (end.status ≡ 4)

-- When the program's one call writes its report (docs/PROMISES.md).
use Rattle.std.specs.Prelude.{ℕ, ◌≡◌, ◌≤◌, ◌<◌, ◌⊎◌, List, length, Some, IsSome}
use Rattle.inp_edge.specs.Count.{LAST}
use Rattle.inp_edge.specs.File.{File, bytes_of}
use Rattle.inp_edge.specs.declared.input.TheConstants.{INPUT_LIMIT}
use Rattle.inp_args.specs.declared.request.Request.{Request}
use Rattle.inp_args.specs.Request.{Arguments, requested}
use Rattle.inp_actors.specs.Record.{RecordView}
use Rattle.inp_tool.specs.declared.end.End.{End}
use Rattle.inp_tool.specs.declared.outcome.Outcome.{Outcome}
use Rattle.inp_tool.specs.Edge.{Reads, Writes}
use Rattle.inp_tool.specs.RecordFile.{IsRecorded}
use Rattle.inp_tool.specs.Promise.{IsRecordOf, IsAnswerTo, IsWrittenWhole}

-- a count that can rise and did not
abbrev pub IsFaultless : ℕ → ℕ → Type 0
IsFaultless before after = (before < LAST) × (after ≡ before)

-- a file of this name is there, with these bytes, which are within the limit
pub record IsThere (files : List File) (name bytes : List ℕ) : Type 0 where
  pub file : bytes_of files name ≡ Some bytes
  pub within : length bytes ≤ INPUT_LIMIT

-- FILE and the files of its stream lines are there, in an input that tells their bytes and had no fault. They are this
-- record with its streams.
pub record IsReadable (r : Reads) (file : List ℕ) (recorded : RecordView) : Type 0 where
  pub files : List File
  pub told_files : r.files ≡ Some files
  pub told_bytes : IsSome r.before.left
  pub there : IsRecorded (IsThere files) file recorded
  pub no_fault : IsFaultless r.before.faults r.after.faults

-- A record that is there, or a record to be made, and no fault: what the request asks for of it was written whole, a report,
-- a text in version 2 or a summary; or memory ran out.
pub record IsComplete (words : Arguments) (r : Reads) (w : Writes) (end : End) : Type 0 where
  pub answered : (request : Request) (recorded : RecordView) → requested words ≡ Some request
      → IsRecordOf (IsReadable r) request recorded → IsFaultless w.before.faults w.after.faults
      → (end.status ≡ 5) ⊎ ((found : Outcome) × IsAnswerTo request recorded found × IsWrittenWhole w found end)

-- No fault is hidden.
use Rattle.std.proofs.Common.{◌≡◌, ℕ, ◌<◌, ◌≤◌, List, refl, ap, ◌∙◌, inl, inr, arith}
use Rattle.std.proofs.Common.{Some, None}
use Rattle.std.specs.Prelude.{◌≢◌, ◌⊎◌, option_and_then}
use Rattle.inp_edge.specs.File.{IsMissing}
use Rattle.inp_edge.specs.declared.input.TheConstants.{INPUT_LIMIT}
use Rattle.inp_args.specs.declared.request.Request.{Request}
use Rattle.inp_args.specs.declared.request.Request.TheVariants.{Play, Migrate, Make}
use Rattle.inp_args.specs.Request.{Arguments, requested, record_file}
use Rattle.inp_actors.specs.Record.{RecordView}
use Rattle.inp_record.specs.declared.refused.Refused.{Refused as Refusal}
use Rattle.inp_tool.specs.declared.end.End.{End}
use Rattle.inp_tool.specs.declared.outcome.Outcome.{Outcome}
use Rattle.inp_tool.specs.declared.outcome.Outcome.TheVariants.{Usage, Unread, TooLong, Refused, NoMemory}
use Rattle.inp_tool.specs.declared.outcome.Outcome.TheVariants.{Played, Migrated}
use Rattle.inp_tool.specs.Edge.{Reads, Writes}
use Rattle.inp_tool.specs.Outcome.{end_of}
use Rattle.inp_tool.specs.RecordFile.{IsUnread, IsTooLong, RanOut, HasNext, HasBadText, HasBadStream}
use Rattle.inp_tool.specs.RecordFile.{HasRecord}
use Rattle.inp_tool.specs.Promise.{NameFile, IsRecordOf, IsAnswered, HasCause, IsWrittenWhole}
use Rattle.inp_tool.specs.Promise.{IsWrittenInPart, Promise, HidesNoFault}
use Rattle.inp_tool.proofs.Records.{ran_out_behind, ran_out_after}

abbrev KeepsFaults : Reads → Type 0
KeepsFaults r = r.after.faults ≡ r.before.faults

abbrev IsWritten : Writes → Outcome → End → Type 0
IsWritten w found end = IsWrittenWhole w found end ⊎ IsWrittenInPart w found end

-- a request is about the record in its file, or names none
pub file_or_none : (Is : List ℕ → RecordView → Type 0) (request : Request) (recorded : RecordView)
    → IsRecordOf Is request recorded
    → ((file : List ℕ) × (record_file request ≡ Some file) × Is file recorded) ⊎ (record_file request ≡ None)
file_or_none Is (Play file history idle) recorded h = inl (file, refl, h)
file_or_none Is (Migrate file) recorded h = inl (file, refl, h)
file_or_none Is (Make number count) recorded h = inr refl

-- the words ask for one file
pub same_file : (words : Arguments) (file other : List ℕ) → NameFile words file
    → NameFile words other → other ≡ file
same_file words file other e f = cc (e, f)

-- words that ask for a file name it
pub names_file : (words : Arguments) (request : Request) (file : List ℕ) → requested words ≡ Some request
    → record_file request ≡ Some file → NameFile words file
names_file words request file asked e = ap (option_and_then record_file) asked ∙ e

-- words that ask for a record to be made name none
pub names_none : (words : Arguments) (request : Request) (file : List ℕ) → requested words ≡ Some request
    → record_file request ≡ None → NameFile words file → ⊥
names_none words request file asked e f =
    let none : option_and_then record_file (requested words) ≡ None =
    ap (option_and_then record_file) asked ∙ e in
    cc (none, f)

-- nor do words that are not accepted
pub refused_names_none : (words : Arguments) (file : List ℕ) → requested words ≡ None
    → NameFile words file → ⊥
refused_names_none words file e f =
    let none : option_and_then record_file (requested words) ≡ None = ap (option_and_then record_file) e in
    cc (none, f)

-- an input that is as it was had no fault
untouched_keeps : (r : Reads) → r.after ≡ r.before → KeepsFaults r
untouched_keeps r e = rw e

no_record_keeps : (r : Reads) (file : List ℕ) (refused : Refusal)
    → HasBadText r refused file ⊎ HasBadStream r refused file → KeepsFaults r
no_record_keeps r file refused (inl h) = h.1.1.no_fault
no_record_keeps r file refused (inr h) = h.read.1.no_fault

too_long_keeps : (r : Reads) (file : List ℕ) → HasNext r file (IsTooLong r) → KeepsFaults r
too_long_keeps r file (inl h) = h.no_fault
too_long_keeps r file (inr h) = h.1.no_fault

-- what was answered was read without a fault
answered_keeps : (words : Arguments) (r : Reads) (found : Outcome) → IsAnswered words r found → KeepsFaults r
answered_keeps words r found h = elim (file_or_none (HasRecord r) h.request h.recorded h.had) [
  | inl its ↦ its.2.last.no_fault
  | inr none ↦ untouched_keeps r (h.untouched none)
]

input_keeps : (words : Arguments) (r : Reads) (found : Outcome) → HasCause words r found
    → (end_of found).status ≢ 3 → KeepsFaults r
input_keeps words r Usage h other = untouched_keeps r h.1
input_keeps words r Unread h other = absurd (other refl)
input_keeps words r TooLong h other = too_long_keeps r h.0 h.2
input_keeps words r (Refused refused text) h other = no_record_keeps r h.0.0 refused h.0.2
input_keeps words r NoMemory (inl h) other = untouched_keeps r h
input_keeps words r NoMemory (inr h) other = h.no_fault
input_keeps words r (Played played text) h other = answered_keeps words r (Played played text) h
input_keeps words r (Migrated text) h other = answered_keeps words r (Migrated text) h

-- the next file is there, so FILE is
next_found : (r : Reads) (file : List ℕ) → HasNext r file (IsTooLong r) → ¬ (IsMissing r.files file)
next_found r file (inl h) = h.found
next_found r file (inr h) = h.0.before.read.found

text_found : (r : Reads) (file : List ℕ) (refused : Refusal)
    → HasBadText r refused file ⊎ HasBadStream r refused file → ¬ (IsMissing r.files file)
text_found r file refused (inl h) = h.1.0.found
text_found r file refused (inr h) = h.reached.before.read.found

-- a file that is there, and is the one asked for
there : (r : Reads) (file other : List ℕ) → other ≡ file → ¬ (IsMissing r.files other)
    → IsMissing r.files file → ⊥
there r file other e found missing = (rw e at found) missing

-- what was answered was read of a file that is there
answered_there : (words : Arguments) (r : Reads) (file : List ℕ) (found : Outcome) → NameFile words file
    → IsMissing r.files file → IsAnswered words r found → ⊥
answered_there words r file found named missing h =
    elim (file_or_none (HasRecord r) h.request h.recorded h.had) [
      | inl its ↦
          let same = same_file words file its.0 named (names_file words h.request its.0 h.asked its.1) in
          there r file its.0 same its.2.is.all.read.found missing
      | inr none ↦ names_none words h.request file h.asked none named
    ]

abbrev IsTold : ℕ → Type 0
IsTold status = (status ≡ 3) ⊎ (status ≡ 4) ⊎ (status ≡ 5)

missing_told : (words : Arguments) (r : Reads) (file : List ℕ) (found : Outcome) → NameFile words file
    → IsMissing r.files file → HasCause words r found → IsTold (end_of found).status
missing_told words r file Usage named missing h = absurd (refused_names_none words file h.0 named)
missing_told words r file Unread named missing h = inl refl
missing_told words r file TooLong named missing h =
    absurd (there r file h.0 (same_file words file h.0 named h.1) (next_found r h.0 h.2) missing)
missing_told words r file (Refused refused text) named missing h =
    absurd
    (there r file h.0.0 (same_file words file h.0.0 named h.0.1) (text_found r h.0.0 refused h.0.2) missing)
missing_told words r file NoMemory named missing h = inr (inr refl)
missing_told words r file (Played played text) named missing h =
    absurd (answered_there words r file (Played played text) named missing h)
missing_told words r file (Migrated text) named missing h =
    absurd (answered_there words r file (Migrated text) named missing h)

keeps : (words : Arguments) (r : Reads) (w : Writes) (found : Outcome) (end : End) → HasCause words r found
    → IsWritten w found end → end.status ≢ 3 → end.status ≢ 4 → KeepsFaults r
keeps words r w found end cause (inl whole) no_read no_write =
    input_keeps words r found cause (λ e. no_read (ap (λ (x : End). x.status) whole.ended ∙ e))
keeps words r w found end cause (inr part) no_read no_write = absurd (no_write (rw part.ended))

sink_keeps : (w : Writes) (found : Outcome) (end : End) → IsWritten w found end → end.status ≢ 4
    → w.after.faults ≡ w.before.faults
sink_keeps w found end (inl whole) other = whole.no_fault
sink_keeps w found end (inr part) other = absurd (other (rw part.ended))

missing_shown : (words : Arguments) (r : Reads) (w : Writes) (found : Outcome) (end : End)
    → HasCause words r found → IsWritten w found end → (file : List ℕ) → NameFile words file
    → IsMissing r.files file → IsTold end.status
missing_shown words r w found end cause (inl whole) file named missing =
    rw whole.ended (missing_told words r file found named missing cause)
missing_shown words r w found end cause (inr part) file named missing = inr (inl (rw part.ended))

-- Behind each other outcome no file was too long.

text_within : (r : Reads) (file : List ℕ) (refused : Refusal)
    → HasBadText r refused file ⊎ HasBadStream r refused file → RanOut r
text_within r file refused (inl h) = ran_out_behind r file h.0 h.1
text_within r file refused (inr h) = ran_out_behind r h.reached.stream.name h.bytes h.read

not_past : (r : Reads) → r.after.given ≤ INPUT_LIMIT → INPUT_LIMIT < r.after.given → ⊥
not_past r within past = omega arith

unread_within : (r : Reads) (file : List ℕ) → HasNext r file (IsUnread r) → r.after.given ≤ INPUT_LIMIT
unread_within r file (inl h) = h.within
unread_within r file (inr h) = h.1.within

answered_within : (words : Arguments) (r : Reads) (file : List ℕ) (found : Outcome) → NameFile words file
    → IsAnswered words r found → r.after.given ≤ INPUT_LIMIT
answered_within words r file found named h = elim (file_or_none (HasRecord r) h.request h.recorded h.had) [
  | inl its ↦ (ran_out_after r its.0 h.recorded its.2).within
  | inr none ↦ absurd (names_none words h.request file h.asked none named)
]

long_told : (words : Arguments) (r : Reads) (file : List ℕ) (found : Outcome) → NameFile words file
    → r.after ≢ r.before → INPUT_LIMIT < r.after.given → HasCause words r found → (end_of found).status ≡ 7
long_told words r file Usage named touched past h = absurd (refused_names_none words file h.0 named)
long_told words r file Unread named touched past h = absurd (not_past r (unread_within r h.0 h.2) past)
long_told words r file TooLong named touched past h = refl
long_told words r file (Refused refused text) named touched past h =
    absurd (not_past r (text_within r h.0.0 refused h.0.2).within past)
long_told words r file NoMemory named touched past (inl h) = absurd (touched h)
long_told words r file NoMemory named touched past (inr h) = absurd (not_past r h.within past)
long_told words r file (Played played text) named touched past h =
    absurd (not_past r (answered_within words r file (Played played text) named h) past)
long_told words r file (Migrated text) named touched past h =
    absurd (not_past r (answered_within words r file (Migrated text) named h) past)

long_shown : (words : Arguments) (r : Reads) (w : Writes) (found : Outcome) (end : End)
    → HasCause words r found → IsWritten w found end → (file : List ℕ) → NameFile words file
    → r.after ≢ r.before → INPUT_LIMIT < r.after.given
    → (end.status ≡ 7) ⊎ (end.status ≡ 4)
long_shown words r w found end cause (inl whole) file named touched past =
    inl (rw whole.ended (long_told words r file found named touched past cause))
long_shown words r w found end cause (inr part) file named touched past = inr (rw part.ended)

-- the status at the end tells of a fault, of a missing file, and of one that is too long
pub no_fault_hidden : (words : Arguments) (r : Reads) (w : Writes) (end : End) → Promise words r w end
    → HidesNoFault words r w end
no_fault_hidden words r w end p = record {
  input = keeps words r w p.found end p.cause p.written;
  sink = sink_keeps w p.found end p.written;
  missing = missing_shown words r w p.found end p.cause p.written;
  too_long = long_shown words r w p.found end p.cause p.written;
}

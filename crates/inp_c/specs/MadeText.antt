-- The texts that are made of a record that a handle keeps: its report, and the record in the newest version.
use Rattle.std.specs.Prelude.{◌≡◌, ◌≢◌, ◌⊎◌, ℕ, Bool, not, nat_eq, List, Option, None}
use Rattle.inp_actors.specs.Record.{RecordView}
use Rattle.inp_actors.specs.declared.record.TheConstants.{VERSION_MAX}
use Rattle.inp_script.specs.declared.run.Played.{Played}
use Rattle.inp_runs.specs.Play.{IsPlay}
use Rattle.inp_runs.specs.Job.{ArePromised}
use Rattle.inp_record.specs.canon.Text.{record_text}
use Rattle.inp_report.specs.Whole.{whole_report}
use Rattle.inp_c.specs.declared.kept.Kept.{Kept}
use Rattle.inp_c.specs.declared.kept_record.KeptRecord.{KeptRecord}
use Rattle.inp_c.specs.declared.made.Made.{Made}
use Rattle.inp_c.specs.declared.made.Made.TheVariants.{Report, Newest}
use Rattle.inp_c.specs.declared.status.TheConstants.{OK, NO_MEMORY, BAD_HANDLE}
use Rattle.inp_c.specs.LoadedStreams.{kept_record}
use Rattle.inp_c.specs.Texts.{IsTextKept}

-- what a call that makes a text of a record answers: BAD_HANDLE exactly where the handle keeps no record, else OK, or
-- that memory ran out
pub record IsMadeStatus (before : Option Kept) (status : ℕ) : Type 0 where
  pub one_of : (status ≡ OK) ⊎ ((status ≡ BAD_HANDLE) ⊎ (status ≡ NO_MEMORY))
  pub no_record : status ≡ BAD_HANDLE → kept_record before ≡ None
  pub record_there : status ≢ BAD_HANDLE → kept_record before ≢ None

-- C's number of whether a report has the histories of devices: 0 is no
abbrev pub has_history : ℕ → Bool
has_history number = not (nat_eq number 0)

-- The text is the whole report of the result of the record where its lines are done in file order, on one
-- thread. Of that holds all that is promised of runs.
pub record IsReport (recorded : RecordView) (history : Bool) (text : List ℕ) : Type 0 where
  pub played : Played
  pub in_order : IsPlay recorded played
  pub promised : ArePromised None recorded played
  pub says : text ≡ whole_report recorded history played

-- the same record in the newest version of its text
abbrev pub in_newest : RecordView → RecordView
in_newest r = record r { version = VERSION_MAX }

-- a report, or the canonical text of the record in the newest version
abbrev pub IsTextOf : Made → RecordView → List ℕ → Type 0
IsTextOf (Report history) recorded text = IsReport recorded history text
IsTextOf Newest recorded text = text ≡ record_text (in_newest recorded)

-- The text that the handle keeps is the one that is to be made of its record. The record stays as it is.
pub record IsToldMade (made : Made) (before after : Option Kept) (len : ℕ) : Type 0 where
  pub old : KeptRecord
  pub new : KeptRecord
  pub kept : IsTextKept before after old new len
  pub text : IsTextOf made old.recorded new.text.items

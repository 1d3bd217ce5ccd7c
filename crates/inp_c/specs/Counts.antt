-- How much a record that a handle keeps has, and what C is told of it.
use Rattle.std.specs.Prelude.{◌≡◌, ℕ, length, Option, Some}
use Rattle.inp_actors.specs.Record.{RecordView}
use Rattle.inp_c.specs.declared.kept.Kept.{Kept}
use Rattle.inp_c.specs.declared.kept.Kept.TheVariants.{Record}
use Rattle.inp_c.specs.declared.kept_record.KeptRecord.{KeptRecord}
use Rattle.inp_c.specs.declared.c_counts.CCounts.{CCounts}
use Rattle.inp_c.specs.declared.status.TheConstants.{OK, BAD_HANDLE}

-- a call that wants a record
abbrev pub record_status : Option Kept → ℕ
record_status (Some (Record kept)) = OK
record_status _ = BAD_HANDLE

-- how many devices, actors and action lines a record has
abbrev pub told_counts : RecordView → CCounts
told_counts r = record { devices = length r.devices; actors = length r.actors; lines = length r.lines }

-- C is told how much the handle's record has
pub record IsToldCounts (before : Option Kept) (counts : CCounts) : Type 0 where
  pub kept : KeptRecord
  pub is : before ≡ Some (Record kept)
  pub counts_are : counts ≡ told_counts kept.recorded

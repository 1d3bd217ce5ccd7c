-- A record in the newest version of its text, and what stays of it (docs/FORMATS.md, "A text in the newest version").
use Rattle.std.specs.Prelude.{◌≡◌, ◌↔◌, ℕ, List, Ok}
use Rattle.inp_actors.specs.Record.{RecordView}
use Rattle.inp_record.specs.canon.Text.{record_text}
use Rattle.inp_record.specs.Meaning.{meaning}
use Rattle.inp_script.specs.declared.run.Played.{Played}
use Rattle.inp_runs.specs.Play.{IsPlay}

-- the same record with version 2
abbrev pub upgraded : RecordView → RecordView
upgraded r = record r { version = 2 }

-- The text of each record that some bytes are, once it is upgraded, is read as the upgraded record.
abbrev pub ReadsAgain : Type 0
ReadsAgain = (bytes : List ℕ) (r : RecordView) → meaning bytes ≡ Ok r → meaning (record_text (upgraded r)) ≡ Ok (upgraded r)

-- The result of a record, its lines done in file order, is the result of it upgraded.
abbrev pub PlaysAlike : Type 0
PlaysAlike = (r : RecordView) (played : Played) → IsPlay (upgraded r) played ↔ IsPlay r played

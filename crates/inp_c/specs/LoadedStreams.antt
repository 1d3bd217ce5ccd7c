-- The streams of a record that a handle keeps.
use Rattle.std.specs.Prelude.{◌≡◌, ◌≢◌, ◌⊎◌, ℕ, true, List, slice_set, Option, Some, None}
use Rattle.inp_model.specs.declared.stamped.Stamped.{Stamped}
use Rattle.inp_record.specs.Stream.{stream_at, events_at, with_stream}
use Rattle.inp_c.specs.declared.kept.Kept.{Kept}
use Rattle.inp_c.specs.declared.kept.Kept.TheVariants.{Record}
use Rattle.inp_c.specs.declared.kept_record.KeptRecord.{KeptRecord}
use Rattle.inp_c.specs.declared.status.TheConstants.{OK, BAD_ARGUMENT, BAD_STREAM, NO_MEMORY, BAD_HANDLE}

-- the record that is kept, if one is
abbrev pub kept_record : Option Kept → Option KeptRecord
kept_record (Some (Record kept)) = Some kept
kept_record _ = None

-- the line of the kept record takes no stream
abbrev pub LacksStream : Option Kept → ℕ → Type 0
LacksStream (Some (Record kept)) line = stream_at kept.recorded line ≡ None
LacksStream _ line = ⊥

-- the bytes are no stream of the kept record's line
abbrev pub LacksEvents : Option Kept → ℕ → List ℕ → Type 0
LacksEvents (Some (Record kept)) line bytes = events_at kept.recorded line bytes ≡ None
LacksEvents _ line bytes = ⊥

-- What the call that gives a line its bytes answers: each status comes only so, and there is no other. That memory ran
-- out may be said wherever a record is kept.
pub record IsLoadStatus (before : Option Kept) (line : ℕ) (bytes : List ℕ) (status : ℕ) : Type 0 where
  pub one_of : (status ≡ OK) ⊎ ((status ≡ BAD_HANDLE) ⊎ ((status ≡ BAD_ARGUMENT) ⊎ ((status ≡ BAD_STREAM) ⊎ (status ≡ NO_MEMORY))))
  pub no_record : status ≡ BAD_HANDLE → kept_record before ≡ None
  pub record_there : status ≢ BAD_HANDLE → kept_record before ≢ None
  pub no_stream : status ≡ BAD_ARGUMENT → LacksStream before line
  pub no_events : status ≡ BAD_STREAM → LacksEvents before line bytes

-- The line's stream has the events that the bytes are, and is marked as given. All else of the record stays.
pub record IsToldLoad (before after : Option Kept) (line : ℕ) (bytes : List ℕ) : Type 0 where
  pub old : KeptRecord
  pub new : KeptRecord
  pub index : ℕ
  pub stamps : List Stamped
  pub was : before ≡ Some (Record old)
  pub is : after ≡ Some (Record new)
  pub takes : stream_at old.recorded line ≡ Some index
  pub events : events_at old.recorded line bytes ≡ Some stamps
  pub recorded : new.recorded ≡ with_stream old.recorded line stamps
  pub marked : new.loaded.items ≡ slice_set old.loaded.items index true
  pub text : new.text ≡ old.text

-- The values that fields can say, and the words that say them.
use Rattle.std.proofs.Common.{◌≡◌, ℕ, ◌^◌, ◌≤◌, ◌<◌, Bool, true, nat_lt, List, [], ◌∷◌, FitsSigned, w32}
use Rattle.inp_actors.specs.declared.record.TheConstants.{VERSION_MAX}
use Rattle.inp_actors.specs.Name.{is_name}
use Rattle.inp_record.specs.canon.Words.{Words}
use Rattle.inp_record.specs.Field.{Field, Number, Positive, Bits, Signed, Kind, Code, CodeOf, Name, File}
use Rattle.inp_record.specs.Field.{Version, ValueOf, field_text, kind_behind, Makes}

-- numbers of more than 64 bits are not written
abbrev pub is_sound : Field → Bool
is_sound (Number most) = nat_lt most (2 ^ 64)
is_sound (Positive most) = nat_lt most (2 ^ 64)
is_sound f = true

-- the value is one that a field can say, where each file is such a word
abbrev pub FitsField : (P : List ℕ → Type 0) (f : Field) → ValueOf f → Type 0
FitsField P (Number most) n = n ≤ most
FitsField P (Positive most) n = (1 ≤ n) × (n ≤ most)
FitsField P Bits bits = bits < 2 ^ 64
FitsField P Signed z = FitsSigned w32 z
FitsField P Kind kind = kind ≤ 65535
FitsField P Code code = code ≤ 65535
FitsField P (CodeOf of) code = code ≤ 65535
FitsField P Name name = is_name name ≡ true
FitsField P File file = P file
FitsField P Version n = (1 ≤ n) × (n ≤ VERSION_MAX)
FitsField P f v = Unit {0}

-- a value for each field
abbrev pub Values : List Field → Type 0
Values [] = Unit {0}
Values (f ∷ fs) = ValueOf f × Values fs

abbrev pub FitsFields : (P : List ℕ → Type 0) (fs : List Field) → Values fs → Type 0
FitsFields P [] vs = Unit {0}
FitsFields P (f ∷ fs) vs = FitsField P f vs.0 × FitsFields P fs vs.1

-- what is made of these values
abbrev pub of_values : (A : Type 0) (fs : List Field) → Makes A fs → Values fs → A
of_values A [] thing vs = thing
of_values A (f ∷ fs) make vs = of_values A fs (make vs.0) vs.1

-- the words that say these values, where the line named this type before
abbrev pub written : (fs : List Field) → ℕ → Values fs → Words
written [] kind vs = []
written (f ∷ fs) kind vs = field_text f kind vs.0 ∷ written fs (kind_behind f kind vs.0) vs.1

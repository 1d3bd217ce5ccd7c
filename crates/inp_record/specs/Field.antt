-- Fields of lines: what a word of a line is, how it is read, and how it is written (docs/FORMATS.md, "Words").
use Rattle.std.specs.Prelude.{ℕ, suc, ◌-◌, ◌^◌, ℤ, Bool, true, false, if◌then◌else◌, nat_eq, List, [], ◌∷◌, slice_index_or, bytes_eq, codes, decimal, Option, Some, None, option_and_then}
use Rattle.std.specs.Fmt.{signed_decimal}
use Rattle.inp_model.specs.declared.axis_info.AxisInfo.{AxisInfo}
use Rattle.inp_model.specs.declared.clock.Clock as clock
use Rattle.inp_model.specs.declared.clock.Clock.TheVariants.{Realtime, Monotonic, Boottime}
use Rattle.inp_model.specs.declared.event.TheConstants.{EV_ABS}
use Rattle.inp_model.specs.declared.stamped.TheConstants.{MOMENT_MAX}
use Rattle.inp_actors.specs.Name.{is_name}
use Rattle.inp_texts.specs.Texts.{kind_text, code_text, bits_text, clock_text}
use Rattle.inp_texts.specs.Number.{number, signed_number}
use Rattle.inp_texts.specs.Code.{kind_word, code_word}
use Rattle.inp_texts.specs.Table.{named}

pub data Field : Type 0 where
  -- a number of at most so much
  Number : ℕ → Field
  -- the same, and not 0
  Positive : ℕ → Field
  -- 64 bits, written with sixteen hexadecimal digits
  Bits : Field
  -- a number of 32 bits with a sign
  Signed : Field
  -- a type
  Kind : Field
  -- a code of the type that the line names
  Code : Field
  -- a code of this type
  CodeOf : ℕ → Field
  Clock : Field
  Name : Field
  -- any word
  File : Field
  -- the number of a version
  Version : Field
  -- a clock other than the monotonic one: whether it is that since boot
  OtherClock : Field
  -- no word
  Never : Field

abbrev pub any_moment : Field
any_moment = Number MOMENT_MAX

-- a number of 32 bits
abbrev pub count : Field
count = Number (2 ^ 32 - 1)

-- CODE SIGNED SIGNED SIGNED SIGNED SIGNED SIGNED: an axis, and its value, minimum, maximum, fuzz, flat and resolution
abbrev pub axis_fields : List Field
axis_fields = CodeOf EV_ABS ∷ Signed ∷ Signed ∷ Signed ∷ Signed ∷ Signed ∷ Signed ∷ []

-- what a field says
abbrev pub ValueOf : Field → Type 0
ValueOf Signed = ℤ
ValueOf Clock = clock.Clock
ValueOf Name = List ℕ
ValueOf File = List ℕ
ValueOf OtherClock = Bool
ValueOf Never = ⊥
ValueOf _ = ℕ

unfoldable pub clock_rows : List (List ℕ × clock.Clock)
clock_rows = (codes "realtime", Realtime) ∷ (codes "monotonic", Monotonic) ∷ (codes "boottime", Boottime) ∷ []

unfoldable pub other_clock_rows : List (List ℕ × Bool)
other_clock_rows = (codes "realtime", false) ∷ (codes "boottime", true) ∷ []

abbrev pub other_clock : Bool → clock.Clock
other_clock true = Boottime
other_clock false = Realtime

-- the version that a word names, if there is one
abbrev pub version_word : List ℕ → Option ℕ
version_word w = if bytes_eq w (codes "1") then Some 1 else if bytes_eq w (codes "2") then Some 2 else None

abbrev pub name_word : List ℕ → Option (List ℕ)
name_word w = if is_name w then Some w else None

abbrev pub unless_zero : ℕ → Option ℕ
unless_zero n = if nat_eq n 0 then None else Some n

-- what a word says as this field, where the line named this type before
abbrev pub field_word : (f : Field) → ℕ → List ℕ → Option (ValueOf f)
field_word (Number most) kind w = number most w
field_word (Positive most) kind w = option_and_then (λ n. unless_zero n) (number most w)
field_word Bits kind w = number (2 ^ 64 - 1) w
field_word Signed kind w = signed_number w
field_word Kind kind w = kind_word w
field_word Code kind w = code_word kind w
field_word (CodeOf of) kind w = code_word of w
field_word Clock kind w = named clock_rows w
field_word Name kind w = name_word w
field_word File kind w = Some w
field_word Version kind w = version_word w
field_word OtherClock kind w = named other_clock_rows w
field_word Never kind w = None

-- the word that says this as this field
abbrev pub field_text : (f : Field) → ℕ → ValueOf f → List ℕ
field_text (Number most) kind n = decimal n
field_text (Positive most) kind n = decimal n
field_text Bits kind bits = bits_text bits
field_text Signed kind z = signed_decimal z
field_text Kind kind k = kind_text k
field_text Code kind code = code_text kind code
field_text (CodeOf of) kind code = code_text of code
field_text Clock kind c = clock_text c
field_text Name kind name = name
field_text File kind file = file
field_text Version kind n = decimal n
field_text OtherClock kind boot = clock_text (other_clock boot)
field_text Never kind never = absurd never

-- the type that a line has named after this field
abbrev pub kind_behind : (f : Field) → ℕ → ValueOf f → ℕ
kind_behind Kind kind k = k
kind_behind f kind value = kind

-- what is made of one value for each field
abbrev pub Makes : Type 0 → List Field → Type 0
Makes A [] = A
Makes A (f ∷ fs) = ValueOf f → Makes A fs

-- what is made of an axis and its data
abbrev pub axis_made : {A : Type 0} → (ℕ → AxisInfo → A) → Makes A axis_fields
axis_made make code value minimum maximum fuzz flat resolution =
    make code (record { value = value; minimum = minimum; maximum = maximum; fuzz = fuzz; flat = flat; resolution = resolution })

-- what is made of the words from this one on, if each is what its field says
abbrev pub made : (A : Type 0) (fs : List Field) → ℕ → ℕ → List (List ℕ) → Makes A fs → Option A
made A [] kind i ws thing = Some thing
made A (f ∷ fs) kind i ws make =
    option_and_then (λ (v : ValueOf f). made A fs (kind_behind f kind v) (suc i) ws (make v))
    (field_word f kind (slice_index_or ws i []))

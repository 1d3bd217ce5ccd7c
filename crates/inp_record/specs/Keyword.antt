-- The words that say what a line is (docs/FORMATS.md, "The lines").
use Rattle.std.specs.Prelude.{ℕ, ◌+◌, length, Bool, if◌then◌else◌, nat_eq, nat_le, List, [], ◌∷◌, map, Option, Some, None, option_and_then, unwrap_or}
use Rattle.inp_texts.specs.Table.{named}
use Rattle.inp_record.specs.Line.{line_row}
use Rattle.inp_record.specs.declared.keyword.Keyword.{Keyword}
use Rattle.inp_record.specs.declared.keyword.Keyword.TheVariants.{Header, Device, Udevice, Hint, Log, Clock, Slots, Kind, Code, Axis, Filter, Eat, Norepeat, Chord, Bounce, Source, Client, Tap, Joy, Owner, Action}

-- a keyword with the word that names it
abbrev pub keyword_row : Keyword → List ℕ × Keyword
keyword_row keyword = ((line_row keyword).word, keyword)

unfoldable pub keyword_rows : List (List ℕ × Keyword)
keyword_rows =
    map keyword_row
    (Header ∷ Device ∷ Udevice ∷ Hint ∷ Log ∷ Clock ∷ Slots ∷ Kind ∷ Code ∷ Axis ∷ Filter ∷ Source ∷ Client ∷ Tap ∷ Joy ∷ Owner ∷ Action ∷ [])

-- the kinds of filters
unfoldable pub filter_rows : List (List ℕ × Keyword)
filter_rows = map keyword_row (Eat ∷ Norepeat ∷ Chord ∷ Bounce ∷ [])

-- The keyword of a line whose first word names this one. Under version 1 there is no filter line, no device
-- made by requests, no joystick and no owner. Under a later one the second word of a filter line says what
-- kind of filter it is.
abbrev pub keyword_under : ℕ → List ℕ → Keyword → Option Keyword
keyword_under version second Filter = if nat_eq version 1 then None else Some (unwrap_or (named filter_rows second) Filter)
keyword_under version second Udevice = if nat_eq version 1 then None else Some Udevice
keyword_under version second Joy = if nat_eq version 1 then None else Some Joy
keyword_under version second Owner = if nat_eq version 1 then None else Some Owner
keyword_under version second keyword = Some keyword

-- a line of this keyword has so many words: those of its row
unfoldable pub has_words : Keyword → ℕ → Bool
has_words Filter count = nat_le 2 count
has_words Action count = nat_le 3 count
has_words k count = nat_eq count ((line_row k).first + length (line_row k).fields)

-- the keyword of a line under this version, with these first two words and so many words
unfoldable pub keyword_of : ℕ → List ℕ → List ℕ → ℕ → Option Keyword
keyword_of version first second count =
    option_and_then (λ keyword. if has_words keyword count then Some keyword else None)
    (option_and_then (λ keyword. keyword_under version second keyword) (named keyword_rows first))

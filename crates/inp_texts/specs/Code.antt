-- Types and codes as words (docs/FORMATS.md, "Words").
use Rattle.std.specs.Prelude.{ℕ, if◌then◌else◌, nat_eq, List, Option, Some, None}
use Rattle.inp_codes.specs.KindNames.{kind_of}
use Rattle.inp_codes.specs.CodeNames.{code_of}
use Rattle.inp_texts.specs.Number.{number}

-- what is found, else the number of at most 65,535 that the word is
abbrev pub or_number : Option ℕ → List ℕ → Option ℕ
or_number (Some found) word = Some found
or_number None word = number 65535 word

-- the type that a word is, by its name or its number
unfoldable pub kind_word : List ℕ → Option ℕ
kind_word word = or_number (kind_of word) word

-- the code of this type that a word is, where a table has this for it
abbrev pub code_of_kind : ℕ → Option (ℕ × ℕ) → List ℕ → Option ℕ
code_of_kind kind (Some named) word = if nat_eq named.0 kind then Some named.1 else None
code_of_kind kind None word = number 65535 word

-- the code that a word is, by a name that belongs to this type, or by its number
unfoldable pub code_word : ℕ → List ℕ → Option ℕ
code_word kind word = code_of_kind kind (code_of word) word

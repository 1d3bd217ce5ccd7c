-- A table of numbers and their names, and how it is read both ways.
use Rattle.std.specs.Prelude.{ℕ, ◌+◌, Bool, false, ◌&&◌, ◌||◌, ◌==◌, List, [], ◌∷◌, ◌++◌, map, Option, Some, None, if◌then◌else◌}
use Rattle.std.specs.Char.{is_ascii_uppercase, is_ascii_digit}
use Rattle.std.specs.List.{list_all}
use Rattle.std.specs.Str.{bytes_eq}

-- a number, or a pair of numbers, and its name
abbrev pub NamedNumber : Type 0 → Type 0
NamedNumber N = N × List ℕ

-- one more byte before the words of a text: a space ends the word that it stands before
unfoldable pub with_byte : ℕ → List (List ℕ) → List (List ℕ)
with_byte b [] = (b ∷ []) ∷ []
with_byte b (word ∷ words) = if b == 32 then [] ∷ word ∷ words else (b ∷ word) ∷ words

-- the words of a text, which single spaces divide
unfoldable pub words_between_spaces : List ℕ → List (List ℕ)
words_between_spaces [] = [] ∷ []
words_between_spaces (b ∷ bs) = with_byte b (words_between_spaces bs)

-- these names, with numbers that follow each other from the first on
unfoldable pub entries_from : ℕ → List (List ℕ) → List (NamedNumber ℕ)
entries_from first [] = []
entries_from first (name ∷ names) = (first, name) ∷ entries_from (first + 1) names

-- names that begin alike and end in the words of a text, with numbers that follow each other from the first on
unfoldable pub code_run : List ℕ → ℕ → List ℕ → List (NamedNumber ℕ)
code_run begin first ends = entries_from first (map (λ end. begin ++ end) (words_between_spaces ends))

module _ {N : Type 0} where
  -- the name of the first entry with this number
  unfoldable pub name_in : (N → N → Bool) → List (NamedNumber N) → N → Option (List ℕ)
  name_in same [] number = None
  name_in same (e ∷ es) number = let later = name_in same es number in if same e.0 number then Some e.1 else later

  -- the number of the first entry with this name
  unfoldable pub number_in : List (NamedNumber N) → List ℕ → Option N
  number_in [] name = None
  number_in (e ∷ es) name = let later = number_in es name in if bytes_eq e.1 name then Some e.0 else later

-- an upper-case letter, a digit or an underscore
abbrev pub is_word_byte : ℕ → Bool
is_word_byte b = (is_ascii_uppercase b || is_ascii_digit b) || (b == 95)

-- an upper-case letter, and then upper-case letters, digits and underscores
abbrev pub is_name_word : List ℕ → Bool
is_name_word [] = false
is_name_word (b ∷ bs) = is_ascii_uppercase b && list_all is_word_byte bs

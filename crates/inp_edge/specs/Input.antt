-- What a call does to the bytes left of a file, which an input may tell: none where it tells no
-- bytes.
use Rattle.std.specs.Prelude.{◌≡◌, ℕ, List, [], ◌++◌, Option, Some, None, ⊤}

-- where the bytes left are told, no byte is left
abbrev pub IsAtEnd : Option (List ℕ) → Type 0
IsAtEnd None = ⊤
IsAtEnd (Some left) = left ≡ []

-- this piece was taken off the front of the bytes left; they are told after it where they were
-- before
abbrev pub Takes : List ℕ → Option (List ℕ) → Option (List ℕ) → Type 0
Takes piece None None = ⊤
Takes piece (Some before) (Some after) = before ≡ piece ++ after
Takes piece None (Some after) = ⊥
Takes piece (Some before) None = ⊥

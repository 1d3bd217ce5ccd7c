-- Lines of words (docs/FORMATS.md, "The text of a record").
use Rattle.std.specs.Prelude.{ℕ, List, [], ◌∷◌, ◌++◌, flat_map}

-- a line, as its words
abbrev pub Words : Type 0
Words = List (List ℕ)

-- words that follow the first one, each after one space, and a line feed
abbrev pub further_text : Words → List ℕ
further_text [] = 10 ∷ []
further_text (w ∷ ws) = 32 ∷ (w ++ further_text ws)

-- one space between words, and a line feed
abbrev pub line_text : Words → List ℕ
line_text [] = 10 ∷ []
line_text (w ∷ ws) = w ++ further_text ws

abbrev pub lines_text : List Words → List ℕ
lines_text lines = flat_map line_text lines

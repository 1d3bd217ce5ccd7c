-- Lines and their words (docs/FORMATS.md, "Lines and words").
use Rattle.std.specs.Prelude.{◌≡◌, ℕ, ◌<◌, ◌≤◌, slice_index_or, Bool, true, false, ◌&&◌, ◌||◌, not, if◌then◌else◌, nat_eq, nat_le, List, [], ◌∷◌, length, map, filter}
use Rattle.std.specs.List.{list_all, slice_split}
use Rattle.std.specs.Str.Lines.{strip_carriage_return}

abbrev pub is_line_feed : ℕ → Bool
is_line_feed b = nat_eq b 10

-- a space or a tab
abbrev pub is_blank : ℕ → Bool
is_blank b = nat_eq b 32 || nat_eq b 9

-- the lines of a text: what stands between line feeds, less one carriage return at its end
abbrev pub lines_of : List ℕ → List (List ℕ)
lines_of text = map strip_carriage_return (slice_split is_line_feed text)

-- the pieces between line feeds behind the first one: none where the text has ended, and else those behind its line feed
abbrev pub lines_behind : List ℕ → List (List ℕ)
lines_behind [] = []
lines_behind (b ∷ text) = slice_split is_line_feed text

-- the first byte that is not blank is #
abbrev pub is_comment : List ℕ → Bool
is_comment [] = false
is_comment (b ∷ line) = if is_blank b then is_comment line else nat_eq b 35

-- a tab, or a printable ASCII character
abbrev pub is_text_byte : ℕ → Bool
is_text_byte b = nat_eq b 9 || (nat_le 32 b && nat_le b 126)

-- printable ASCII other than a space
abbrev pub is_printed : ℕ → Bool
is_printed b = nat_le 33 b && nat_le b 126

-- so is each byte of a line between two places
abbrev pub ArePrinted : List ℕ → ℕ → ℕ → Type 0
ArePrinted line from to = (k : ℕ) → from ≤ k → k < to → is_printed (slice_index_or line k 0) ≡ true

abbrev pub is_text : List ℕ → Bool
is_text line = list_all is_text_byte line

abbrev pub is_word : List ℕ → Bool
is_word piece = not (nat_eq (length piece) 0)

-- a piece with no blank as words: it is one, unless it is empty
abbrev pub word_alone : List ℕ → List (List ℕ)
word_alone piece = filter is_word (piece ∷ [])

-- what stands between blanks
abbrev pub words_of : List ℕ → List (List ℕ)
words_of line = filter is_word (slice_split is_blank line)

-- each of these words is text
abbrev pub AreText : List (List ℕ) → Type 0
AreText words = list_all is_text words ≡ true

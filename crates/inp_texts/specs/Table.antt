-- Words that stand for something.
use Rattle.std.specs.Prelude.{if◌then◌else◌, List, [], ◌∷◌, ℕ, map, Option, Some, None, bytes_eq}
use Rattle.std.specs.Borrow.{Bor}

module _ {T : Type 0} where
  -- what the first row with this word says
  abbrev pub named : List (List ℕ × T) → List ℕ → Option T
  named [] word = None
  named (row ∷ rows) word = if bytes_eq row.0 word then Some row.1 else named rows word

  -- the rows of a table as lists
  abbrev pub rows_of : List (Bor (List ℕ) × T) → List (List ℕ × T)
  rows_of rows = map (λ row. (row.0.now, row.1)) rows

-- Names laid out so that a number is the index of its name.
use Rattle.std.specs.Prelude.{ℕ, zero, suc, ◌+◌, ◌-◌, List, [], ◌∷◌, ◌++◌, map, replicate, Option, Some, None}
use Rattle.std.specs.Borrow.{Bor}
use Rattle.inp_codes.specs.Table.{NamedNumber}

-- the texts that references point to
abbrev pub texts : List (Bor (List ℕ)) → List (List ℕ)
texts names = map (λ name. name.now) names

-- the names of entries whose numbers rise, from the number `first` on; an empty text stands for each number
-- that has no name
unfoldable pub names_from : ℕ → List (NamedNumber ℕ) → List (List ℕ)
names_from first [] = []
names_from first (e ∷ es) = replicate (e.0 - first) [] ++ e.1 ∷ names_from (e.0 + 1) es

-- the same from 0 on, so that each name's index is its number
abbrev pub names_by_number : List (NamedNumber ℕ) → List (List ℕ)
names_by_number = names_from 0

-- a text, unless it is empty
abbrev pub unless_empty : List ℕ → Option (List ℕ)
unless_empty [] = None
unless_empty (b ∷ bs) = Some (b ∷ bs)

-- the name at an index, if one stands there
unfoldable pub name_at : List (List ℕ) → ℕ → Option (List ℕ)
name_at [] i = None
name_at (t ∷ ts) zero = unless_empty t
name_at (t ∷ ts) (suc i) = name_at ts i

-- Rows with a name before its number.
use Rattle.std.specs.Prelude.{◌≡◌, ℕ, ◌<◌, List, length, map, get_or, Some}
use Rattle.std.specs.Borrow.{Bor}
use Rattle.inp_codes.specs.Table.{NamedNumber, number_in}

module _ {N : Type 0} where
  -- the entries that rows have
  abbrev pub row_entries : List (Bor (List ℕ) × N) → List (NamedNumber N)
  row_entries rows = map (λ row. (row.1, row.0.now)) rows

  -- each row has the number that the rows give its name
  pub record GiveOwnNumbers (rows : List (Bor (List ℕ) × N)) : Type 0 where
    pub own : (k : ℕ) (d : Bor (List ℕ) × N) → k < length rows → number_in (row_entries rows) (get_or rows k d).0.now ≡ Some (get_or rows k d).1

  -- the rows give each name the number that the entries give it
  pub record AreRowsOf (rows : List (Bor (List ℕ) × N)) (entries : List (NamedNumber N)) : Type 0 where
    pub numbers : (name : List ℕ) → number_in (row_entries rows) name ≡ number_in entries name

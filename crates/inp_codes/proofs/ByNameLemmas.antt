-- What rows give a name.
use Rattle.std.proofs.Common.{◌≡◌, ◌∙◌, sym, ap, ℕ, ◌<◌, Bool, true, List, length, get_or, Some, arith}
use Rattle.std.specs.Borrow.{Bor}
use Rattle.std.specs.Str.{bytes_eq}
use Rattle.std.proofs.lemmas.List.{get_or-map, length-map}
use Rattle.std.proofs.lemmas.Slice.Eq.{bytes_eq-Decides}
use Rattle.inp_codes.specs.Table.{NamedNumber, number_in}
use Rattle.inp_codes.specs.ByName.{row_entries, GiveOwnNumbers, AreRowsOf}
use Rattle.inp_codes.proofs.TableLemmas.{numbers_found, number_in-same, number_in-Contains}

module _ {N : Type 0} where
  -- a row that has the name gives its number
  pub own_number : (rows : List (Bor (List ℕ) × N)) (name : List ℕ) (place : ℕ) (d : Bor (List ℕ) × N)
      → GiveOwnNumbers rows → place < length rows → bytes_eq (get_or rows place d).0.now name ≡ true
      → number_in (row_entries rows) name ≡ Some (get_or rows place d).1
  own_number rows name place d gives within here =
      ap (number_in (row_entries rows)) (sym ((bytes_eq-Decides (get_or rows place d).0.now name).0 here))
      ∙ gives.own place d within

  module _ (same : N → N → Bool) (same_is : (a b : N) → same a b ≡ true → a ≡ b)
      (rows : List (Bor (List ℕ) × N)) where
    -- rows that find themselves give their own numbers
    pub GiveOwnNumbers-tested : numbers_found same (row_entries rows) (row_entries rows) ≡ true
        → GiveOwnNumbers rows
    GiveOwnNumbers-tested found = record {
      own = λ k d within.
          let row = get_or rows k d in
          let entry : Bor (List ℕ) × N → NamedNumber N = λ r. (r.1, r.0.now) in
          let at = get_or-map entry rows k d (row.1, row.0.now) within in
          let there : k < length (row_entries rows) = omega (arith, length-map rows entry) in
          number_in-Contains same same_is (row_entries rows) (row_entries rows) found row.1 row.0.now
          (k, there, at);
    }

    -- rows and entries that find each other give each name one number
    pub AreRowsOf-tested : (entries : List (NamedNumber N))
        → numbers_found same entries (row_entries rows) ≡ true
        → numbers_found same (row_entries rows) entries ≡ true → AreRowsOf rows entries
    AreRowsOf-tested entries there back =
        record { numbers = number_in-same same same_is (row_entries rows) entries there back }

-- Slots without a contact, one behind the other.
use Rattle.std.proofs.Common.{◌≡◌, ℕ, zero, suc, ◌+◌, ◌*◌, ℤ, List, [], ◌++◌, length, refl, sym, ap, arith}
use Rattle.std.proofs.Common.{append_assoc, length-append, add-one}
use Rattle.std.specs.List.{range_with_len, flat_map}
use Rattle.std.proofs.lemmas.List.{append-nil}
use Rattle.inp_recon.specs.Cells.{first_row, first_cells}

-- the same row for each index, however the indices are counted: one more row stands at the end
rows-more : (row : List ℤ) (a n : ℕ)
    → flat_map (λ slot. row) (range_with_len a (suc n)) ≡ flat_map (λ slot. row) (range_with_len a n) ++ row
rows-more row a zero = append-nil row
rows-more row a (suc n) =
    rw (rows-more row (a + 1) n)
    (sym (append_assoc row (flat_map (λ slot. row) (range_with_len (a + 1) n)) row))

-- one slot more
pub first_cells-more : (n : ℕ) → first_cells (n + 1) ≡ first_cells n ++ first_row
unfolding first_cells
first_cells-more n = rw add-one (rows-more first_row 0 n)

pub first_cells-none : first_cells 0 ≡ []
unfolding first_cells
first_cells-none = refl

-- fourteen values a slot
pub length-first_cells : (n : ℕ) → length (first_cells n) ≡ 14 * n
length-first_cells zero = ap length first_cells-none
length-first_cells (suc n) =
    let more : length (first_cells (n + 1)) ≡ length (first_cells n ++ first_row) =
    ap length (first_cells-more n) in
    rw (← add-one, more, length-append) (omega (arith, length-first_cells n))

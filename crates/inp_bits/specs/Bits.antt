-- A list of truth values, and the indices at which it is true.
use Rattle.std.specs.Prelude.{◌==◌, ℕ, Bool, true, false, not, List, length, map, slice_index_or}
use Rattle.std.specs.Int.{bit_at}
use Rattle.std.specs.List.{filter, range_with_len}

-- value i of the list, and false past the list's end
abbrev pub is_on_at : List Bool → ℕ → Bool
is_on_at bits i = slice_index_or bits i false

-- the binary digits of a word of 64 bits, the lowest first
unfoldable pub word_bits : ℕ → List Bool
word_bits word = map (λ k. bit_at word k == 1) (range_with_len 0 64)

-- the indices at which the list is true, ascending
unfoldable pub true_indices : List Bool → List ℕ
true_indices bits = filter (is_on_at bits) (range_with_len 0 (length bits))

-- two values differ
abbrev pub bits_differ : Bool → Bool → Bool
bits_differ true y = not y
bits_differ false y = y

-- the indices at which two lists of one length differ, ascending
unfoldable pub differing_indices : List Bool → List Bool → List ℕ
differing_indices xs ys = filter (λ i. bits_differ (is_on_at xs i) (is_on_at ys i)) (range_with_len 0 (length xs))

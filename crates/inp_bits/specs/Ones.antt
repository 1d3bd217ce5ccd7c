-- How an iterator keeps the indices that are left: as a list that is true at just these.
use Rattle.std.specs.Prelude.{◌≡◌, ℕ, ◌<◌, ◌≤◌, Bool, true, false, List, length}
use Rattle.inp_bits.specs.Bits.{is_on_at}

-- a list of this length has no true value before `start`
pub record IsFalseBelow (long start : ℕ) (bits : List Bool) : Type 0 where
  pub len : length bits ≡ long
  pub before : (k : ℕ) → k < start → is_on_at bits k ≡ false

-- the first true value from `start` on stands at i
pub record IsFirstTrue (bits : List Bool) (start i : ℕ) : Type 0 where
  pub from : start ≤ i
  pub within : i < length bits
  pub is_true : is_on_at bits i ≡ true
  pub before : (k : ℕ) → start ≤ k → k < i → is_on_at bits k ≡ false

-- What a contract sees of a ring, alone and with the store that its numbers name.
use Rattle.std.specs.Prelude.{◌≡◌, ◌≤◌, ◌<◌, ◌+◌, ◌⊎◌, ℕ, Bool, if◌then◌else◌, nat_eq, List, [], ◌∷◌, ◌++◌, length, map, All, Option, None, Some}
use Rattle.circular_buffer.specs.Buffer.{Buffer}
use Rattle.inp_model.specs.declared.stamped.TheConstants.{MOMENT_MAX}
use Rattle.inp_model.specs.Event.{syn_dropped}
use Rattle.inp_ring.specs.declared.cell.Cell.{Cell}
use Rattle.inp_ring.specs.Store.{StoreView, held_under, cell_in, holders, cell_count, IsIdle}

-- the places of a ring, and the numbers of its cells, oldest first
pub record RingView : Type 0 where
  pub places : ℕ
  pub numbers : List ℕ

-- a ring, by the buffer that it lies in
abbrev pub ring_in : Buffer ℕ → RingView
ring_in buffer = record { places = buffer.capacity; numbers = buffer.items }

-- how often a number is in a list
abbrev pub times : ℕ → List ℕ → ℕ
times n [] = 0
times n (m ∷ q) = (if nat_eq m n then 1 else 0) + times n q

-- each number has a cell with at least one holder
abbrev pub AreHeld : StoreView → List ℕ → Type 0
AreHeld s q = (n : ℕ) → times n q ≤ holders s n

-- no number is there twice
abbrev pub AreDifferent : List ℕ → Type 0
AreDifferent q = (n : ℕ) → times n q ≤ 1

-- what holds of every ring: it has 64 to 4,096 places, one more at least than it has numbers
pub record IsRing (ring : RingView) : Type 0 where
  pub least : 64 ≤ ring.places
  pub most : ring.places ≤ 4096
  pub room : length ring.numbers < ring.places
  pub different : AreDifferent ring.numbers

-- all places of the ring are held but one
abbrev pub HoldsAllButOne : RingView → Type 0
HoldsAllButOne ring = length ring.numbers + 1 ≡ ring.places

-- Where a number is put, nothing enters the ring but the number itself, after all that was there.
abbrev pub EntersAlone : ℕ → List ℕ → List ℕ → Type 0
EntersAlone number old new = (new ≡ old) ⊎ (new ≡ old ++ number ∷ [])

-- The queue of a full ring was lost: SYN_DROPPED stands in its place, in a cell that no other ring holds, and
-- after it these numbers.
pub record IsLost (behind : List ℕ) (store : StoreView) (old new : RingView) : Type 0 where
  pub full : HoldsAllButOne old
  pub loss : ℕ
  pub alone : holders store loss ≡ 1
  pub numbers : new.numbers ≡ loss ∷ behind

-- no other ring holds a cell of these
abbrev pub AreHeldAlone : StoreView → List ℕ → Type 0
AreHeldAlone s q = All (λ n. holders s n ≡ 1) q

-- the cell of a slot, and any where it is empty
abbrev pub some_cell : Option Cell → Cell
some_cell None = record { event = syn_dropped; now = 0; place = 0 }
some_cell (Some cell) = cell

-- the cell under a number, and any cell where no cell has the number
abbrev pub cell_at : StoreView → ℕ → Cell
cell_at s number = some_cell (cell_in s number)

-- the queue of cells that a list of numbers is
abbrev pub queue_in : StoreView → List ℕ → List Cell
queue_in s q = map (cell_at s) q

-- each cell has a moment that a clock can be ahead of
abbrev pub AreFit : List Cell → Type 0
AreFit cells = All (λ cell. cell.now ≤ MOMENT_MAX) cells

-- How a store changes where a ring goes from some numbers to others. Each number that leaves has one holder
-- less, and its cell goes with the last one. Each number that comes has one holder more. A number may leave
-- with its cell, and come again with another.
pub record IsMoved (old new : StoreView) (from to : List ℕ) : Type 0 where
  pub held : (n : ℕ) → holders new n + times n from ≡ holders old n + times n to
  -- a cell that another ring holds stays
  pub kept : (n : ℕ) → times n from < holders old n → cell_in new n ≡ cell_in old n
  -- no cell is left without a holder that had one
  pub idle : (n : ℕ) → IsIdle new n → IsIdle old n
  -- a cell without holders stays, unless it comes
  pub rest : (n : ℕ) → IsIdle old n → times n to ≡ 0 → held_under new n ≡ held_under old n
  pub room : cell_count old + old.spare ≤ cell_count new + new.spare

-- The same where numbers leave and none comes: those that stay keep their cells, and no less is spare.
pub record IsTakenOut (old new : StoreView) (from to : List ℕ) : Type 0 where
  pub moved : IsMoved old new from to
  pub fewer : (n : ℕ) → times n to ≤ times n from
  pub spare : old.spare ≤ new.spare
  pub stay : (n : ℕ) → 1 ≤ times n to → cell_in new n ≡ cell_in old n

-- A number was put at the end of a ring, or left out, and was given no holder. `before` is what stands before it.
pub record IsPutAtEnd (old new : StoreView) (from to : List ℕ) (number : ℕ) (is_in : Bool) : Type 0 where
  pub before : List ℕ
  pub moved : IsMoved old new from before
  pub entered : to ≡ (if is_in then before ++ number ∷ [] else before)
  -- its own entry stays
  pub same : held_under new number ≡ held_under old number

-- What a contract sees of a store: a finite map from numbers to cells and their holders, and what is spare.
use Rattle.std.specs.Prelude.{◌≡◌, ◌≢◌, ℕ, ◌+◌, ◌-◌, ◌^◌, ◌<◌, ◌≤◌, if◌then◌else◌, nat_eq, List, Option, Some, None, is_some, IsSome, count_by, slice_index_or}
use Rattle.slab.specs.Slab.{Slab, slab_len}
use Rattle.inp_model.specs.declared.event.Event.{Event}
use Rattle.inp_model.specs.declared.taken.Taken.{Taken}
use Rattle.inp_model.specs.Event.{syn_dropped}
use Rattle.inp_ring.specs.declared.cell.Cell.{Cell}
use Rattle.inp_ring.specs.declared.cell.Held.{Held}

-- at each number a cell with its holders, or nothing; and how many more cells fit without memory
pub record StoreView : Type 0 where
  pub slots : List (Option Held)
  pub spare : ℕ

-- a store, by the slab that it lies in
abbrev pub store_in : Slab Held → StoreView
store_in slab = record { slots = slab.slots; spare = slab.capacity - slab_len slab }

-- what holds of the slab of every store: it has no more places than there are numbers
pub record IsNumbered (slab : Slab Held) : Type 0 where
  pub within : slab_len slab ≤ slab.capacity
  pub numbered : slab.capacity < 2 ^ 32

-- how many rings hold a cell, 0 where no cell is given
abbrev pub holders_of : Option Held → ℕ
holders_of None = 0
holders_of (Some h) = h.holders

abbrev pub held_cell : Option Held → Option Cell
held_cell None = None
held_cell (Some h) = Some h.cell

-- a cell that no ring holds
abbrev pub IsIdleSlot : Option Held → Type 0
IsIdleSlot None = ⊥
IsIdleSlot (Some h) = h.holders ≡ 0

-- what is under a number
abbrev pub held_under : StoreView → ℕ → Option Held
held_under s number = slice_index_or s.slots number None

abbrev pub cell_in : StoreView → ℕ → Option Cell
cell_in s number = held_cell (held_under s number)

-- how many rings hold the cell under a number, 0 where no cell has it
abbrev pub holders : StoreView → ℕ → ℕ
holders s number = holders_of (held_under s number)

-- there is a cell under the number
abbrev pub HasCell : StoreView → ℕ → Type 0
HasCell s number = IsSome (held_under s number)

-- there is a cell under the number that no ring holds
abbrev pub IsIdle : StoreView → ℕ → Type 0
IsIdle s number = IsIdleSlot (held_under s number)

-- how many cells there are
abbrev pub cell_count : StoreView → ℕ
cell_count s = count_by is_some s.slots

-- what is under a number once so many rings more hold it
abbrev pub held_more : ℕ → Option Held → Option Held
held_more count None = None
held_more count (Some h) = Some (record h { holders = h.holders + count })

-- what is under a number once one ring less holds it: the last holder takes the cell along
abbrev pub held_less : Option Held → Option Held
held_less None = None
held_less (Some h) = if nat_eq h.holders 1 then None else Some (record h { holders = h.holders - 1 })

-- a cell with so many holders
abbrev pub held_by : ℕ → Cell → Option Held
held_by count cell = Some (record { cell = cell; holders = count })

-- this is under the number now, and all else is as before
pub record IsPut (old new : StoreView) (number : ℕ) (slot : Option Held) : Type 0 where
  pub changed : held_under new number ≡ slot
  pub others : (other : ℕ) → other ≢ number → held_under new other ≡ held_under old other

-- the event in a cell
abbrev pub event_of_cell : Cell → Event
event_of_cell cell = cell.event

-- SYN_DROPPED in the place of what was lost, at the moment and place of the event that did not fit
abbrev pub dropped_cell : Cell → Cell
dropped_cell cell = record cell { event = syn_dropped }

-- a cell as it is read on a clock that is so far ahead
abbrev pub cell_taken : ℕ → Cell → Taken
cell_taken offset cell = record { event = cell.event; time = cell.now + offset; place = cell.place }

-- A client as it is kept: its ring has numbers of cells, and a store has the cells.
use Rattle.std.specs.Prelude.{◌≡◌, ◌≤◌, ◌+◌, ◌&&◌, if◌then◌else◌, ℕ, List, map, flat_map, sum_by, All, Option}
use Rattle.inp_model.specs.Queue.{put}
use Rattle.inp_ring.specs.declared.cell.Cell.{Cell}
use Rattle.inp_ring.specs.Store.{StoreView, holders, cell_count, event_of_cell, dropped_cell}
use Rattle.inp_ring.specs.Ring.{RingView, times, cell_at, AreFit, IsRing, IsMoved}
use Rattle.inp_client.specs.Masks.{admits_of}
use Rattle.inp_client.specs.Clients.{ClientsView}
use Rattle.inp_client.specs.Client.{Queued, ClientView, with_events, is_offered_to, map_events}

-- a client whose events are numbers of cells
abbrev pub Member : Type 0
Member = ClientView ℕ

-- its ring
abbrev pub ring_of : Member → RingView
ring_of m = record { places = m.ring.places; numbers = m.ring.events }

-- what a ring is among the parts of a client
abbrev pub queue_of : RingView → Queued ℕ
queue_of r = record { places = r.places; events = r.numbers }

-- the client, with the cells of a store
abbrev pub client_in : StoreView → Member → ClientView Cell
client_in s m = map_events (cell_at s) m

abbrev pub cells_in : StoreView → List Member → List (ClientView Cell)
cells_in s ms = map (client_in s) ms

-- the same with the numbers of their rings
abbrev pub clients_view_in : StoreView → List Member → ClientsView
clients_view_in s ms = record { list = cells_in s ms; rings = map (λ m. m.ring.events) ms }

-- the numbers of all their rings
abbrev pub numbers_in : List Member → List ℕ
numbers_in ms = flat_map (λ m. m.ring.events) ms

-- how many rings have a number, where each has it at most once
abbrev pub times_in : ℕ → List Member → ℕ
times_in n ms = sum_by (λ m. times n m.ring.events) ms

-- so many cells are there or spare: for each ring one more than it has places
abbrev pub wanted : List Member → ℕ
wanted ms = sum_by (λ m. m.ring.places + 1) ms

-- A store has the cells of these clients: each with as many holders as there are rings with its number, less those that
-- it is owed still.
pub record AreStored (s : StoreView) (ms : List Member) (owed : ℕ → ℕ) : Type 0 where
  pub held : (n : ℕ) → holders s n + owed n ≡ times_in n ms
  pub rings : All (λ m. IsRing (ring_of m)) ms
  pub timed : All (λ m. AreFit (map (cell_at s) m.ring.events)) ms
  pub room : wanted ms ≤ cell_count s + s.spare

-- A call on one client left this of it and of the store.
pub record IsMemberChanged (s after : StoreView) (old new : Member) (change : ClientView Cell → ClientView Cell) : Type 0 where
  pub number : new.number ≡ old.number
  pub places : new.ring.places ≡ old.ring.places
  pub sound : IsRing (ring_of old) → IsRing (ring_of new)
  pub moved : IsMoved s after old.ring.events new.ring.events
  pub changed : client_in after new ≡ change (client_in s old)

-- a cell with an event of a frame was offered, while a client may have held the grab
abbrev pub after_event : Cell → Option ℕ → ClientView Cell → ClientView Cell
after_event cell holder c =
    if is_offered_to holder c && admits_of c.masks cell.event
    then with_events (put event_of_cell dropped_cell c.ring.places c.ring.events cell) c
    else c

-- A frame is offered event by event: a cell for each, whose number comes into one ring after the other. A
-- short frame that each of its clients admits whole, with room for it, may go in one run (`FitsInOneRun`).
-- First comes a cell for each event, and then all their numbers enter each ring.
use Rattle.std.specs.Prelude.{◌≡◌, ◌≤◌, ◌<◌, ◌+◌, ◌&&◌, ◌++◌, ℕ, Bool, true, not, if◌then◌else◌, nat_eq, nat_lt, List, [], ◌∷◌, length, map, count_by, get_or, All, Option}
use Rattle.slab.specs.Slab.{Slab}
use Rattle.inp_ring.specs.declared.cell.Cell.{Cell}
use Rattle.inp_ring.specs.Store.{StoreView, held_under, held_by, IsIdle}
use Rattle.inp_ring.specs.Ring.{times, cell_at}
use Rattle.inp_client.specs.declared.frame.Frame.{Frame}
use Rattle.inp_client.specs.declared.location.Location.{Location}
use Rattle.inp_model.specs.declared.event.Event.{Event}
use Rattle.inp_model.specs.Event.{is_report}
use Rattle.inp_client.specs.Masks.{full_masks}
use Rattle.inp_client.specs.Client.{ClientView, new_client, with_events, is_offered_to, after_offer}
use Rattle.inp_client.specs.Member.{Member, client_in, cells_in, clients_view_in, times_in, wanted, after_event, AreStored}
use Rattle.inp_client.specs.Clients.{ClientsView}
use Rattle.inp_client.specs.Numbers.{loses_event, ring_after, event_under, IsEventStored, IsStoredOnce}
use Rattle.inp_client.specs.Locations.{clients_in, AreLocated}

-- a client that was offered it
abbrev pub after_frame : Frame → ClientView Cell → ClientView Cell
after_frame f c = after_offer f.events.now f.moment f.place f.holder c

-- clients in their locations, whose cells and no other are in a store
pub record AreShared (locations : List Location) (slab : Slab Member) (store : StoreView) : Type 0 where
  pub located : AreLocated locations slab
  pub stored : AreStored store (clients_in locations slab) (λ n. 0)
  pub none_idle : (n : ℕ) → IsIdle store n → ⊥

-- No report of a frame follows a report; where one is after the frame, none stands first.
abbrev pub are_reports_apart : Bool → List Event → Bool
are_reports_apart behind [] = true
are_reports_apart behind (e ∷ frame) = not (is_report e && behind) && are_reports_apart (is_report e) frame

-- a client that is offered a frame of so many events admits them all, and has room for them
abbrev pub TakesFrame : Option ℕ → ℕ → Member → Type 0
TakesFrame holder count m =
    is_offered_to holder m ≡ true → (m.masks ≡ full_masks) × (length m.ring.events + count < m.ring.places)

-- how many clients a frame is offered to
abbrev pub takers_in : Option ℕ → List Member → ℕ
takers_in holder ms = count_by (is_offered_to holder) ms

-- A frame can be put in one run into the rings of the clients that it is offered to, which are so many.
pub record FitsInOneRun (locations : List Location) (slab : Slab Member) (store : StoreView) (f : Frame) (takers : ℕ) : Type 0 where
  pub short : length f.events.now ≤ 64
  pub spare : length f.events.now ≤ store.spare
  pub apart : are_reports_apart true f.events.now ≡ true
  pub some : 0 < takers
  pub takers_are : takers ≡ takers_in f.holder (clients_in locations slab)
  pub all : All (TakesFrame f.holder (length f.events.now)) (clients_in locations slab)

-- a client whose ring has the numbers of a frame's cells, where it was offered the frame
abbrev pub with_run : Option ℕ → List ℕ → Member → Member
with_run holder numbers m = if is_offered_to holder m then with_events (m.ring.events ++ numbers) m else m

-- so many holders are owed to one number
abbrev pub owing : ℕ → ℕ → ℕ → ℕ
owing number count n = if nat_eq n number then count else 0

-- the client in the location at an index
abbrev pub member_at : List Location → Slab Member → ℕ → Member
member_at locations slab i = get_or (clients_in locations slab) i (new_client 0 0)

-- the client in the location at an index, with the cells of a store
abbrev pub seen_at : StoreView → List Location → Slab Member → ℕ → ClientView Cell
seen_at s locations slab i = client_in s (member_at locations slab i)

-- the numbers of its ring
abbrev pub ring_at : List Location → Slab Member → ℕ → List ℕ
ring_at locations slab i = (member_at locations slab i).ring.events

-- the clients in their locations, with the cells of a store, and the numbers of their rings
abbrev pub clients_view_of : StoreView → List Location → Slab Member → ClientsView
clients_view_of s locations slab = clients_view_in s (clients_in locations slab)

-- The number of a cell was put into the rings of the first `count` clients, so far as they take it. `taken`
-- of them have it, and it is owed as many holders. The others are as before.
pub record IsEnteredTo (count : ℕ) (cell : Cell) (holder : Option ℕ) (number : ℕ) (locations : List Location) (before slab : Slab Member) (first store : StoreView) (taken : ℕ) : Type 0 where
  pub located : AreLocated locations slab
  pub stored : AreStored store (clients_in locations slab) (owing number taken)
  pub idle : (n : ℕ) → IsIdle store n → n ≡ number
  pub begun : cell_at first number ≡ cell
  pub same : held_under store number ≡ held_by 0 cell
  pub changed : (j : ℕ) → j < length locations → client_in store (member_at locations slab j)
      ≡ (if nat_lt j count then after_event cell holder (client_in first (member_at locations before j)) else client_in first (member_at locations before j))
  pub absent : (j : ℕ) → count ≤ j → j < length locations → times number (member_at locations slab j).ring.events ≡ 0
  pub few : taken ≤ count
  -- the numbers of their rings, and those of SYN_DROPPED, each of which stands in one ring
  pub losses : ℕ → ℕ
  pub numbered : (j : ℕ) → j < count → j < length locations
      → ring_at locations slab j ≡ ring_after (event_under first) cell holder number (losses j) (seen_at first locations before j) (ring_at locations before j)
  pub alone : (j : ℕ) → j < count → j < length locations → loses_event cell holder (seen_at first locations before j) ≡ true
      → times_in (losses j) (clients_in locations slab) ≡ 1
  pub rest : (j : ℕ) → count ≤ j → j < length locations → ring_at locations slab j ≡ ring_at locations before j
  pub wanted : wanted (clients_in locations slab) ≡ wanted (clients_in locations before)
  pub capacity : slab.capacity ≡ before.capacity

-- One event was offered to clients, whose cells were in a store: it has one number, whoever takes it.
pub record IsEventOffered (cell : Cell) (holder : Option ℕ) (locations : List Location) (before slab : Slab Member) (first store : StoreView) : Type 0 where
  pub shared : AreShared locations slab store
  pub clients : cells_in store (clients_in locations slab) ≡ map (after_event cell holder) (cells_in first (clients_in locations before))
  pub once : IsEventStored cell holder (clients_view_of first locations before) (clients_view_of store locations slab)
  pub wanted : wanted (clients_in locations slab) ≡ wanted (clients_in locations before)
  pub capacity : slab.capacity ≡ before.capacity

-- A frame was: each of its events has one number, whoever takes it.
pub record IsOffered (f : Frame) (locations : List Location) (before slab : Slab Member) (first store : StoreView) : Type 0 where
  pub shared : AreShared locations slab store
  pub clients : cells_in store (clients_in locations slab) ≡ map (after_frame f) (cells_in first (clients_in locations before))
  pub once : IsStoredOnce f.events.now f.moment f.place f.holder (clients_view_of first locations before) (clients_view_of store locations slab)
  pub wanted : wanted (clients_in locations slab) ≡ wanted (clients_in locations before)
  pub capacity : slab.capacity ≡ before.capacity

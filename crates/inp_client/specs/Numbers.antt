-- Which cells clients share, by the numbers of their rings: a cell that several rings hold has one number.
use Rattle.std.specs.Prelude.{◌≡◌, ◌<◌, ◌&&◌, ◌||◌, not, ℕ, Bool, true, false, if◌then◌else◌, nat_lt, suc, List, [], ◌∷◌, length, map, flat_map, get_or, Option}
use Rattle.std.specs.List.{remove}
use Rattle.inp_model.specs.declared.event.Event.{Event}
use Rattle.inp_model.specs.declared.clock.Clock.{Clock}
use Rattle.inp_model.specs.Event.{is_report}
use Rattle.inp_model.specs.Step.{Query, is_part_of}
use Rattle.inp_model.specs.Queue.{is_empty, ends_in_report, put, flush, is_same_clock, clock_changed}
use Rattle.inp_ring.specs.declared.cell.Cell.{Cell}
use Rattle.inp_ring.specs.Store.{StoreView, holders, event_of_cell}
use Rattle.inp_ring.specs.Ring.{times, cell_at}
use Rattle.inp_client.specs.Masks.{admits_of}
use Rattle.inp_client.specs.Client.{ClientView, new_client, is_offered_to, cell_of_event}
use Rattle.inp_client.specs.Clients.{ClientsView, has_number, distinct}
use Rattle.inp_client.specs.Member.{Member, client_in, after_event}

-- the numbers of all rings, so that a cell's stands there as often as rings hold it
abbrev pub held_numbers : ClientsView → List ℕ
held_numbers clients = flat_map (λ q. q) clients.rings

-- how many cells are kept: as many as there are different numbers
abbrev pub stored_of : ClientsView → ℕ
stored_of clients = length (distinct (held_numbers clients))

-- the places in the history of all queued events, each once: events of different steps are different cells
abbrev pub held_places : List (ClientView Cell) → List ℕ
held_places clients = distinct (flat_map (λ c. map (λ cell. cell.place) c.ring.events) clients)

-- a client is offered an event, and admits it
abbrev pub takes_event : Cell → Option ℕ → ClientView Cell → Bool
takes_event cell holder c = is_offered_to holder c && admits_of c.masks cell.event

-- It loses its queue by it: the event is no report that is left out, and only one place is left.
abbrev pub loses_event : Cell → Option ℕ → ClientView Cell → Bool
loses_event cell holder c =
    takes_event cell holder c
    && not (is_report cell.event && (is_empty c.ring.events || ends_in_report event_of_cell c.ring.events))
    && not (nat_lt (suc (length c.ring.events)) c.ring.places)

-- it loses its queue by a frame: by one of the frame's events
abbrev pub loses : List Event → ℕ → ℕ → Option ℕ → ClientView Cell → Bool
loses [] now place holder c = false
loses (e ∷ frame) now place holder c =
    loses_event (cell_of_event now place e) holder c || loses frame now place holder (after_event (cell_of_event now place e) holder c)

-- The numbers of a client's ring once an event was offered, where it is known which event each number stands for. A
-- client that takes it has its number behind the others. Where the queue is lost, the number `loss` stands in its
-- place, which is that of SYN_DROPPED.
abbrev pub ring_after : (ℕ → Event) → Cell → Option ℕ → ℕ → ℕ → ClientView Cell → List ℕ → List ℕ
ring_after event cell holder number loss c ring =
    if takes_event cell holder c then put event (λ n. loss) c.ring.places ring number else ring

-- the client at an index, and its ring
abbrev pub client_of_index : ClientsView → ℕ → ClientView Cell
client_of_index clients i = get_or clients.list i (new_client 0 0)

abbrev pub ring_of_index : ClientsView → ℕ → List ℕ
ring_of_index clients i = get_or clients.rings i []

-- each client has its ring
abbrev pub HaveRings : ClientsView → Type 0
HaveRings clients = length clients.rings ≡ length clients.list

-- One event was offered, and is stored once: it has one number, whoever takes it.
pub record IsEventStored (cell : Cell) (holder : Option ℕ) (old new : ClientsView) : Type 0 where
  pub clients : new.list ≡ map (after_event cell holder) old.list
  pub rings : HaveRings old × HaveRings new
  -- the event that each number stands for: a ring is its numbers with their events, which are those of the queue
  pub event : ℕ → Event
  pub told : (i : ℕ) → i < length old.list → map event (ring_of_index old i) ≡ map event_of_cell (client_of_index old i).ring.events
  -- the number of the event, which no ring had
  pub number : ℕ
  pub same : event number ≡ cell.event
  pub fresh : times number (held_numbers old) ≡ 0
  -- The number of the SYN_DROPPED of the client at an index. Where the client loses its queue, that number
  -- stands there alone: no other ring has it, and it is not the event's.
  pub losses : ℕ → ℕ
  pub alone : (i : ℕ) → i < length old.list → loses_event cell holder (client_of_index old i) ≡ true → times (losses i) (held_numbers new) ≡ 1
  pub each : (i : ℕ) → i < length old.list
      → ring_of_index new i ≡ ring_after event cell holder number (losses i) (client_of_index old i) (ring_of_index old i)

-- A frame was offered, one event after the other. Each of them has one number, whoever takes it, and no ring has
-- it when the event comes. So the numbers that rings have in the end are different for different events and
-- losses, and none of the frame's is one that stayed.
abbrev pub IsStoredOnce : List Event → ℕ → ℕ → Option ℕ → ClientsView → ClientsView → Type 0
IsStoredOnce [] now place holder old new = HaveRings old × (new ≡ old)
IsStoredOnce (e ∷ frame) now place holder old new =
    (mid : ClientsView) × IsEventStored (cell_of_event now place e) holder old mid × IsStoredOnce frame now place holder mid new

-- a client loses its queue by the choice of a clock: by another one than before, and where the queue is not empty
abbrev pub loses_to_clock : Clock → ClientView Cell → Bool
loses_to_clock clock c = not (is_same_clock c.clock clock) && not (is_empty c.ring.events)

-- the client with this number does
abbrev pub is_lost_to_clock : ℕ → Clock → ClientView Cell → Bool
is_lost_to_clock number clock c = has_number number c && loses_to_clock clock c

-- A clock was chosen for the client with a number. The other rings stay as they are.
pub record IsClockStored (number : ℕ) (clock : Clock) (old new : ClientsView) : Type 0 where
  pub rings : HaveRings old × HaveRings new
  -- the number of the client's SYN_DROPPED, where it loses its queue: it stands nowhere else
  pub loss : ℕ
  pub alone : (i : ℕ) → i < length old.list → is_lost_to_clock number clock (client_of_index old i) ≡ true → times loss (held_numbers new) ≡ 1
  pub each : (i : ℕ) → i < length old.list
      → let c = client_of_index old i in
      ring_of_index new i ≡ (if has_number number c then clock_changed (is_same_clock c.clock clock) loss (ring_of_index old i) else ring_of_index old i)

-- A call made something else of the ring of the client with a number. The other rings stay as they are.
pub record IsRingChanged (number : ℕ) (change : List ℕ → List ℕ) (old new : ClientsView) : Type 0 where
  pub rings : HaveRings old × (length new.rings ≡ length old.rings)
  pub each : (i : ℕ) → i < length old.list
      → ring_of_index new i ≡ (if has_number number (client_of_index old i) then change (ring_of_index old i) else ring_of_index old i)

-- What the answer to a query tells whole left that ring: the numbers whose events stay are in it still.
pub record IsRingFlushed (number : ℕ) (query : Query) (old new : ClientsView) : Type 0 where
  -- the event that each number stands for
  pub event : ℕ → Event
  pub told : (i : ℕ) → i < length old.list → map event (ring_of_index old i) ≡ map event_of_cell (client_of_index old i).ring.events
  pub flushed : IsRingChanged number (flush event (is_part_of query)) old new

-- A client with this number went, and its ring with it. The others stay.
pub record IsRingClosed (number : ℕ) (old new : ClientsView) : Type 0 where
  pub index : ℕ
  pub within : index < length old.list
  pub named : has_number number (client_of_index old index) ≡ true
  pub rings : new.rings ≡ remove old.rings index

-- the event under each number of a store
abbrev pub event_under : StoreView → ℕ → Event
event_under s n = event_of_cell (cell_at s n)

-- What one ring has, where the event under a number was offered to its client: a SYN_DROPPED that came has one holder.
pub record IsRingStored (number : ℕ) (holder : Option ℕ) (s after : StoreView) (old new : Member) : Type 0 where
  pub loss : ℕ
  pub ring : new.ring.events ≡ ring_after (event_under s) (cell_at s number) holder number loss (client_in s old) old.ring.events
  pub alone : loses_event (cell_at s number) holder (client_in s old) ≡ true → holders after loss ≡ 1

-- the same where a clock was chosen
pub record IsRingOnClock (is_same : Bool) (after : StoreView) (old new : List ℕ) : Type 0 where
  pub loss : ℕ
  pub ring : new ≡ clock_changed is_same loss old
  pub alone : (not is_same && not (is_empty old)) ≡ true → holders after loss ≡ 1

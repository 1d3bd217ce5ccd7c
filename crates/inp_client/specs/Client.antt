-- An open client, and what each call makes of it.
use Rattle.std.specs.Prelude.{ℕ, Bool, true, false, ◌&&◌, not, if◌then◌else◌, List, [], map, filter, drop, Option}
use Rattle.inp_model.specs.declared.event.Event.{Event}
use Rattle.inp_model.specs.declared.clock.Clock.{Clock}
use Rattle.inp_model.specs.declared.clock.Clock.TheVariants.{Realtime}
use Rattle.inp_model.specs.Event.{syn_dropped}
use Rattle.inp_model.specs.Step.{Query, is_part_of}
use Rattle.inp_model.specs.Past.{is_other}
use Rattle.inp_model.specs.Queue.{put_all, flush, is_same_clock, clock_changed}
use Rattle.inp_ring.specs.declared.cell.Cell.{Cell}
use Rattle.inp_ring.specs.Store.{event_of_cell, dropped_cell}
use Rattle.inp_client.specs.Masks.{MaskView, full_masks, admits_of, masks_after}

-- A queue in so many places, oldest first. Its events may be cells, what is read of them, or only the numbers of cells.
pub record Queued (E : Type 0) : Type 0 where
  pub places : ℕ
  pub events : List E

-- an open client
pub record ClientView (E : Type 0) : Type 0 where
  pub number : ℕ
  -- the events that it was offered and has not read
  pub ring : Queued E
  pub masks : MaskView
  -- the clock by which it reads its events
  pub clock : Clock
  -- whether it lost the device for good
  pub revoked : Bool

module _ {E : Type 0} where
  -- a client that was just opened
  abbrev pub new_client : ℕ → ℕ → ClientView E
  new_client number places = record {
    number = number;
    ring = record { places = places; events = [] };
    masks = full_masks;
    clock = Realtime;
    revoked = false;
  }

  abbrev pub with_events : List E → ClientView E → ClientView E
  with_events events c = record c { ring = record c.ring { events = events } }

  -- a frame is offered to a client that is not revoked, where no other client holds the grab
  abbrev pub is_offered_to : Option ℕ → ClientView E → Bool
  is_offered_to holder c = not c.revoked && not (is_other holder c.number)

  -- so many events were taken from the front
  abbrev pub after_take : ℕ → ClientView E → ClientView E
  after_take count c = with_events (drop count c.ring.events) c

  -- the answer to a query was given, which tells whole what these events tell in part
  abbrev pub after_flush : (E → Event) → Query → ClientView E → ClientView E
  after_flush event query c = with_events (flush event (is_part_of query) c.ring.events) c

  -- a word of the mask that goes by a type was set; what is queued stays
  abbrev pub after_mask : ℕ → ℕ → ℕ → ClientView E → ClientView E
  after_mask kind word bits c = record c { masks = masks_after kind word bits c.masks }

  -- it lost the device for good; what is queued stays
  abbrev pub after_revoke : ClientView E → ClientView E
  after_revoke c = record c { revoked = true }

-- a client whose events are made of those of another, one by one
abbrev pub map_events : {E F : Type 0} → (E → F) → ClientView E → ClientView F
map_events f c = record {
  number = c.number;
  ring = record { places = c.ring.places; events = map f c.ring.events };
  masks = c.masks;
  clock = c.clock;
  revoked = c.revoked;
}

-- an event of a frame that ended at a moment and at a place of the history
abbrev pub cell_of_event : ℕ → ℕ → Event → Cell
cell_of_event now place e = record { event = e; now = now; place = place }

-- the events of a frame that a client admits
abbrev pub admitted_cells : List Event → ℕ → ℕ → ClientView Cell → List Cell
admitted_cells frame now place c = map (cell_of_event now place) (filter (admits_of c.masks) frame)

-- a frame was offered, while a client may have held the grab
abbrev pub after_offer : List Event → ℕ → ℕ → Option ℕ → ClientView Cell → ClientView Cell
after_offer frame now place holder c =
    if is_offered_to holder c
    then with_events (put_all event_of_cell dropped_cell c.ring.places c.ring.events (admitted_cells frame now place c)) c
    else c

-- A clock was chosen, at a moment and at a place of the history. A change to another clock empties a queue and leaves
-- SYN_DROPPED there, but for a queue that is empty.
abbrev pub after_clock : Clock → ℕ → ℕ → ClientView Cell → ClientView Cell
after_clock clock now place c = record c {
  clock = clock;
  ring = record c.ring {
    events = clock_changed (is_same_clock c.clock clock) (cell_of_event now place syn_dropped) c.ring.events;
  };
}

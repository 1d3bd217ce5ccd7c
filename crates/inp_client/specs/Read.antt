-- What clients read: each event on the client's clock. The calls of `Client.antt` say it of the cells that they share.
use Rattle.std.specs.Prelude.{ℕ, ◌+◌, if◌then◌else◌, List, map, filter, Option}
use Rattle.inp_model.specs.declared.event.Event.{Event}
use Rattle.inp_model.specs.declared.taken.Taken.{Taken}
use Rattle.inp_model.specs.declared.clock.Clock.{Clock}
use Rattle.inp_model.specs.Description.{Description, offset}
use Rattle.inp_model.specs.Event.{syn_dropped}
use Rattle.inp_model.specs.Queue.{dropped_at, put_all, is_same_clock, clock_changed}
use Rattle.inp_ring.specs.declared.cell.Cell.{Cell}
use Rattle.inp_ring.specs.Store.{cell_taken}
use Rattle.inp_client.specs.Masks.{admits_of}
use Rattle.inp_client.specs.Client.{ClientView, with_events, is_offered_to, map_events}

-- the event, without its time and place
abbrev pub taken_event : Taken → Event
taken_event t = t.event

-- a client with its queue as it reads it on a device's clocks; all of its queue is on its present clock
abbrev pub client_on : Description → ClientView Cell → ClientView Taken
client_on d c = map_events (cell_taken (offset d c.clock)) c

abbrev pub clients_on : Description → List (ClientView Cell) → List (ClientView Taken)
clients_on d clients = map (client_on d) clients

-- an event as a client reads it
abbrev pub taken_at : ℕ → ℕ → Event → Taken
taken_at time place e = record { event = e; time = time; place = place }

-- the events of a frame that a client admits, timed by its clock
abbrev pub admitted_events : Description → List Event → ℕ → ℕ → ClientView Taken → List Taken
admitted_events d frame now place c = map (taken_at (now + offset d c.clock) place) (filter (admits_of c.masks) frame)

-- a frame was offered, which ended at a moment and at a place of the history, while a client may have held the grab
abbrev pub read_after_offer : Description → List Event → ℕ → ℕ → Option ℕ → ClientView Taken → ClientView Taken
read_after_offer d frame now place holder c =
    if is_offered_to holder c
    then with_events (put_all taken_event dropped_at c.ring.places c.ring.events (admitted_events d frame now place c)) c
    else c

-- A clock was chosen, at a moment and at a place of the history: what is lost is told on the new clock.
abbrev pub read_after_clock : Description → Clock → ℕ → ℕ → ClientView Taken → ClientView Taken
read_after_clock d clock now place c = record c {
  clock = clock;
  ring = record c.ring {
    events = clock_changed (is_same_clock c.clock clock) (taken_at (now + offset d clock) place syn_dropped) c.ring.events;
  };
}

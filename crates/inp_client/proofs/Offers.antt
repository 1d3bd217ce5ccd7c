-- A frame is offered event by event.
use Rattle.std.proofs.Common.{◌≡◌, ◌≤◌, ◌<◌, ℕ, ◌+◌, Bool, true, false, ◌&&◌, if◌then◌else◌, List, [], ◌∷◌}
use Rattle.std.proofs.Common.{length, map, drop, get_or, Option, Some, None, refl, sym, ap, ◌∙◌, arith}
use Rattle.std.specs.Prelude.{filter}
use Rattle.std.proofs.lemmas.Bool.{cond_both}
use Rattle.std.proofs.lemmas.List.{drop_more, drop_all, map-id}
use Rattle.slab.specs.Slab.{Slab}
use Rattle.inp_model.specs.declared.event.Event.{Event}
use Rattle.inp_model.specs.Queue.{put, put_all}
use Rattle.inp_ring.specs.declared.cell.Cell.{Cell}
use Rattle.inp_ring.specs.declared.cell.Held.{Held}
use Rattle.inp_ring.specs.Store.{StoreView, held_under, cell_in, held_cell, holders, holders_of, cell_count}
use Rattle.inp_ring.specs.Store.{held_by, held_more, event_of_cell, dropped_cell, IsIdleSlot, IsPut}
use Rattle.inp_ring.proofs.Times.{at_each}
use Rattle.inp_client.proofs.RingsLeft.{rings_in}
use Rattle.inp_client.specs.declared.frame.Frame.{Frame}
use Rattle.inp_client.specs.declared.location.Location.{Location}
use Rattle.inp_client.specs.Masks.{admits_of}
use Rattle.inp_client.specs.Client.{ClientView, with_events, is_offered_to, cell_of_event, after_offer}
use Rattle.inp_client.specs.Member.{Member, cells_in, times_in, wanted, after_event, AreStored}
use Rattle.inp_client.specs.Locations.{clients_in}
use Rattle.inp_client.specs.Clients.{ClientsView}
use Rattle.inp_client.specs.Numbers.{IsStoredOnce}
use Rattle.inp_client.specs.Offered.{AreShared, IsEnteredTo, IsEventOffered, IsOffered, after_frame}
use Rattle.inp_client.specs.Offered.{clients_view_of}
use Rattle.inp_client.proofs.Lists.{map_over, map_same}
use Rattle.inp_client.proofs.OtherClients.{stored_stays, cells_stay, spare_some}
use Rattle.inp_client.proofs.OneClient.{kept_known}
use Rattle.inp_client.proofs.Locations.{members_long}
use Rattle.inp_client.proofs.OfferedCells.{owing_same, owing_other}

-- A new cell is in no ring.
module _ {locations : List Location} {slab : Slab Member} {s after : StoreView}
    (shared : AreShared locations slab s) {number : ℕ} {cell : Cell} (new : held_under s number ≡ None)
    (put : IsPut s after number (held_by 0 cell)) where
  -- there was no cell under the number, so no ring has it
  pub in_none : times_in number (clients_in locations slab) ≡ 0
  in_none = omega (arith, shared.stored.held number, ap holders_of new)

  added_stay : (n : ℕ) → 1 ≤ times_in n (clients_in locations slab) → cell_in after n ≡ cell_in s n
  added_stay = at_each _ number (λ there. absurd (omega (arith, there, in_none)))
      (λ n d there. ap held_cell (put.others n d))

  -- the new cell has no holder and is in no ring, and all other cells stay
  pub stored_add : cell_count s + s.spare ≤ cell_count after + after.spare
      → AreStored after (clients_in locations slab) (λ n. 0)
  stored_add room = stored_stays shared.stored after added_stay (λ n. 0) held room
    where
      held : (n : ℕ) → holders after n + 0 ≡ times_in n (clients_in locations slab)
      held = at_each _ number (omega (arith, ap holders_of put.changed, in_none))
          (λ n d. omega (arith, ap holders_of (put.others n d), shared.stored.held n))

  -- no ring has the new number, so all queues stay
  pub cells_add : cells_in after (clients_in locations slab) ≡ cells_in s (clients_in locations slab)
  cells_add = cells_stay shared.stored after added_stay

-- each cell is in some ring, and a ring has fewer numbers than cells are wanted for it
pub shared_spare : {locations : List Location} {slab : Slab Member} {s : StoreView}
    → AreShared locations slab s → 0 < length locations → 0 < s.spare
shared_spare {locations} {slab} {s} shared some =
    spare_some shared.stored 0 (omega (arith, members_long shared.located))
    (λ n there differs. kept_known s (clients_in locations slab) shared.stored shared.none_idle n there)

module _ {count : ℕ} {cell : Cell} {holder : Option ℕ} {number : ℕ} {locations : List Location}
    {before slab : Slab Member} {first store : StoreView} {taken : ℕ}
    (to : IsEnteredTo count cell holder number locations before slab first store taken) where
  abbrev clients : List Member
  clients = clients_in locations slab

  taken_times : times_in number clients ≡ taken
  taken_times = omega (arith, to.stored.held number, ap holders_of to.same, owing_same number taken)

  -- It has so many holders as took it, and is the cell that it was where some did.
  module _ {after : StoreView} {slot : Option Held} (put : IsPut store after number slot)
      (counts : holders_of slot ≡ taken)
      (same : 0 < taken → held_cell slot ≡ Some cell) (busy : IsIdleSlot slot → ⊥) where
    settled_stay : (n : ℕ) → 1 ≤ times_in n clients → cell_in after n ≡ cell_in store n
    settled_stay =
        at_each _ number (λ there. ap held_cell put.changed ∙ same (omega (arith, there, taken_times))
        ∙ sym (ap held_cell to.same))
        (λ n d there. ap held_cell (put.others n d))

    shared_settled : cell_count store + store.spare ≤ cell_count after + after.spare
        → AreShared locations slab after
    shared_settled room = record {
      located = to.located;
      stored = stored_stays to.stored after settled_stay (λ n. 0) held room;
      none_idle = at_each _ number (λ idle. busy (rw put.changed at idle))
          (λ n d idle. d (to.idle n (rw (put.others n d) at idle)));
    }
      where
        held : (n : ℕ) → holders after n + 0 ≡ times_in n clients
        held =
            at_each _ number (omega (arith, ap holders_of put.changed, counts, taken_times))
            (λ n d. omega (
              arith,
              ap holders_of (put.others n d),
              to.stored.held n,
              owing_other number taken n d,
            ))

    cells_settled : cells_in after clients ≡ cells_in store clients
    cells_settled = cells_stay to.stored after settled_stay

  -- Nobody took it: it goes.
  module _ {after : StoreView} (put : IsPut store after number None) (nobody : taken ≡ 0) where
    -- nobody took the cell, so it was in no ring when it went
    pub shared_free : cell_count store + store.spare ≤ cell_count after + after.spare
        → AreShared locations slab after
    shared_free room =
        shared_settled put (sym nobody) (λ some. absurd (omega (arith, some, nobody))) (λ idle. idle) room

    -- the cell that went was in no ring, so all queues stay
    pub cells_free : cells_in after clients ≡ cells_in store clients
    cells_free = cells_settled put (sym nobody) (λ some. absurd (omega (arith, some, nobody))) (λ idle. idle)

  -- Some took it: it has so many holders.
  module _ {after : StoreView} (put : IsPut store after number (held_more taken (held_under store number)))
      (some : 0 < taken) where
    put_held : IsPut store after number (held_by taken cell)
    put_held =
        let plus : 0 + taken ≡ taken = omega arith in
        record { changed = rw (put.changed, to.same, plus); others = put.others }

    -- the cell has as many holders as rings took its number
    pub shared_hold : cell_count store + store.spare ≤ cell_count after + after.spare
        → AreShared locations slab after
    shared_hold room = shared_settled put_held refl (λ _. refl) (λ none. omega (arith, some, none)) room

    -- the cell got its holders and stays the same event, so all queues stay
    pub cells_hold : cells_in after clients ≡ cells_in store clients
    cells_hold = cells_settled put_held refl (λ _. refl) (λ none. omega (arith, some, none))

-- A frame is its first event, and then the others.
pub after_offer-cons : (e : Event) (frame : List Event) (now place : ℕ) (holder : Option ℕ)
    (c : ClientView Cell)
    → after_offer (e ∷ frame) now place holder c
    ≡ after_offer frame now place holder (after_event (cell_of_event now place e) holder c)
after_offer-cons e frame now place holder c = step (is_offered_to holder c) (admits_of c.masks e) refl
  where
    step : (a b : Bool) → is_offered_to holder c ≡ a →
        (if a then with_events
        (put_all event_of_cell dropped_cell c.ring.places c.ring.events
        (map (cell_of_event now place)
        (if b then e ∷ filter (admits_of c.masks) frame else filter (admits_of c.masks) frame))) c else c)
        ≡ after_offer frame now place holder
        (if a && b then with_events
        (put event_of_cell dropped_cell c.ring.places c.ring.events (cell_of_event now place e)) c else c)
    step true true h = sym (rw h)
    step true false h = sym (rw h)
    step false b h = sym (rw h)

after_offer-nil : (now place : ℕ) (holder : Option ℕ) (c : ClientView Cell)
    → after_offer [] now place holder c ≡ c
after_offer-nil now place holder c =
    cond_both (is_offered_to holder c) _ _ (λ x. x ≡ c) (λ _. refl) (λ _. refl)

-- a client that was offered an event of a frame, or some of its events
abbrev after_one : Frame → Event → ClientView Cell → ClientView Cell
after_one f e c = after_event (cell_of_event f.moment f.place e) f.holder c

abbrev after_some : Frame → List Event → ClientView Cell → ClientView Cell
after_some f events c = after_offer events f.moment f.place f.holder c

-- these events of a frame were offered, and are stored once
abbrev AreStoredOnce : Frame → List Event → ClientsView → ClientsView → Type 0
AreStoredOnce f events old new = IsStoredOnce events f.moment f.place f.holder old new

-- so many events of a frame were offered
pub record IsOfferedTo (f : Frame) (locations : List Location) (before slab : Slab Member)
    (first store : StoreView) (i : ℕ) : Type 0 where
  -- the store has the cells of the clients, and no others
  pub shared : AreShared locations slab store
  -- with the other events offered too, the clients are those after the whole frame
  pub rest : map (after_some f (drop i f.events.now)) (cells_in store (clients_in locations slab))
      ≡ map (after_frame f) (cells_in first (clients_in locations before))
  -- as many cells are wanted as before
  pub wanted : wanted (clients_in locations slab) ≡ wanted (clients_in locations before)
  -- the slab has the capacity that it had
  pub capacity : slab.capacity ≡ before.capacity
  -- where the others are stored once after them, all are
  pub once : (new : ClientsView)
      → AreStoredOnce f (drop i f.events.now) (clients_view_of store locations slab) new
      → AreStoredOnce f f.events.now (clients_view_of first locations before) new

module _ {f : Frame} {locations : List Location} {before slab : Slab Member} {first store : StoreView} {i : ℕ}
    (to : IsOfferedTo f locations before slab first store i) where
  -- the next event was offered, and the others are still to come
  pub offered_more : {next : Slab Member} {after : StoreView} (d : Event) → i < length f.events.now
      → IsEventOffered (cell_of_event f.moment f.place (get_or f.events.now i d)) f.holder locations slab
      next store after
      → IsOfferedTo f locations before next first after (i + 1)
  offered_more {next} {after} d in_i has = record {
    shared = has.shared;
    rest =
        rw (
          has.clients,
          ← map_over (after_some f (e ∷ rest)) (after_one f e) (after_some f rest) clients
              (λ j x in_j. after_offer-cons e rest f.moment f.place f.holder (get_or clients j x)),
          ← drop_more,
        ) to.rest;
    wanted = has.wanted ∙ to.wanted;
    capacity = has.capacity ∙ to.capacity;
    once = λ new more.
        to.once new
        (rw (drop_more f.events.now i d in_i) (clients_view_of after locations next, has.once, more));
  }
    where
      e : Event
      e = get_or f.events.now i d

      rest : List Event
      rest = drop (i + 1) f.events.now

      clients : List (ClientView Cell)
      clients = cells_in store (clients_in locations slab)

  -- all events were
  pub all_offered : length f.events.now ≤ i → IsOffered f locations before slab first store
  all_offered past = record {
    shared = to.shared;
    clients =
        rw (
          ← map-id (cells_in store (clients_in locations slab)),
          map_same (λ c. c) (after_some f []) (cells_in store (clients_in locations slab))
              (λ j d in_j. sym (after_offer-nil f.moment f.place f.holder _)),
          ← drop_all i f.events.now past,
        ) to.rest;
    once =
        to.once (clients_view_of store locations slab)
        (rw (drop_all i f.events.now past) (rings_in store (clients_in locations slab), refl));
    wanted = to.wanted;
    capacity = to.capacity;
  }

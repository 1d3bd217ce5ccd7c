-- What a call leaves of the numbers of all rings.
use Rattle.std.proofs.Common.{◌≡◌, ◌≤◌, ◌<◌, ℕ, zero, suc, ◌+◌, Bool, true, false, if◌then◌else◌, List, []}
use Rattle.std.proofs.Common.{◌∷◌, length, get_or, Option, refl, sym, ap, ◌∙◌, inl, inr, arith, map}
use Rattle.std.specs.Prelude.{count_by}
use Rattle.std.specs.List.{remove, insert}
use Rattle.std.proofs.lemmas.List.{length-map, get_or-map, get_or_past, nil_from_length}
use Rattle.std.proofs.lemmas.Bool.{cases_lt}
use Rattle.inp_client.specs.Clients.{ClientsView, has_number}
use Rattle.inp_model.specs.declared.event.Event.{Event}
use Rattle.inp_ring.specs.Store.{StoreView, event_of_cell}
use Rattle.inp_ring.specs.Ring.{times, cell_at}
use Rattle.inp_ring.proofs.Times.{times-append}
use Rattle.inp_client.specs.declared.clients.Clients.TheInside.{Inside}
use Rattle.inp_client.specs.declared.frame.Frame.{Frame}
use Rattle.inp_client.specs.Client.{new_client}
use Rattle.inp_client.specs.Member.{Member, client_in, clients_view_in, numbers_in}
use Rattle.inp_client.specs.Locations.{client_at, clients_in}
use Rattle.inp_client.specs.Kept.{kept_view}
use Rattle.inp_client.specs.Numbers.{held_numbers, stored_of, loses, client_of_index, ring_of_index}
use Rattle.inp_client.specs.Numbers.{HaveRings, IsStoredOnce, IsRingChanged, IsRingClosed, event_under}
use Rattle.inp_client.specs.Offered.{IsOffered}
use Rattle.inp_client.proofs.CellCounts.{rings_of}
use Rattle.inp_client.proofs.Numbers.{stored_few, told_in, all_of, AreAsLong}
use Rattle.slab.specs.Slab.{Slab}

-- A ring of which only numbers are taken has none that it did not have, and the others stay.
pub fewer_in : (number : ℕ) (change : List ℕ → List ℕ) (old new : ClientsView)
    → ((n : ℕ) (q : List ℕ) → times n (change q) ≤ times n q) → IsRingChanged number change old new
    → (i n : ℕ) → times n (ring_of_index new i) ≤ times n (ring_of_index old i)
fewer_in number change old new fewer is i n = elim (cases_lt i (length old.list)) [
  | inl in_i ↦ omega (arith, ap (times n) (is.each i in_i), one (has_number number (client_of_index old i)))
  | inr past ↦ omega (
    arith,
    ap (times n) (get_or_past new.rings i [] (omega (arith, past, is.rings.0, is.rings.1))),
  )
]
  where
    one : (b : Bool) → times n (if b then change (ring_of_index old i) else ring_of_index old i)
        ≤ times n (ring_of_index old i)
    one true = fewer n (ring_of_index old i)
    one false = omega arith

-- a ring that goes takes its numbers along
pub rings_of-remove : (ms : List Member) (i : ℕ) → rings_of (remove ms i) ≡ remove (rings_of ms) i
rings_of-remove [] zero = refl
rings_of-remove [] (suc i) = refl
rings_of-remove (m ∷ ms) zero = refl
rings_of-remove (m ∷ ms) (suc i) = rw (rings_of-remove ms i)

fewer_remove : (rings : List (List ℕ)) (i n : ℕ) → times n (all_of (remove rings i)) ≤ times n (all_of rings)
fewer_remove [] zero n = omega arith
fewer_remove [] (suc i) n = omega arith
fewer_remove (q ∷ rings) zero n = omega (arith, times-append n q (all_of rings))
fewer_remove (q ∷ rings) (suc i) n =
    omega (
      arith,
      fewer_remove rings i n,
      times-append n q (all_of rings),
      times-append n q (all_of (remove rings i)),
    )

-- the ring that went took its numbers along, and the others have what they had
pub fewer_closed : (number : ℕ) (old new : ClientsView) → IsRingClosed number old new → (n : ℕ)
    → times n (held_numbers new) ≤ times n (held_numbers old)
fewer_closed number old new is n = rw is.rings (fewer_remove old.rings is.index n)

-- an empty ring has none
pub numbers_in-insert : (ms : List Member) (i : ℕ) (new : Member) → i ≤ length ms → new.ring.events ≡ []
    → numbers_in (insert ms i new) ≡ numbers_in ms
numbers_in-insert ms zero new within none = rw none
numbers_in-insert [] (suc i) new within none = absurd (omega (arith, within))
numbers_in-insert (m ∷ ms) (suc i) new within none =
    rw (numbers_in-insert ms i new (omega (arith, within)) none)

-- each client has its ring
pub rings_in : (s : StoreView) (ms : List Member) → HaveRings (clients_view_in s ms)
rings_in s ms = length-map ms (λ (m : Member). m.ring.events) ∙ sym (length-map ms (client_in s))

-- the ring and the client at an index
pub ring_at_index : (s : StoreView) (ms : List Member) (i : ℕ) → i < length ms
    → ring_of_index (clients_view_in s ms) i ≡ (get_or ms i (new_client 0 0)).ring.events
ring_at_index s ms i in_i = get_or-map (λ (m : Member). m.ring.events) ms i (new_client 0 0) [] in_i

pub client_at_index : (s : StoreView) (ms : List Member) (i : ℕ) → i < length ms
    → client_of_index (clients_view_in s ms) i ≡ client_in s (get_or ms i (new_client 0 0))
client_at_index s ms i in_i = get_or-map (client_in s) ms i (new_client 0 0) (new_client 0 0) in_i

-- the ring has the numbers of the queue's events
pub told_at_index : (s : StoreView) (ms : List Member) (i : ℕ) → i < length (clients_view_in s ms).list
    → map (event_under s) (ring_of_index (clients_view_in s ms) i)
    ≡ map event_of_cell (client_of_index (clients_view_in s ms) i).ring.events
told_at_index s ms i in_i =
    let within : i < length ms = omega (arith, in_i, length-map ms (client_in s)) in
    rw (ring_at_index s ms i within, client_at_index s ms i within)
    (told_in s (get_or ms i (new_client 0 0)).ring.events)

-- so it has as many
pub long_in : (s : StoreView) (ms : List Member) → AreAsLong (clients_view_in s ms)
long_in s ms i in_i =
    let within : i < length ms = omega (arith, in_i, length-map ms (client_in s)) in
    rw (ring_at_index s ms i within, client_at_index s ms i within)
    (sym (length-map (get_or ms i (new_client 0 0)).ring.events (cell_at s)))

-- A frame was offered.
pub stored_after_offer : {f : Frame} (k : Inside) (slab : Slab Member) (store : StoreView)
    (is : IsOffered f k.locations.items k.slab slab k.store store)
    → stored_of (kept_view (record k { slab = slab; store = store }))
    ≤ stored_of (kept_view k) + length f.events.now + count_by (loses f.events.now f.moment f.place f.holder)
    (kept_view k).list
stored_after_offer {f} k slab store is =
    stored_few f.events.now f.moment f.place f.holder (kept_view k)
    (kept_view (record k { slab = slab; store = store })) is.once

-- where no client is open nothing is put
none_stored : (frame : List Event) (now place : ℕ) (holder : Option ℕ)
    → IsStoredOnce frame now place holder (record { list = []; rings = [] })
    (record { list = []; rings = [] })
none_stored [] now place holder = (refl, refl)
none_stored (e ∷ frame) now place holder = (
  record { list = []; rings = [] },
  record {
    clients = refl;
    rings = (refl, refl);
    event = λ n. e;
    told = λ i in_i. absurd (omega (arith, in_i));
    number = 0;
    same = refl;
    fresh = refl;
    losses = λ i. 0;
    alone = λ i in_i h. absurd (omega (arith, in_i));
    each = λ i in_i. absurd (omega (arith, in_i));
  },
  none_stored frame now place holder,
)

-- no client is open, so there is no ring to put a number into
pub once_none : (frame : List Event) (now place : ℕ) (holder : Option ℕ) (k : Inside)
    → length k.locations.items ≡ 0 → IsStoredOnce frame now place holder (kept_view k) (kept_view k)
once_none frame now place holder k none =
    let empty : clients_in k.locations.items k.slab ≡ [] =
    nil_from_length (clients_in k.locations.items k.slab)
    (length-map k.locations.items (λ at. client_at k.slab at.key) ∙ none) in
    rw empty (none_stored frame now place holder)

-- What a call on one client leaves of all that is kept.
use Rattle.std.proofs.Common.{◌≡◌, ◌≢◌, ◌≤◌, ◌<◌, ℕ, ◌+◌, Bool, true, false, if◌then◌else◌, List, [], ◌∷◌}
use Rattle.std.proofs.Common.{length, map, get_or, set, Contains, Some, refl, sym, ap, ◌∙◌, arith}
use Rattle.std.specs.Prelude.{count_by}
use Rattle.std.proofs.Math.Seq.{map-set_same}
use Rattle.std.proofs.lemmas.Bool.{false≢true, eq-eqb, ne_eqb}
use Rattle.std.proofs.lemmas.List.{length-map, length-set, get_or-map, get_or-set_same, get_or-set_other}
use Rattle.std.proofs.lemmas.List.Sums.{sum_by-set}
use Rattle.std.proofs.lemmas.List.Elements.{All-drop, All-cons, All-nil}
use Rattle.slab.specs.Slab.{get, with_value}
use Rattle.inp_model.specs.declared.stamped.TheConstants.{MOMENT_MAX}
use Rattle.inp_model.specs.declared.clock.Clock.{Clock}
use Rattle.inp_model.specs.Description.{Description, offset}
use Rattle.inp_model.specs.Event.{syn_dropped}
use Rattle.inp_model.specs.Step.{Query, is_part_of}
use Rattle.inp_model.specs.Queue.{is_empty, flush, is_same_clock, clock_changed}
use Rattle.inp_model.proofs.Removal.{flush-all}
use Rattle.inp_ring.specs.declared.cell.Cell.{Cell}
use Rattle.inp_ring.specs.Store.{StoreView, event_of_cell, cell_taken, HasCell, IsIdle}
use Rattle.inp_ring.specs.Ring.{times, cell_at, AreFit, AreHeld, IsRing}
use Rattle.inp_ring.proofs.Times.{at_each}
use Rattle.inp_ring.proofs.Moves.{moved_none}
use Rattle.inp_client.specs.declared.location.Location.{Location}
use Rattle.inp_client.specs.declared.clients.Clients.TheInside.{Inside}
use Rattle.inp_client.specs.Client.{ClientView, cell_of_event, after_take, after_flush, after_mask}
use Rattle.inp_client.specs.Client.{after_clock, after_revoke}
use Rattle.inp_client.specs.Clients.{has_number, ClientsView, has_client, client_named, events_of}
use Rattle.inp_client.specs.Clients.{has_revoked_client, clock_of_client, masks_of_client, map_client}
use Rattle.inp_client.specs.Read.{clients_on}
use Rattle.inp_client.specs.Member.{Member, ring_of, client_in, cells_in, times_in, AreStored}
use Rattle.inp_client.specs.Member.{IsMemberChanged}
use Rattle.inp_client.specs.Numbers.{held_numbers, stored_of, ring_of_index, is_lost_to_clock, event_under}
use Rattle.inp_client.specs.Numbers.{IsClockStored, IsRingOnClock, IsRingChanged, IsRingFlushed}
use Rattle.inp_client.specs.Locations.{clients_in}
use Rattle.inp_client.specs.Kept.{kept_view, AreKept}
use Rattle.inp_client.proofs.Lists.{list_any-map}
use Rattle.inp_client.proofs.Locations.{located_after_write, members_after_write, members_long, member_number}
use Rattle.inp_client.proofs.Locations.{members_apart, IsAt, member_found}
use Rattle.inp_client.proofs.OtherClients.{held_known, member_held, member_timed, member_ring, spare_some}
use Rattle.inp_client.proofs.OtherClients.{others_stay, stored_after_write, cells_after_write}
use Rattle.inp_client.proofs.OtherClients.{client_named-cells_in, no_client}
use Rattle.inp_client.proofs.OnClock.{client_named-on}
use Rattle.inp_client.proofs.CellCounts.{times-clients_view_in, wanted_of}
use Rattle.inp_client.proofs.Numbers.{stored_clock}
use Rattle.inp_client.proofs.RingsLeft.{rings_in, long_in, ring_at_index, client_at_index, told_at_index}

-- a client is open whatever its cells are
pub has_client-cells_in : (s : StoreView) (ms : List Member) (number : ℕ)
    → has_client number (cells_in s ms) ≡ has_client number ms
has_client-cells_in s ms number = list_any-map (has_number number) (client_in s) ms

-- the clients of the view are those that are kept, with their cells
pub call_open : (k : Inside) (number : ℕ) (now : ClientsView) → kept_view k ≡ now
    → has_client number now.list ≡ true → has_client number (clients_in k.locations.items k.slab) ≡ true
call_open k number now e h = rw (← e, has_client-cells_in) at h

-- the clients of the view are those that are kept, so none of these has the number
pub call_closed : (k : Inside) (number : ℕ) (now : ClientsView) → kept_view k ≡ now
    → has_client number now.list ≡ false → has_client number (clients_in k.locations.items k.slab) ≡ false
call_closed k number now e h = rw (← e, has_client-cells_in) at h

-- where no cell is idle, each is in some ring
pub kept_known : (s : StoreView) (ms : List Member) → AreStored s ms (λ n. 0) → ((n : ℕ) → IsIdle s n → ⊥)
    → (n : ℕ) → HasCell s n → 1 ≤ times_in n ms
kept_known s ms st none n there = held_known st n there (none n)

-- A queue stays fit.

-- the events that are left were in the queue before
pub timed_take : (count : ℕ) (c : ClientView Cell) → AreFit c.ring.events
    → AreFit (after_take count c).ring.events
timed_take count c fit = All-drop (λ (x : Cell). x.now ≤ MOMENT_MAX) count c.ring.events fit

-- a flush only takes events out of the queue
pub timed_flush : (query : Query) (c : ClientView Cell) → AreFit c.ring.events
    → AreFit (after_flush event_of_cell query c).ring.events
timed_flush query c fit =
    flush-all event_of_cell (is_part_of query) (λ (x : Cell). x.now ≤ MOMENT_MAX) c.ring.events fit

-- the queue stays, or has only a SYN_DROPPED, at the moment of the call
pub timed_clock : (clock : Clock) (now place : ℕ) → now ≤ MOMENT_MAX → (c : ClientView Cell)
    → AreFit c.ring.events → AreFit (after_clock clock now place c).ring.events
timed_clock clock now place h c fit = changed (is_same_clock c.clock clock) c.ring.events fit
  where
    changed : (b : Bool) (q : List Cell) → AreFit q
        → AreFit (clock_changed b (cell_of_event now place syn_dropped) q)
    changed b [] all = all
    changed true (x ∷ q) all = all
    changed false (x ∷ q) all =
        All-cons (λ (x : Cell). x.now ≤ MOMENT_MAX) (cell_of_event now place syn_dropped) [] h
        (All-nil (λ (x : Cell). x.now ≤ MOMENT_MAX))

-- A change that leaves the queue alone.

-- the client is revoked, and its ring and the store stay
pub written_revoke : (s : StoreView) (old new : Member) → new ≡ after_revoke old
    → IsMemberChanged s s old new after_revoke
written_revoke s old new e =
    rw e (record {
      number = refl;
      places = refl;
      sound = λ h. h;
      moved = moved_none s old.ring.events;
      changed = refl;
    })

-- the client's masks change, and its ring and the store stay
pub written_mask : (s : StoreView) (old new : Member) (kind word bits : ℕ)
    → new ≡ after_mask kind word bits old → IsMemberChanged s s old new (after_mask kind word bits)
written_mask s old new kind word bits e =
    rw e (record {
      number = refl;
      places = refl;
      sound = λ h. h;
      moved = moved_none s old.ring.events;
      changed = refl;
    })

-- a call is for an open client: the location with its number, and what the slab has under the key there
pub record IsCallOn (k : Inside) (number key : ℕ) (old : Member) : Type 0 where
  pub kept : AreKept k
  pub location : Contains k.locations.items (record { number = number; key = key })
  pub found : get k.slab key ≡ Some old

-- the location was found in a copy of the list
pub call_on : {k : Inside} {number key : ℕ} {old : Member} {items : List Location} → AreKept k
    → items ≡ k.locations.items → Contains items (record { number = number; key = key })
    → get k.slab key ≡ Some old → IsCallOn k number key old
call_on kept same location found = record { kept = kept; location = rw same at location; found = found }

module _ {k : Inside} {number key : ℕ} {old : Member} (on : IsCallOn k number key old) where
  abbrev members : List Member
  members = clients_in k.locations.items k.slab

  abbrev index : ℕ
  index = on.location.0

  abbrev member : ℕ → Member
  member i = get_or members i no_client

  at : IsAt k.locations.items k.slab index key old
  at = record {
    within = on.location.1;
    d = record { number = number; key = key };
    keyed = ap (λ s. s.key) on.location.2;
    found = on.found;
  }

  in_members : index < length members
  in_members = omega (arith, at.within, members_long on.kept.located)

  -- the client that is named
  here : member index ≡ old
  here = member_found on.kept.located at no_client

  numbered : (member index).number ≡ number
  numbered = member_number on.kept.located index _ no_client at.within ∙ ap (λ s. s.number) on.location.2

  apart : (j : ℕ) → j < length members → j ≢ index → (member j).number ≢ (member index).number
  apart j in_j differs =
      members_apart on.kept.located index j no_client at.within
      (omega (arith, in_j, members_long on.kept.located)) differs

  -- no holder is owed, so each cell of the ring has that ring as one
  pub call_held : AreHeld k.store old.ring.events
  call_held = rw here at (member_held on.kept.stored index in_members (λ n there. refl))

  -- all queues have fit moments, so the client's has
  pub call_timed : AreFit (map (cell_at k.store) old.ring.events)
  call_timed = rw here at (member_timed on.kept.stored index in_members)

  -- each cell is in some ring, so there is one to spare
  pub call_spare : 0 < k.store.spare
  call_spare =
      spare_some on.kept.stored 0 (omega (arith, in_members))
      (λ n there differs. kept_known k.store members on.kept.stored on.kept.none_idle n there)

  call_sound : IsRing (ring_of old)
  call_sound = rw here at (member_ring on.kept.stored index in_members)

  named : client_named number (kept_view k).list ≡ Some (client_in k.store old)
  named =
      rw (← numbered) (client_named-cells_in k.store members index in_members apart
      ∙ ap (λ (m : Member). Some (client_in k.store m)) here)

  -- the number names the client under the key, whose queue it is
  pub call_events : events_of number (kept_view k).list ≡ map (cell_at k.store) old.ring.events
  call_events = rw named

  -- the number names the client under the key, so it is revoked where that one is
  pub call_revoked : has_revoked_client number (kept_view k).list ≡ old.revoked
  call_revoked = rw named

  -- the number names the client under the key, so the clock is its own
  pub call_clock : clock_of_client number (kept_view k).list ≡ old.clock
  call_clock = rw named

  -- the number names the client under the key, so the masks are its own
  pub call_masks : masks_of_client number (kept_view k).list ≡ old.masks
  call_masks = rw named

  -- what it reads
  pub call_read : (d : Description)
      → events_of number (clients_on d (kept_view k).list)
      ≡ map (cell_taken (offset d old.clock)) (map (cell_at k.store) old.ring.events)
  call_read d = rw (client_named-on d number (kept_view k).list, named)

  module _ {new : Member} {after : StoreView} {change : ClientView Cell → ClientView Cell}
      (w : IsMemberChanged k.store after old new change) (fit : (c : ClientView Cell) → AreFit c.ring.events
      → AreFit (change c).ring.events) where
    abbrev next : Inside
    next = record k { slab = with_value k.slab key new; store = after }

    -- each client then
    abbrev made : ℕ → Member
    made i = get_or (set members index new) i no_client

    members_next : clients_in k.locations.items (with_value k.slab key new) ≡ set members index new
    members_next = members_after_write on.kept.located at new

    moved : IsMemberChanged k.store after (member index) new change
    moved = rw here w

    new_timed : AreFit (client_in after new).ring.events
    new_timed =
        rw (ap (λ (c : ClientView Cell). c.ring.events) w.changed) (fit (client_in k.store old) call_timed)

    stored_next : AreStored after (set members index new) (λ n. 0)
    stored_next =
        stored_after_write on.kept.stored index in_members moved.moved
        (λ n some. absurd (omega (arith, some))) new (λ n. 0) (λ n. omega arith) moved.places
        (w.sound call_sound) new_timed

    -- the client has its number and its places still, and the other rings keep their cells
    pub kept_after_call : AreKept next
    kept_after_call = record {
      located = located_after_write on.kept.located at new w.number;
      few = on.kept.few;
      slab_room = on.kept.slab_room;
      location_room = on.kept.location_room;
      stored = rw members_next stored_next;
      none_idle = λ n h. on.kept.none_idle n (w.moved.idle n h);
      counted =
          rw members_next
          (omega (
            arith,
            on.kept.counted,
            moved.places,
            sum_by-set wanted_of members index new no_client in_members,
          ));
    }

    -- the client with the number is changed, and the others keep their cells
    pub list_after_call : (kept_view next).list ≡ map_client number change (kept_view k).list
    list_after_call =
        rw members_next (rw numbered at
        (cells_after_write k.store members index in_members apart after
        (others_stay on.kept.stored index in_members moved.moved (λ n some. absurd (omega (arith, some)))) new
        change moved.number moved.changed))

    -- the numbers of the others stay
    pub rings_after_call : new.ring.events ≡ old.ring.events → (kept_view next).rings ≡ (kept_view k).rings
    rings_after_call same =
        rw members_next
        (map-set_same (λ (m : Member). m.ring.events) members index new no_client (rw (same, here)))

    -- The rings that there are then, and those that there were

    ring_next : (i : ℕ) → i < length members → ring_of_index (kept_view next) i ≡ (made i).ring.events
    ring_next i in_i =
        rw members_next
        (get_or-map (λ (m : Member). m.ring.events) (set members index new) i no_client []
        (omega (arith, in_i, length-set members index new)))

    -- the client of the number is the one that was named
    is_here : has_number number (client_in k.store (member index)) ≡ true
    is_here = eq-eqb _ _ numbered

    is_other : (i : ℕ) → i ≢ index → i < length members
        → has_number number (client_in k.store (member i)) ≡ false
    is_other i d in_i = ne_eqb _ _ (λ e. apart i in_i d (e ∙ sym numbered))

    in_list : (i : ℕ) → i < length (kept_view k).list → i < length members
    in_list i in_i = omega (arith, in_i, length-map members (client_in k.store))

    -- What a call leaves of the numbers that the client's ring has, where it makes this of it.
    made_at : (makes : Clock → List ℕ → List ℕ) → new.ring.events ≡ makes old.clock old.ring.events → (i : ℕ)
        → i < length members
        → (made i).ring.events
        ≡ (if has_number number (client_in k.store (member i))
        then makes (member i).clock (member i).ring.events else (member i).ring.events)
    made_at makes left =
        at_each _ index
        (λ in_i. rw (get_or-set_same members index new no_client in_members, is_here, here) left)
        (λ i d in_i. rw (get_or-set_other members index i new no_client d, is_other i d in_i))

    -- the client's ring is what the call makes of it, and the other rings stay
    pub ring_after_call : (makes : List ℕ → List ℕ) → new.ring.events ≡ makes old.ring.events
        → IsRingChanged number makes (kept_view k) (kept_view next)
    ring_after_call makes left = record {
      rings = (
        rings_in k.store members,
        rw members_next (length-map (set members index new) (λ (m : Member). m.ring.events)
            ∙ length-set members index new ∙ sym (length-map members (λ (m : Member). m.ring.events))),
      );
      each = λ i in_i. rw (
        ring_next i (in_list i in_i),
        client_at_index k.store members i (in_list i in_i),
        ring_at_index k.store members i (in_list i in_i),
      )
          (made_at (λ clock. makes) left i (in_list i in_i));
    }

    -- the client's ring lost the numbers of the events that the query tells, and no other did
    pub flushed_after_call : (query : Query)
        → new.ring.events ≡ flush (event_under k.store) (is_part_of query) old.ring.events
        → IsRingFlushed number query (kept_view k) (kept_view next)
    flushed_after_call query left =
        record {
          event = event_under k.store;
          told = told_at_index k.store members;
          flushed = ring_after_call (flush (event_under k.store) (is_part_of query)) left;
        }

    -- What a choice of a clock leaves of all numbers.
    module _ (clock : Clock)
        (ring : IsRingOnClock (is_same_clock old.clock clock) after old.ring.events new.ring.events) where
      alone_at : (i : ℕ) → i < length members
          → is_lost_to_clock number clock (client_in k.store (member i)) ≡ true
          → times ring.loss (held_numbers (kept_view next)) ≡ 1
      alone_at =
          at_each _ index
          (λ in_i h.
          omega (
            arith,
            times-clients_view_in ring.loss after (clients_in k.locations.items (with_value k.slab key new)),
            ap (times_in ring.loss) members_next,
            stored_next.held ring.loss,
            ring.alone (rw empty_cells (rw (is_here, here) at h)),
          ))
          (λ i d in_i h. absurd (false≢true (rw (is_other i d in_i) at h)))
        where
          empty_cells : (q : List ℕ) → is_empty q ≡ is_empty (map (cell_at k.store) q)
          empty_cells [] = refl
          empty_cells (n ∷ q) = refl

      -- the client's ring stays or has the number of its SYN_DROPPED alone, and the other rings stay
      pub clock_after_call : IsClockStored number clock (kept_view k) (kept_view next)
      clock_after_call = record {
        rings = (
          rings_in k.store members,
          rings_in after (clients_in k.locations.items (with_value k.slab key new)),
        );
        loss = ring.loss;
        alone = λ i in_i h. alone_at i (in_list i in_i)
            (rw (client_at_index k.store members i (in_list i in_i)) at h);
        each = λ i in_i.
            rw (
              ring_next i (in_list i in_i),
              client_at_index k.store members i (in_list i in_i),
              ring_at_index k.store members i (in_list i in_i),
            )
            (made_at (λ own. clock_changed (is_same_clock own clock) ring.loss) ring.ring i (in_list i in_i));
      }

      -- no number is new but that of a SYN_DROPPED, where the client lost its queue
      pub stored_on_clock : stored_of (kept_view next)
          ≤ stored_of (kept_view k) + count_by (is_lost_to_clock number clock) (kept_view k).list
      stored_on_clock =
          stored_clock (kept_view k) (kept_view next) (ap length list_after_call
          ∙ length-map (kept_view k).list (λ c. if has_number number c then change c else c))
          (long_in k.store members) clock_after_call

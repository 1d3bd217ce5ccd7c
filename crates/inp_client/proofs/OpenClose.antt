-- What an open and a close leave of all that is kept.
use Rattle.std.proofs.Common.{◌≡◌, ◌≤◌, ◌<◌, ℕ, ◌+◌, ◌-◌, ◌*◌, true, List, [], length, get_or, Some, None}
use Rattle.std.proofs.Common.{refl, sym, ap, arith}
use Rattle.std.specs.Prelude.{flat_map}
use Rattle.std.specs.List.{remove, insert}
use Rattle.std.proofs.lemmas.List.Sums.{sum_by-remove, sum_by-insert, get_or-le-sum_by}
use Rattle.std.proofs.lemmas.Bool.{eq-eqb}
use Rattle.std.proofs.lemmas.List.{length-map, get_or-map}
use Rattle.slab.specs.Slab.{Slab, get, Updates}
use Rattle.inp_model.specs.declared.limits.TheConstants.{CLIENTS_MAX}
use Rattle.inp_ring.specs.Store.{StoreView, cell_count, IsIdle}
use Rattle.inp_ring.specs.Ring.{AreHeld, IsRing}
use Rattle.inp_client.specs.declared.clients.Clients.TheInside.{Inside}
use Rattle.inp_client.specs.declared.location.Location.{Location}
use Rattle.inp_client.specs.Client.{new_client, with_events}
use Rattle.inp_client.specs.Clients.{has_number, without_client, with_client}
use Rattle.inp_client.specs.Member.{Member, ring_of, client_in, cells_in, wanted, AreStored, IsMemberChanged}
use Rattle.inp_client.specs.Numbers.{held_numbers, client_of_index}
use Rattle.inp_client.specs.Locations.{clients_in, IsPlaceFor, IsIndexOf}
use Rattle.inp_client.specs.Kept.{kept_view, AreKept}
use Rattle.inp_client.proofs.CellCounts.{wanted_few, rings_of, held_numbers-rings, wanted_of}
use Rattle.inp_client.proofs.RingsLeft.{rings_of-remove, numbers_in-insert}
use Rattle.inp_client.proofs.Locations.{members_long, member_number, members_apart, members_after_removal}
use Rattle.inp_client.proofs.Locations.{members_after_insert, place_of_member, IsAt, member_found}
use Rattle.inp_client.proofs.OtherClients.{member_held, others_stay, stored_after_removal}
use Rattle.inp_client.proofs.OtherClients.{cells_after_removal, stored_after_insert, cells_after_insert}
use Rattle.inp_client.proofs.OtherClients.{cells_same, no_client}

-- a ring that was just made is one
pub new_ring : (number places : ℕ) → 64 ≤ places → places ≤ 4096 → IsRing (ring_of (new_client number places))
new_ring number places least most =
    record { least = least; most = most; room = omega arith; different = λ n. omega arith }

-- no more cells are wanted than there can be numbers
pub cells_few : (k : Inside) → AreKept k → k.cells ≤ 4097 * CLIENTS_MAX
cells_few k kept =
    omega (
      arith,
      kept.counted,
      kept.few,
      members_long kept.located,
      wanted_few (clients_in k.locations.items k.slab) kept.stored.rings,
    )

-- where the location with a number was taken out, and then the client under its key
abbrev pub removed_at : {locations : List Location} {slab : Slab Member} {number i : ℕ} {location : Location}
    {old : Member} → IsIndexOf locations number i → location ≡ get_or locations i location
    → get slab location.key ≡ Some old → IsAt locations slab i location.key old
removed_at {locations} {slab} {number} {i} {location} {old} index value found =
    record { within = index.within; d = location; keyed = ap (λ s. s.key) (sym value); found = found }

-- The client in the location at an index is taken out.
module _ {k : Inside} (kept : AreKept k) {i key : ℕ} {old : Member}
    (at : IsAt k.locations.items k.slab i key old) where
  abbrev members : List Member
  members = clients_in k.locations.items k.slab

  in_members : i < length members
  in_members = omega (arith, at.within, members_long kept.located)

  here : get_or members i no_client ≡ old
  here = member_found kept.located at no_client

  -- no holder is owed, so each cell of the ring has that ring as one
  pub close_held : AreHeld k.store old.ring.events
  close_held = rw here at (member_held kept.stored i in_members (λ n there. refl))

  -- the count has what each ring wants, so also what the ring that goes wants
  pub close_cells : old.ring.places + 1 ≤ k.cells
  close_cells =
      omega (
        arith,
        kept.counted,
        get_or-le-sum_by wanted_of members i no_client in_members,
        ap (λ (m : Member). m.ring.places) here,
      )

  -- each location has its client in the view
  pub within_close : i < length (kept_view k).list
  within_close = omega (arith, in_members, length-map members (client_in k.store))

  -- the client in a location has the location's number
  pub named_close : (number : ℕ) → (get_or k.locations.items i at.d).number ≡ number
      → has_number number (client_of_index (kept_view k) i) ≡ true
  named_close number named =
      eq-eqb _ _
      (rw (
        get_or-map (client_in k.store) members i no_client no_client in_members,
        member_number kept.located i at.d no_client at.within,
      ) named)

  module _ {slab : Slab Member} (removed : Updates k.slab slab key None) {new : Member} {after : StoreView}
      (w : IsMemberChanged k.store after old new (with_events [])) (none : new.ring.events ≡ []) where
    members_left : clients_in (remove k.locations.items i) slab ≡ remove members i
    members_left = members_after_removal kept.located at removed

    moved : IsMemberChanged k.store after (get_or members i no_client) new (with_events [])
    moved = rw here w

    -- the ring was cleared before it went, and the other rings keep their cells
    pub stored_close : AreStored after (clients_in (remove k.locations.items i) slab) (λ n. 0)
    stored_close =
        rw members_left
        (stored_after_removal kept.stored i in_members moved.moved (λ n some. absurd (omega (arith, some)))
        (λ n. rw none))

    -- none was idle before, and a cell that lost its last holder went
    pub idle_close : (n : ℕ) → IsIdle after n → ⊥
    idle_close n h = kept.none_idle n (w.moved.idle n h)

    -- the ring that went wants no cells, and the others want as many as before
    pub counted_close : k.cells - (old.ring.places + 1)
        ≡ wanted (clients_in (remove k.locations.items i) slab)
    counted_close =
        omega (
          arith,
          ap wanted members_left,
          kept.counted,
          ap (λ (m : Member). m.ring.places) here,
          sum_by-remove wanted_of members i no_client in_members,
        )

    -- the client with the location's number is left out, and the others keep their cells
    pub list_close : cells_in after (clients_in (remove k.locations.items i) slab)
        ≡ without_client (get_or k.locations.items i at.d).number (kept_view k).list
    list_close =
        rw (members_left, ← member_number kept.located i at.d no_client at.within)
        (cells_after_removal k.store members i in_members
        (λ j in_j. members_apart kept.located i j no_client at.within
        (omega (arith, in_j, members_long kept.located))) after
        (others_stay kept.stored i in_members moved.moved (λ n some. absurd (omega (arith, some)))))

    -- its ring goes with it
    pub rings_close : rings_of (clients_in (remove k.locations.items i) slab) ≡ remove (kept_view k).rings i
    rings_close = rw members_left (rings_of-remove members i)

-- A client comes in, for which the store has grown.
module _ {k : Inside} (kept : AreKept k) {key : ℕ} {new : Member} {slab : Slab Member} {i : ℕ}
    (vacant : get k.slab key ≡ None) (inserted : Updates k.slab slab key (Some new))
    (place : IsPlaceFor k.locations.items new.number i) where
  abbrev locations : List Location
  locations = insert k.locations.items i (record { number = new.number; key = key })

  abbrev clients : List Member
  clients = clients_in k.locations.items k.slab

  members_more : clients_in locations slab ≡ insert clients i new
  members_more = members_after_insert kept.located vacant inserted place

  within : i ≤ length clients
  within = omega (arith, members_long kept.located, place.within)

  -- the new ring wants one cell more than it has places
  pub counted_open : k.cells + new.ring.places + 1 ≡ wanted (clients_in locations slab)
  counted_open = omega (arith, ap wanted members_more, kept.counted, sum_by-insert wanted_of clients i new)

  -- the new ring is empty, and the others have what they had
  pub numbers_open : new.ring.events ≡ []
      → flat_map (λ (q : List ℕ). q) (rings_of (clients_in locations slab)) ≡ held_numbers (kept_view k)
  numbers_open none =
      rw (held_numbers-rings (clients_in locations slab), held_numbers-rings clients, members_more)
      (numbers_in-insert clients i new within none)

  module _ (after : StoreView) (same : after.slots ≡ k.store.slots) where
    -- the new ring is empty, and the store has grown by what it wants
    pub stored_open : k.cells + new.ring.places + 1 ≤ cell_count after + after.spare → new.ring.events ≡ []
        → IsRing (ring_of new) → AreStored after (clients_in locations slab) (λ n. 0)
    stored_open room none sound =
        rw members_more
        (stored_after_insert kept.stored i new within none sound same (omega (arith, room, kept.counted)))

    -- the cells are as before, and none of them was idle
    pub idle_open : (n : ℕ) → IsIdle after n → ⊥
    idle_open n h = kept.none_idle n (rw same at h)

    -- the new client stands behind those with lower numbers, and the others keep their cells
    pub list_open : cells_in after (clients_in locations slab)
        ≡ with_client (client_in after new) (kept_view k).list
    list_open =
        let at = place_of_member kept.located vacant inserted place in
        rw (members_more, ← cells_same k.store after clients same)
        (cells_after_insert after clients i new within at.lower at.others)

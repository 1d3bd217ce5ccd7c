-- How many cells are kept.
use Rattle.std.proofs.Common.{◌≡◌, ◌≤◌, ◌<◌, ℕ, List, [], ◌∷◌, length, map, get_or, refl, sym, ap, ◌∙◌, arith}
use Rattle.std.specs.Prelude.{All, sum_by, flat_map}
use Rattle.std.proofs.lemmas.List.{length-map, map-append}
use Rattle.std.proofs.lemmas.List.Sums.{get_or-le-sum_by}
use Rattle.std.proofs.lemmas.List.Elements.{All-map, All-get_or}
use Rattle.inp_ring.specs.declared.cell.Cell.{Cell}
use Rattle.inp_ring.specs.Store.{cell_count, HasCell}
use Rattle.inp_ring.specs.Ring.{times, cell_at, IsRing}
use Rattle.inp_ring.proofs.Moves.{held_there}
use Rattle.inp_client.specs.declared.clients.Clients.TheInside.{Inside}
use Rattle.inp_client.specs.Client.{ClientView}
use Rattle.inp_client.specs.Clients.{distinct}
use Rattle.inp_client.specs.Numbers.{stored_of, held_places}
use Rattle.inp_client.specs.Member.{Member, ring_of, client_in, cells_in, times_in, numbers_in}
use Rattle.inp_client.specs.Locations.{clients_in}
use Rattle.inp_client.specs.Kept.{kept_view, AreKept}
use Rattle.inp_client.proofs.CellCounts.{cells_few, cells_many, cells_exactly, distinct-map, times-numbers_in}
use Rattle.inp_client.proofs.CellCounts.{length-numbers_in, held_numbers-rings, times_of}
use Rattle.std.proofs.Math.Path.{fun_ext}
use Rattle.std.proofs.lemmas.Simd.{map-map}
use Rattle.inp_client.proofs.Lists.{sum_by-map}
use Rattle.inp_client.proofs.OneClient.{kept_known}

module _ (k : Inside) (kept : AreKept k) where
  abbrev members : List Member
  members = clients_in k.locations.items k.slab

  -- each cell is in a ring
  in_some : (n : ℕ) → HasCell k.store n → 1 ≤ times n (numbers_in members)
  in_some n there =
      omega (arith, kept_known k.store members kept.stored kept.none_idle n there, times-numbers_in n members)

  -- each number of a ring has a cell
  has_cell : (n : ℕ) → 1 ≤ times_in n members → HasCell k.store n
  has_cell n there = held_there k.store n (omega (arith, there, kept.stored.held n))

  -- as many cells are kept as there are different numbers
  pub stored_exactly : cell_count k.store ≡ stored_of (kept_view k)
  stored_exactly =
      rw (
        cells_exactly k.store (numbers_in members) in_some
            (λ n there. has_cell n (omega (arith, there, times-numbers_in n members))),
        ← held_numbers-rings,
      )

  -- not fewer than a queue has events
  pub stored_least : All (λ c. length c.ring.events ≤ cell_count k.store) (kept_view k).list
  stored_least =
      All-map (λ (c : ClientView Cell). length c.ring.events ≤ cell_count k.store)
      (client_in k.store) members one
    where
      one : (j : ℕ) (d : Member) → j < length members
          → length (client_in k.store (get_or members j d)).ring.events ≤ cell_count k.store
      one j d in_j =
          let m : Member = get_or members j d in
          let ring = All-get_or (λ m. IsRing (ring_of m)) members j d in_j kept.stored.rings in
          omega (
            arith,
            length-map m.ring.events (cell_at k.store),
            cells_many k.store m.ring.events ring.different
                (λ n there.
                has_cell n (omega (arith, there, get_or-le-sum_by (times_of n) members j d in_j))),
          )

  -- and no more than all queues have
  pub stored_most : cell_count k.store ≤ sum_by (λ c. length c.ring.events) (kept_view k).list
  stored_most =
      omega (
        arith,
        cells_few k.store (numbers_in members) in_some,
        length-numbers_in members,
        lengths members,
      )
    where
      lengths : (ms : List Member)
          → sum_by (λ c. length c.ring.events) (cells_in k.store ms) ≡ sum_by (λ m. length m.ring.events) ms
      lengths ms =
          sum_by-map (λ (c : ClientView Cell). length c.ring.events) (client_in k.store) ms
          ∙ ap (λ (long : Member → ℕ). sum_by long ms)
          (fun_ext (λ m. length-map m.ring.events (cell_at k.store)))

  -- events of different places are different cells
  pub stored_places : length (held_places (kept_view k).list) ≤ cell_count k.store
  stored_places =
      omega (
        arith,
        ap (λ (q : List ℕ). length (distinct q)) (places members),
        distinct-map (λ n. (cell_at k.store n).place) (numbers_in members),
        stored_exactly,
        ap (λ (q : List ℕ). length (distinct q)) (held_numbers-rings members),
      )
    where
      places : (ms : List Member)
          → flat_map (λ (c : ClientView Cell). map (λ (cell : Cell). cell.place) c.ring.events)
          (cells_in k.store ms) ≡ map (λ n. (cell_at k.store n).place) (numbers_in ms)
      places [] = refl
      places (m ∷ ms) =
          rw (map-map (λ (cell : Cell). cell.place) (cell_at k.store) m.ring.events, places ms)
          (sym (map-append (λ n. (cell_at k.store n).place) m.ring.events (numbers_in ms)))

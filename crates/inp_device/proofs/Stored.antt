-- How many events are kept, by the queues of a past.
use Rattle.std.proofs.Common.{◌≡◌, ◌≤◌, ℕ, ◌↔◌, List, [], ◌∷◌, length, map, get_or, refl, sym, ap, ◌∙◌, subst}
use Rattle.std.proofs.Common.{arith}
use Rattle.std.specs.Prelude.{All, sum_by, sum, flat_map}
use Rattle.std.proofs.lemmas.List.{length-map, get_or-map, nil_from_length}
use Rattle.std.proofs.lemmas.List.Sums.{sum-map, sum_by-le}
use Rattle.std.proofs.lemmas.List.Elements.{All-map}
use Rattle.inp_model.specs.declared.step.Step.{Step}
use Rattle.inp_model.specs.declared.taken.Taken.{Taken}
use Rattle.inp_model.specs.Description.{Description, offset}
use Rattle.inp_model.specs.Past.{open_clients}
use Rattle.inp_model.specs.Queue.{Entry, queue}
use Rattle.inp_model.specs.Reply.{taken_of}
use Rattle.inp_ring.specs.declared.cell.Cell.{Cell}
use Rattle.inp_ring.specs.Store as store
use Rattle.inp_client.specs.Client.{ClientView}
use Rattle.inp_client.specs.Clients.{distinct}
use Rattle.inp_client.specs.Numbers.{held_places}
use Rattle.inp_client.specs.Read.{client_on, clients_on}
use Rattle.inp_client.proofs.Lists.{map_over}
use Rattle.inp_device.specs.declared.handler.Handler.{Handler}
use Rattle.inp_device.specs.Present.{client_after, queued_places, HandlerStandsFor}

-- how long the queues are, as they are kept, and as they follow from the past
lengths : (clients : List (ClientView Cell)) (d : Description)
    → map (λ c. length c.ring.events) clients ≡ map (λ (c : ClientView Taken). length c.ring.events)
    (clients_on d clients)
lengths clients d =
    map_over _ (client_on d) (λ (c : ClientView Taken). length c.ring.events) clients
    (λ j e in_j.
    sym (length-map (get_or clients j e).ring.events
    (store.cell_taken (offset d (get_or clients j e).clock))))

lengths_after : (d : Description) (past : List Step) (ns : List ℕ)
    → map (λ (c : ClientView Taken). length c.ring.events) (map (client_after d past) ns)
    ≡ map (λ n. length (queue d past n)) ns
lengths_after d past ns =
    sym (map_over _ (client_after d past) (λ (c : ClientView Taken). length c.ring.events) ns
    (λ j e in_j. sym (length-map (queue d past (get_or ns j e)) taken_of)))

-- the places of the queued events, as they are kept, and as they follow from the past
abbrev places_in : List (ClientView Cell) → List ℕ
places_in clients = flat_map (λ c. map (λ (cell : Cell). cell.place) c.ring.events) clients

abbrev places_on : List (ClientView Taken) → List ℕ
places_on clients = flat_map (λ c. map (λ (t : Taken). t.place) c.ring.events) clients

places_kept : (clients : List (ClientView Cell)) (d : Description)
    → places_in clients ≡ places_on (clients_on d clients)
places_kept [] d = refl
places_kept (c ∷ clients) d =
    rw (
      map_over _ (store.cell_taken (offset d c.clock)) (λ (t : Taken). t.place) c.ring.events
          (λ j e in_j. refl),
      places_kept clients d,
    )

places_after : (d : Description) (past : List Step) (ns : List ℕ)
    → places_on (map (client_after d past) ns)
    ≡ flat_map (λ n. map (λ (e : Entry). e.taken.place) (queue d past n)) ns
places_after d past [] = refl
places_after d past (n ∷ ns) =
    rw (
      ← places_after d past ns,
      map_over _ taken_of (λ (t : Taken). t.place) (queue d past n) (λ j e in_j. refl),
    )

All-of_map : {X : Type 0} (f : X → ℕ) (m : ℕ) (xs : List X) → All (λ k. k ≤ m) (map f xs)
    → All (λ x. f x ≤ m) xs
All-of_map f m xs all i d in_i =
    omega (arith, all i 0 (omega (arith, in_i, length-map xs f)), get_or-map f xs i d 0 in_i)

module _ (d : Description) (past : List Step) (h : Handler) (stands : HandlerStandsFor d past h)
    (stored : ℕ) where
  abbrev long : ℕ → ℕ
  long n = length (queue d past n)

  same_lengths : map (λ c. length c.ring.events) h.clients.list ≡ map long (open_clients past)
  same_lengths =
      lengths h.clients.list d ∙ ap (map (λ (c : ClientView Taken). length c.ring.events)) stands.clients
      ∙ lengths_after d past (open_clients past)

  -- each ring is as long as its client's queue by the past, so none of these is longer
  pub stored_least : All (λ c. length c.ring.events ≤ stored) h.clients.list
      → All (λ n. length (queue d past n) ≤ stored) (open_clients past)
  stored_least all =
      let P : List ℕ → Type 0 = λ ks. All (λ k. k ≤ stored) ks in
      All-of_map long stored (open_clients past)
      (subst P same_lengths
      (All-map (λ k. k ≤ stored) (λ (c : ClientView Cell). length c.ring.events) h.clients.list all))

  -- the rings are as long as the queues by the past, so both sums are the same
  pub stored_most : stored ≤ sum_by (λ c. length c.ring.events) h.clients.list
      → stored ≤ sum_by (λ n. length (queue d past n)) (open_clients past)
  stored_most few =
      omega (
        arith,
        few,
        sum-map (λ (c : ClientView Cell). length c.ring.events) h.clients.list,
        ap sum same_lengths,
        sum-map long (open_clients past),
      )

  -- the cells have the places of the queued events, so as many of them differ
  pub stored_places : length (held_places h.clients.list) ≤ stored → length (queued_places d past) ≤ stored
  stored_places few =
      let same : places_in h.clients.list
      ≡ flat_map (λ n. map (λ (e : Entry). e.taken.place) (queue d past n)) (open_clients past) =
      places_kept h.clients.list d ∙ ap places_on stands.clients ∙ places_after d past (open_clients past) in
      omega (arith, few, ap (λ (ps : List ℕ). length (distinct ps)) same)

  -- nothing is kept where each queue is empty, and there alone
  pub stored_none : All (λ n. length (queue d past n) ≤ stored) (open_clients past)
      → stored ≤ sum_by (λ n. length (queue d past n)) (open_clients past) → (stored ≡ 0)
      ↔ All (λ n. queue d past n ≡ []) (open_clients past)
  stored_none least most = (
    λ e i x in_i. nil_from_length (queue d past (get_or (open_clients past) i x))
        (omega (arith, least i x in_i, e)),
    λ all. omega (
      arith,
      most,
      sum_by-le long 0 (open_clients past) (λ i x in_i. omega (arith, ap length (all i x in_i))),
    ),
  )

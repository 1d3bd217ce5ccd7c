-- Which clients could read something, along the list of clients.
use Rattle.std.proofs.Common.{◌≡◌, ◌≢◌, ◌<◌, ℕ, ◌+◌, Bool, true, false, if◌then◌else◌, List, [], ◌∷◌, ◌++◌}
use Rattle.std.proofs.Common.{length, map, take, drop, set, get_or, refl, ap, ◌∙◌, inl, inr, arith}
use Rattle.std.specs.Prelude.{filter}
use Rattle.std.proofs.Math.Seq.{set-append_seam}
use Rattle.std.proofs.lemmas.Bool.{cases_lt, lt-ltb}
use Rattle.std.proofs.lemmas.List.{append_assoc, append-nil, drop_more, length-append, length-drop}
use Rattle.std.proofs.lemmas.List.{length-take-le, map-append, take_more, take_all, take-append-le, set_past}
use Rattle.std.proofs.lemmas.List.Elements.{filter-append}
use Rattle.slab.specs.Slab.{Slab}
use Rattle.inp_model.specs.Queue.{visible}
use Rattle.inp_model.specs.Reply.{written}
use Rattle.inp_ring.specs.declared.cell.Cell.{Cell}
use Rattle.inp_ring.specs.Store.{StoreView, event_of_cell}
use Rattle.inp_ring.specs.Ring.{AreHeld}
use Rattle.inp_client.specs.declared.location.Location.{Location}
use Rattle.inp_client.specs.Client.{ClientView}
use Rattle.inp_client.specs.Clients.{can_read, readable_in}
use Rattle.inp_client.specs.Member.{Member, client_in, cells_in, AreStored}
use Rattle.inp_client.specs.Locations.{clients_in, AreLocated}
use Rattle.inp_client.proofs.Locations.{members_long, member_found, member_number, IsAt}
use Rattle.inp_client.proofs.OtherClients.{member_held, no_client}

-- those among the first clients
abbrev pub readable_of : StoreView → List Member → List ℕ
readable_of s ms = readable_in event_of_cell (cells_in s ms)

-- one client more
readable_push : (s : StoreView) (ms : List Member) (m : Member)
    → readable_of s (ms ++ m ∷ []) ≡ readable_of s ms ++ readable_of s (m ∷ [])
readable_push s ms m =
    let number : ClientView Cell → ℕ = λ c. c.number in
    ap (readable_in event_of_cell) (map-append (client_in s) ms (m ∷ []))
    ∙ ap (map number) (filter-append (can_read event_of_cell) (cells_in s ms) (cells_in s (m ∷ [])))
    ∙ map-append number (filter (can_read event_of_cell) (cells_in s ms))
    (filter (can_read event_of_cell) (cells_in s (m ∷ [])))

readable_one : (s : StoreView) (m : Member) (b : Bool) → can_read event_of_cell (client_in s m) ≡ b
    → readable_of s (m ∷ []) ≡ (if b then m.number ∷ [] else [])
readable_one s m b e = rw e (by b)
  where
    by : (b : Bool) → map (λ (c : ClientView Cell). c.number) (if b then client_in s m ∷ [] else [])
        ≡ (if b then m.number ∷ [] else [])
    by true = refl
    by false = refl

-- The next client

module _ {locations : List Location} {slab : Slab Member} {store : StoreView}
    (located : AreLocated locations slab)
    (stored : AreStored store (clients_in locations slab) (λ n. 0)) {i key : ℕ} {client : Member}
    (at : IsAt locations slab i key client) where
  abbrev among : List Member
  among = clients_in locations slab

  in_among : i < length among
  in_among = omega (arith, at.within, members_long located)

  next_is : get_or among i no_client ≡ client
  next_is = member_found located at no_client

  -- no holder is owed, so each cell of the ring has that ring as one
  pub next_held : AreHeld store client.ring.events
  next_held = rw next_is at (member_held stored i in_among (λ n there. refl))

  -- the client in a location has the location's number
  pub next_number : client.number ≡ (get_or locations i at.d).number
  next_number = rw (← next_is) (member_number located i at.d no_client at.within)

  next : take (i + 1) among ≡ take i among ++ client ∷ []
  next = rw (take_more among i no_client in_among, next_is)

  pub readable_next : (b : Bool) → can_read event_of_cell (client_in store client) ≡ b
      → readable_of store (take (i + 1) among) ≡ readable_of store (take i among)
      ++ (if b then client.number ∷ [] else [])
  readable_next b e = rw (next, readable_push, readable_one store client b e)

  -- it could read nothing
  pub readable_same : (seen : ℕ)
      → seen ≡ visible event_of_cell (client_in store client).ring.events → seen ≡ 0
      → readable_of store (take (i + 1) among) ≡ readable_of store (take i among)
  readable_same seen is none =
      readable_next false (rw (← is, none)) ∙ append-nil (readable_of store (take i among))

  -- it could read something
  pub readable_more : (seen : ℕ)
      → seen ≡ visible event_of_cell (client_in store client).ring.events → seen ≢ 0
      → readable_of store (take (i + 1) among) ≡ readable_of store (take i among) ++ client.number ∷ []
  readable_more seen is some = readable_next true (rw (← is) (lt-ltb 0 seen (omega (arith, some))))

-- Filling a buffer from its front

-- nothing was written yet, so the buffer is as it was
pub written_none : (buffer : List ℕ) → buffer ≡ written (take (length buffer) []) buffer
written_none buffer = rw (take_all {A = ℕ} (length buffer) [] (omega arith))

-- one number more, where there is room
put_more : (front buffer : List ℕ) (x : ℕ) → length front < length buffer
    → set (written front buffer) (length front) x ≡ written (front ++ x ∷ []) buffer
put_more front buffer x h =
    let n : ℕ = length front in
    let longer : length (front ++ x ∷ []) ≡ n + 1 = length-append front (x ∷ []) in
    rw (
      drop_more buffer n 0 h,
      set-append_seam front (get_or buffer n 0) (drop (n + 1) buffer) x,
      ← append_assoc front (x ∷ []) (drop (n + 1) buffer),
      ← longer,
    )

-- one number more in as many places as there are
pub fit_more : (front buffer : List ℕ) (x n : ℕ) → n ≡ length front
    → set (written (take (length buffer) front) buffer) n x
    ≡ written (take (length buffer) (front ++ x ∷ [])) buffer
fit_more front buffer x n is =
    let room : ℕ = length buffer in
    elim (cases_lt n room) [
      | inl low ↦
          cc (
            take_all room front (omega (arith, low, is)),
            is,
            put_more front buffer x (omega (arith, low, is)),
            take_all room (front ++ x ∷ []) (omega (arith, low, is, length-append front (x ∷ []))),
          )
      | inr high ↦
          rw (
            set_past (written (take room front) buffer) n x
                (omega (
                  arith,
                  high,
                  length-append (take room front) (drop (length (take room front)) buffer),
                  length-drop (length (take room front)) buffer,
                  length-take-le room front (omega (arith, high, is)),
                )),
            ← take-append-le room front (x ∷ []) (omega (arith, high, is)),
          )
    ]

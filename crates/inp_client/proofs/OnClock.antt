-- What is said of cells, said of what clients read.
use Rattle.std.proofs.Common.{◌≡◌, ℕ, suc, ◌+◌, Bool, true, false, ◌&&◌, ◌||◌, not, if◌then◌else◌, nat_eq}
use Rattle.std.proofs.Common.{nat_lt, List, [], ◌∷◌, ◌++◌, length, map, Option, Some, None, refl, sym, ap}
use Rattle.std.proofs.Common.{◌∙◌}
use Rattle.std.specs.Prelude.{filter}
use Rattle.std.specs.Option.{option_map, option_map_or}
use Rattle.std.proofs.lemmas.List.{length-map, map_push, drop-map}
use Rattle.inp_model.specs.declared.event.Event.{Event}
use Rattle.inp_model.specs.declared.taken.Taken.{Taken}
use Rattle.inp_model.specs.declared.clock.Clock.{Clock}
use Rattle.inp_model.specs.declared.clock.Clock.TheVariants.{Realtime, Monotonic, Boottime}
use Rattle.inp_model.specs.Description.{Description, offset}
use Rattle.inp_model.specs.Event.{is_report, syn_dropped}
use Rattle.inp_model.specs.Step.{Query, is_part_of}
use Rattle.inp_model.specs.Queue as model
use Rattle.inp_model.proofs.Removal.{flush-map}
use Rattle.inp_model.specs.Queue.{is_empty, ends_in_report, put, put_all, visible, is_same_clock}
use Rattle.inp_model.specs.Queue.{clock_changed}
use Rattle.inp_ring.specs.declared.cell.Cell.{Cell}
use Rattle.inp_ring.specs.Store.{event_of_cell, dropped_cell, cell_taken}
use Rattle.inp_client.specs.Masks.{admits_of}
use Rattle.inp_client.specs.Client.{ClientView, with_events, is_offered_to, cell_of_event, admitted_cells}
use Rattle.inp_client.specs.Client.{after_offer, after_take, after_flush, after_clock}
use Rattle.inp_client.specs.Clients.{has_number, has_client, client_named, has_revoked_client, events_of}
use Rattle.inp_client.specs.Clients.{map_client, with_client, without_client}
use Rattle.std.proofs.lemmas.Simd.{map-map}
use Rattle.inp_client.proofs.Lists.{either_map, list_any-map, map_over}
use Rattle.inp_client.specs.Read.{taken_event, client_on, clients_on, taken_at, admitted_events}
use Rattle.inp_client.specs.Read.{read_after_offer, read_after_clock}

-- A queue of items that are made of others, with the same events.
module _ {X Y : Type 0} (f : X → Y) (event : X → Event) (event' : Y → Event) (same : (x : X)
    → event' (f x) ≡ event x) where
  -- what can be seen follows from the events, and those are the same
  pub visible-on : (q : List X) → visible event' (map f q) ≡ visible event q
  visible-on [] = refl
  visible-on (x ∷ q) = rw (same, visible-on q)

  ends-on : (q : List X)
      → (is_empty (map f q) || ends_in_report event' (map f q)) ≡ (is_empty q || ends_in_report event q)
  ends-on [] = refl
  ends-on (x ∷ []) = rw (same x)
  ends-on (x ∷ y ∷ q) = ends-on (y ∷ q)

  put-on : (lost : X → X) (lost' : Y → Y) → ((x : X) → lost' (f x) ≡ f (lost x))
      → (places : ℕ) (q : List X) (x : X)
      → put event' lost' places (map f q) (f x) ≡ map f (put event lost places q x)
  put-on lost lost' alike places q x =
      rw (left_out, length-map, alike)
      (either (is_report (event x) && (is_empty q || ends_in_report event q))
      (nat_lt (suc (length q)) places))
    where
      left_out : (is_report (event' (f x)) && (is_empty (map f q) || ends_in_report event' (map f q)))
          ≡ (is_report (event x) && (is_empty q || ends_in_report event q))
      left_out = rw (same, ends-on)

      either : (a b : Bool)
          → (if a then map f q else if b then map f q ++ f x ∷ [] else f (lost x) ∷ f x ∷ [])
          ≡ map f (if a then q else if b then q ++ x ∷ [] else lost x ∷ x ∷ [])
      either true b = refl
      either false true = sym (map_push f q x)
      either false false = refl

  -- what is left out, put in or lost follows from the events, and those are the same
  pub put_all-on : (lost : X → X) (lost' : Y → Y) → ((x : X) → lost' (f x) ≡ f (lost x))
      → (places : ℕ) (q xs : List X) → put_all event' lost' places (map f q) (map f xs) ≡ map f
      (put_all event lost places q xs)
  put_all-on lost lost' alike places q [] = refl
  put_all-on lost lost' alike places q (x ∷ xs) =
      rw (← put-on lost lost' alike places q x) at (put_all-on lost lost' alike places
      (put event lost places q x) xs)

same_clock : (a b : Clock) → is_same_clock a b ≡ true → a ≡ b
same_clock Realtime Realtime e = refl
same_clock Monotonic Monotonic e = refl
same_clock Boottime Boottime e = refl
same_clock _ _ e = absurd (cc e)

-- the calls
module _ (d : Description) where
  -- a clock changes the times alone, and what can be seen follows from the events
  pub visible-client_on : (c : ClientView Cell)
      → visible taken_event (client_on d c).ring.events ≡ visible event_of_cell c.ring.events
  visible-client_on c =
      visible-on (cell_taken (offset d c.clock)) event_of_cell taken_event (λ x. refl) c.ring.events

  -- the first events go, at whatever times they are read
  pub on_take : (count : ℕ) (c : ClientView Cell)
      → client_on d (after_take count c) ≡ after_take count (client_on d c)
  on_take count c = rw (← drop-map)

  -- a clock changes the times alone, and what is flushed follows from the events
  pub on_flush : (query : Query) (c : ClientView Cell)
      → client_on d (after_flush event_of_cell query c) ≡ after_flush taken_event query (client_on d c)
  on_flush query c =
      rw (flush-map (cell_taken (offset d c.clock)) event_of_cell taken_event (λ x. refl)
      (is_part_of query) c.ring.events)

  -- on the same clock all times stay, and on another one the SYN_DROPPED is timed by it
  pub on_clock : (clock : Clock) (now place : ℕ) (c : ClientView Cell)
      → client_on d (after_clock clock now place c) ≡ read_after_clock d clock now place (client_on d c)
  on_clock clock now place c =
      rw (queue (is_same_clock c.clock clock) c.ring.events
      (λ e. ap (offset d) (sym (same_clock c.clock clock e))))
    where
      queue : (b : Bool) (q : List Cell) → (b ≡ true → offset d clock ≡ offset d c.clock)
          → map (cell_taken (offset d clock)) (clock_changed b (cell_of_event now place syn_dropped) q)
          ≡ clock_changed b (taken_at (now + offset d clock) place syn_dropped)
          (map (cell_taken (offset d c.clock)) q)
      queue b [] h = refl
      queue true (x ∷ q) h = cc (h refl)
      queue false (x ∷ q) h = refl

  -- the events that come are timed by the client's clock, and so is a SYN_DROPPED
  pub on_offer : (frame : List Event) (now place : ℕ) (holder : Option ℕ) (c : ClientView Cell)
      → client_on d (after_offer frame now place holder c)
      ≡ read_after_offer d frame now place holder (client_on d c)
  on_offer frame now place holder c =
      rw (
        either_map (client_on d) (is_offered_to holder c)
            (with_events
            (put_all event_of_cell dropped_cell c.ring.places c.ring.events
            (admitted_cells frame now place c)) c)
            c,
        ← queue,
      )
    where
      items : (es : List Event)
          → map (taken_at (now + offset d c.clock) place) es
          ≡ map (cell_taken (offset d c.clock)) (map (cell_of_event now place) es)
      items [] = refl
      items (e ∷ es) = rw (items es)

      queue : put_all taken_event model.dropped_at c.ring.places (client_on d c).ring.events
          (admitted_events d frame now place (client_on d c))
          ≡ map (cell_taken (offset d c.clock))
          (put_all event_of_cell dropped_cell c.ring.places c.ring.events (admitted_cells frame now place c))
      queue =
          ap (put_all taken_event model.dropped_at c.ring.places (client_on d c).ring.events)
          (items (filter (admits_of c.masks) frame))
          ∙ put_all-on (cell_taken (offset d c.clock)) event_of_cell taken_event
          (λ x. refl) dropped_cell model.dropped_at (λ x. refl) c.ring.places c.ring.events
          (admitted_cells frame now place c)

  -- the list of clients
  pub clients_on-map : (change : ClientView Cell → ClientView Cell) (change' : ClientView Taken
      → ClientView Taken) → ((c : ClientView Cell) → client_on d (change c) ≡ change' (client_on d c))
      → (clients : List (ClientView Cell))
      → clients_on d (map change clients) ≡ map change' (clients_on d clients)
  clients_on-map change change' same clients =
      map-map (client_on d) change clients ∙ map_over (λ c. client_on d (change c))
      (client_on d) change' clients (λ j e in_j. same _)

  -- the client with the number changes so, and the others are read as before
  pub clients_on-map_client : (number : ℕ) (change : ClientView Cell → ClientView Cell)
      (change' : ClientView Taken → ClientView Taken)
      → ((c : ClientView Cell) → client_on d (change c) ≡ change' (client_on d c))
      → (clients : List (ClientView Cell))
      → clients_on d (map_client number change clients) ≡ map_client number change' (clients_on d clients)
  clients_on-map_client number change change' same clients =
      clients_on-map (λ c. if has_number number c then change c else c)
      (λ c. if has_number number c then change' c else c)
      (λ c. rw (either_map (client_on d) (has_number number c) (change c) c, same c)) clients

  -- a client has one number, whatever clock it reads on
  pub has_client-on : (number : ℕ) (clients : List (ClientView Cell))
      → has_client number (clients_on d clients) ≡ has_client number clients
  has_client-on number clients = list_any-map (has_number number) (client_on d) clients

  -- a client has one number, whatever clock it reads on, so the same one is named
  pub client_named-on : (number : ℕ) (clients : List (ClientView Cell))
      → client_named number (clients_on d clients) ≡ option_map (client_on d) (client_named number clients)
  client_named-on number [] = refl
  client_named-on number (c ∷ clients) =
      rw (client_named-on number clients)
      (sym (either_map (option_map (client_on d)) (nat_eq c.number number) (Some c)
      (client_named number clients)))

  -- the same client is named, and a clock changes no revocation
  pub has_revoked_client-on : (number : ℕ) (clients : List (ClientView Cell))
      → has_revoked_client number (clients_on d clients) ≡ has_revoked_client number clients
  has_revoked_client-on number clients = rw client_named-on (one (client_named number clients))
    where
      one : (o : Option (ClientView Cell))
          → option_map_or (λ c. c.revoked) (option_map (client_on d) o) false
          ≡ option_map_or (λ c. c.revoked) o false
      one None = refl
      one (Some c) = refl

  -- the same client is named, and a clock changes its times alone
  pub visible-on_clock : (number : ℕ) (clients : List (ClientView Cell))
      → visible taken_event (events_of number (clients_on d clients))
      ≡ visible event_of_cell (events_of number clients)
  visible-on_clock number clients = rw client_named-on (one (client_named number clients))
    where
      one : (o : Option (ClientView Cell))
          → visible taken_event (option_map_or (λ c. c.ring.events) (option_map (client_on d) o) [])
          ≡ visible event_of_cell (option_map_or (λ c. c.ring.events) o [])
      one None = refl
      one (Some c) = visible-client_on c

  -- a client has one number, whatever clock it reads on, so the same ones stay
  pub without_client-on : (number : ℕ) (clients : List (ClientView Cell))
      → clients_on d (without_client number clients) ≡ without_client number (clients_on d clients)
  without_client-on number [] = refl
  without_client-on number (c ∷ clients) =
      rw (
        either_map (clients_on d) (not (nat_eq c.number number)) (c ∷ without_client number clients)
            (without_client number clients),
        without_client-on number clients,
      )

  -- a client has one number, whatever clock it reads on, so the place is the same
  pub with_client-on : (new : ClientView Cell) (clients : List (ClientView Cell))
      → clients_on d (with_client new clients) ≡ with_client (client_on d new) (clients_on d clients)
  with_client-on new [] = refl
  with_client-on new (c ∷ clients) =
      rw (
        either_map (clients_on d) (nat_lt c.number new.number) (c ∷ with_client new clients)
            (new ∷ c ∷ clients),
        with_client-on new clients,
      )

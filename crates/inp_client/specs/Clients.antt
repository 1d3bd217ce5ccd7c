-- The list of the open clients, ascending by number, and the cells that they share.
use Rattle.std.specs.Prelude.{ℕ, Bool, false, not, if◌then◌else◌, nat_eq, nat_lt, List, [], ◌∷◌, map, filter, Option}
use Rattle.std.specs.List.{find, list_any}
use Rattle.std.specs.Option.{option_map_or}
use Rattle.inp_model.specs.declared.event.Event.{Event}
use Rattle.inp_model.specs.declared.clock.Clock.{Clock}
use Rattle.inp_model.specs.declared.clock.Clock.TheVariants.{Realtime}
use Rattle.inp_model.specs.Queue.{visible}
use Rattle.inp_ring.specs.declared.cell.Cell.{Cell}
use Rattle.inp_ring.specs.Ring.{times}
use Rattle.inp_client.specs.Masks.{MaskView, full_masks}
use Rattle.inp_client.specs.Client.{ClientView}

-- The open clients, each with its queue of cells; and for each of them, in that order, the numbers of the
-- cells that its ring holds.
pub record ClientsView : Type 0 where
  pub list : List (ClientView Cell)
  pub rings : List (List ℕ)

-- the numbers, each once
abbrev pub distinct : List ℕ → List ℕ
distinct [] = []
distinct (n ∷ q) = if nat_lt 0 (times n q) then distinct q else n ∷ distinct q

module _ {E : Type 0} where
  -- the client has this number
  abbrev pub has_number : ℕ → ClientView E → Bool
  has_number number c = nat_eq c.number number

  -- a client with this number is open
  abbrev pub has_client : ℕ → List (ClientView E) → Bool
  has_client number clients = list_any (has_number number) clients

  -- the open client with this number
  abbrev pub client_named : ℕ → List (ClientView E) → Option (ClientView E)
  client_named number clients = find (has_number number) clients

  -- whether it was revoked, false where it is not open
  abbrev pub has_revoked_client : ℕ → List (ClientView E) → Bool
  has_revoked_client number clients = option_map_or (λ c. c.revoked) (client_named number clients) false

  -- the clock by which it reads its events, that of a new client where it is not open
  abbrev pub clock_of_client : ℕ → List (ClientView E) → Clock
  clock_of_client number clients = option_map_or (λ c. c.clock) (client_named number clients) Realtime

  -- its masks, those of a new client where it is not open
  abbrev pub masks_of_client : ℕ → List (ClientView E) → MaskView
  masks_of_client number clients = option_map_or (λ c. c.masks) (client_named number clients) full_masks

  -- its queue, empty where it is not open
  abbrev pub events_of : ℕ → List (ClientView E) → List E
  events_of number clients = option_map_or (λ c. c.ring.events) (client_named number clients) []

  -- something of its queue is visible
  abbrev pub can_read : (E → Event) → ClientView E → Bool
  can_read event c = nat_lt 0 (visible event c.ring.events)

  -- the numbers of the clients that could read something now
  abbrev pub readable_in : (E → Event) → List (ClientView E) → List ℕ
  readable_in event clients = map (λ c. c.number) (filter (can_read event) clients)

  -- one client is changed, and the others stay
  abbrev pub map_client : ℕ → (ClientView E → ClientView E) → List (ClientView E) → List (ClientView E)
  map_client number change clients = map (λ c. if has_number number c then change c else c) clients

  -- one client is closed, and the others stay
  abbrev pub without_client : ℕ → List (ClientView E) → List (ClientView E)
  without_client number clients = filter (λ c. not (has_number number c)) clients

  -- one client is opened: it stands after those with lower numbers, and the others stay
  abbrev pub with_client : ClientView E → List (ClientView E) → List (ClientView E)
  with_client new [] = new ∷ []
  with_client new (c ∷ clients) = if nat_lt c.number new.number then c ∷ with_client new clients else new ∷ c ∷ clients

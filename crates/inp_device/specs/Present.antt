-- What a device keeps stands for its past, and what a step leaves of it.
use Rattle.std.specs.Prelude.{◌≡◌, ℕ, ◌+◌, ◌*◌, ◌≤◌, ◌<◌, ℤ, Bool, true, false, ◌&&◌, nat_lt, List, ◌∷◌, length, map, flat_map, reverse, Option, Some, None, Result, Ok, Err}
use Rattle.inp_model.specs.declared.limits.TheConstants.{LOG_MAX}
use Rattle.inp_model.specs.declared.clock.Clock.TheVariants.{Realtime}
use Rattle.inp_model.specs.declared.no_memory.NoMemory.{NoMemory}
use Rattle.inp_model.specs.declared.taken.Taken.{Taken}
use Rattle.inp_model.specs.declared.step.Step.{Step}
use Rattle.inp_model.specs.declared.step.Step.TheVariants.{Open}
use Rattle.inp_model.specs.declared.reply.Reply.{Reply}
use Rattle.inp_model.specs.Description.{Description, ring}
use Rattle.inp_model.specs.History.{IsHistory}
use Rattle.inp_model.specs.Step.{client_of, query_of, Codes}
use Rattle.inp_model.specs.Past.{opens, open_clients, is_revoked, holder, clock_of, mask_bit, has_mask, mask_words, ends}
use Rattle.inp_model.specs.Left.{given_in}
use Rattle.inp_model.specs.Queue.{queue}
use Rattle.inp_model.specs.Reply.{refused, accepted, taken_of, written}
use Rattle.inp_frames.specs.Core.{CoreStandsFor, IsFor}
use Rattle.inp_filter.specs.FilterState.{FiltersStandFor}
use Rattle.inp_client.specs.Masks.{masks_with}
use Rattle.inp_ring.specs.declared.cell.Cell.{Cell}
use Rattle.inp_client.specs.Client.{ClientView}
use Rattle.inp_client.specs.Clients.{has_client, distinct}
use Rattle.inp_client.specs.Numbers.{stored_of}
use Rattle.inp_client.specs.Read.{clients_on}
use Rattle.inp_device.specs.declared.handler.Handler.{Handler}
use Rattle.inp_device.specs.Device.{stored_most}
use Rattle.inp_device.specs.declared.present.Present.{Present}

-- a client after a past, with its queue as it reads it
abbrev pub client_after : Description → List Step → ℕ → ClientView Taken
client_after d past client = record {
  number = client;
  ring = record { places = ring d; events = map taken_of (queue d past client) };
  masks = masks_with (mask_bit past client);
  clock = clock_of past client;
  revoked = is_revoked past client;
}

-- the open clients after a past
abbrev pub clients_after : Description → List Step → List (ClientView Taken)
clients_after d past = map (client_after d past) (open_clients past)

-- the places in the history of all queued events, each once: events of different steps are kept apart
abbrev pub queued_places : Description → List Step → List ℕ
queued_places d past = distinct (flat_map (λ client. map (λ e. e.taken.place) (queue d past client)) (open_clients past))

-- a bit that there is of a mask that there is
abbrev pub is_mask_bit : ℕ → ℕ → Bool
is_mask_bit kind index = has_mask kind && nat_lt index (64 * mask_words kind)

-- bits that there are not are set
abbrev pub EndsSet : (ℕ → ℕ → Bool) → Type 0
EndsSet bit = (kind index : ℕ) → is_mask_bit kind index ≡ false → bit kind index ≡ true

-- no client ever cleared a bit that there is not
abbrev pub MasksEnd : List Step → Type 0
MasksEnd past = (client : ℕ) → EndsSet (mask_bit past client)

-- No step ever named the client: its masks are full, its clock is the first one, and it is not revoked.
pub record IsFresh (past : List Step) (client : ℕ) : Type 0 where
  pub bits : (kind index : ℕ) → mask_bit past client kind index ≡ true
  pub clock : clock_of past client ≡ Realtime
  pub revoked : is_revoked past client ≡ false

-- each client that is not opened yet is fresh
abbrev pub AreFresh : List Step → Type 0
AreFresh past = (client : ℕ) → opens past ≤ client → IsFresh past client

-- The handler stands for the clients of a past, with what they read of their cells, and for what came to the filters.
pub record HandlerStandsFor (d : Description) (past : List Step) (h : Handler) : Type 0 where
  pub clients : clients_on d h.clients.list ≡ clients_after d past
  pub filters : FiltersStandFor d.filters (given_in d past) h.filters.kept
  pub masks : MasksEnd past
  pub fresh : AreFresh past

-- What is kept stands for a past, newest first.
pub record PresentStandsFor (d : Description) (past : List Step) (p : Present) : Type 0 where
  pub caps : p.caps ≡ d
  pub core : CoreStandsFor d past p.core
  pub made : IsFor d p.core
  pub handler : HandlerStandsFor d past p.handler
  pub holder : p.handles.holder ≡ holder past
  pub opens : p.opens ≡ opens past
  pub ends : p.ends ≡ ends past

-- what is kept stands for the history, oldest first, and nothing refuses the step
pub record IsReadyFor (history : List Step) (x : Step) (p : Present) : Type 0 where
  pub stands : PresentStandsFor p.caps (reverse history) p
  pub few : length history < LOG_MAX
  pub allowed : refused p.caps (reverse history) x ≡ None

-- What a step that nothing refuses leaves: its reply, what is written to the caller's buffers, and what is kept.
pub record IsAcceptedStep (history : List Step) (x : Step) (old : Present) (reply : Reply) (out new_out : List Taken) (cells new_cells : List ℤ) (new : Present) : Type 0 where
  pub replied : reply ≡ (accepted old.caps (reverse history) x).reply
  pub out_written : new_out ≡ written (accepted old.caps (reverse history) x).events out
  pub cells_written : new_cells ≡ written (accepted old.caps (reverse history) x).cells cells
  pub stands : PresentStandsFor old.caps (x ∷ reverse history) new

-- the same, or it was an open for which memory ran out, and nothing changed
abbrev pub IsMadeOrLacks : List Step → Step → Present → Result Reply NoMemory → List Taken → List Taken → List ℤ → List ℤ → Present → Type 0
IsMadeOrLacks history x old (Ok reply) out new_out cells new_cells new = IsAcceptedStep history x old reply out new_out cells new_cells new
IsMadeOrLacks history x old (Err e) out new_out cells new_cells new =
    (x ≡ Open) × (new_out ≡ out) × (new_cells ≡ cells) × PresentStandsFor old.caps (reverse history) new

-- the step added to the events that are kept as many as it may, or fewer
abbrev pub StoresFew : List Step → Step → Present → Present → Type 0
StoresFew history x old new = stored_of new.handler.clients ≤ stored_of old.handler.clients + stored_most old.caps (reverse history) x

-- the same, or nothing was done, and as many events are kept as before
abbrev pub StoresFewOrLacks : List Step → Step → Present → Result Reply NoMemory → Present → Type 0
StoresFewOrLacks history x old (Ok reply) new = StoresFew history x old new
StoresFewOrLacks history x old (Err e) new = stored_of new.handler.clients ≡ stored_of old.handler.clients

-- an open client is named, if one is
abbrev pub NamesOpen : List (ClientView Cell) → Option ℕ → Type 0
NamesOpen clients None = Unit {0}
NamesOpen clients (Some client) = has_client client clients ≡ true

-- the step of this client asks for the codes of this type
pub record AsksBits (x : Step) (client kind : ℕ) : Type 0 where
  pub named : client_of x ≡ Some client
  pub whole : query_of x ≡ Some (Codes kind)

-- what is kept stands for the history, which has room for all that it may have
pub record IsKeptWith (history : List Step) (capacity : ℕ) (p : Present) : Type 0 where
  pub stands : PresentStandsFor p.caps (reverse history) p
  -- it holds accepted steps only
  pub accepted : IsHistory p.caps (reverse history)
  pub within : length history ≤ p.caps.log_limit
  pub room : p.caps.log_limit ≤ capacity
  pub range : p.caps.log_limit ≤ LOG_MAX

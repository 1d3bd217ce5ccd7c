-- A step read on its own. A new step decides in `client_and_moment`, which has a row for each. In the other tests and
-- selectors a step that has no row says nothing.
use Rattle.std.specs.Prelude.{◌==◌, ℕ, ◌/◌, ◌%◌, Bool, true, false, ◌&&◌, if◌then◌else◌, nat_eq, Option, Some, None}
use Rattle.std.specs.Int.{bit_at}
use Rattle.inp_model.specs.declared.event.TheConstants.{EV_KEY, EV_SW, EV_LED, EV_SND}
use Rattle.inp_model.specs.declared.event.Event.{Event}
use Rattle.inp_model.specs.declared.clock.Clock.{Clock}
use Rattle.inp_model.specs.declared.step.Step.{Step}
use Rattle.inp_model.specs.declared.step.Step.TheVariants.{Inject, Tick, Open, Close, Read, Discard, GetKeys, GetSwitches, GetLeds, GetSounds, GetAxis, SetAxis, GetSlots, SyncSlots, Write, Grab, Ungrab, Mask, Clock as ToClock, Revoke, Inhibit, Uninhibit, End}
use Rattle.inp_model.specs.Event.{is_multi_touch}

-- the client that a step names, and its moment, 0 where it has none (docs/RULES.md, "Places and moments")
abbrev pub client_and_moment : Step → Option ℕ × ℕ
client_and_moment (Inject e now) = (None, now)
client_and_moment (Tick now) = (None, now)
client_and_moment Open = (None, 0)
client_and_moment (Close client) = (Some client, 0)
client_and_moment (Read client count) = (Some client, 0)
client_and_moment (Discard client) = (Some client, 0)
client_and_moment (GetKeys client) = (Some client, 0)
client_and_moment (GetSwitches client) = (Some client, 0)
client_and_moment (GetLeds client) = (Some client, 0)
client_and_moment (GetSounds client) = (Some client, 0)
client_and_moment (GetAxis client code) = (Some client, 0)
client_and_moment (SetAxis client code axis) = (Some client, 0)
client_and_moment (GetSlots client code) = (Some client, 0)
client_and_moment (SyncSlots client) = (Some client, 0)
client_and_moment (Write client e now) = (Some client, now)
client_and_moment (Grab client) = (Some client, 0)
client_and_moment (Ungrab client) = (Some client, 0)
client_and_moment (Mask client kind word bits) = (Some client, 0)
client_and_moment (ToClock client clock now) = (Some client, now)
client_and_moment (Revoke client) = (Some client, 0)
client_and_moment (Inhibit now) = (None, now)
client_and_moment Uninhibit = (None, 0)
client_and_moment End = (None, 0)

abbrev pub client_of : Step → Option ℕ
client_of x = (client_and_moment x).0

abbrev pub moment_of : Step → ℕ
moment_of x = (client_and_moment x).1

-- an event is injected
abbrev pub is_inject : Step → Bool
is_inject (Inject e now) = true
is_inject _ = false

-- a client opens (docs/RULES.md, "Opening and closing")
abbrev pub is_open_step : Step → Bool
is_open_step Open = true
is_open_step _ = false

-- this client is closed (docs/RULES.md, "Opening and closing")
abbrev pub is_close_of : ℕ → Step → Bool
is_close_of client (Close named) = nat_eq named client
is_close_of client _ = false

-- this client is revoked (docs/RULES.md, "Revocation")
abbrev pub is_revoke_of : ℕ → Step → Bool
is_revoke_of client (Revoke named) = nat_eq named client
is_revoke_of client _ = false

-- the client that takes the grab, if one does (docs/RULES.md, "The grab")
abbrev pub grabber_of : Step → Option ℕ
grabber_of (Grab client) = Some client
grabber_of _ = None

-- this client, which holds the grab, no longer does: it gives it up, is closed or is revoked
-- (docs/RULES.md, "The grab")
abbrev pub ends_grab_of : ℕ → Step → Bool
ends_grab_of client (Ungrab named) = nat_eq named client
ends_grab_of client (Close named) = nat_eq named client
ends_grab_of client (Revoke named) = nat_eq named client
ends_grab_of client _ = false

-- the clock that this client chooses, if it does (docs/RULES.md, "Clocks")
abbrev pub clock_for : ℕ → Step → Option Clock
clock_for client (ToClock named clock now) = if nat_eq named client then Some clock else None
clock_for client _ = None

-- what this client sets the bit of one of its masks to, if it does (docs/RULES.md, "Masks")
abbrev pub mask_bit_for : ℕ → ℕ → ℕ → Step → Option Bool
mask_bit_for client kind index (Mask named of_kind word bits) =
    if nat_eq named client && nat_eq of_kind kind && nat_eq word (index / 64) then Some (bit_at bits (index % 64) == 1) else None
mask_bit_for client kind index _ = None

-- the device is inhibited, or it no longer is (docs/RULES.md, "Inhibition")
abbrev pub inhibition_of : Step → Option Bool
inhibition_of (Inhibit now) = Some true
inhibition_of Uninhibit = Some false
inhibition_of _ = None

-- an axis is described anew (docs/RULES.md, "Axes described anew")
abbrev pub is_description : Step → Bool
is_description (SetAxis client code axis) = true
is_description _ = false

-- a source is done (docs/RULES.md, "The end of a source")
abbrev pub is_end_step : Step → Bool
is_end_step End = true
is_end_step _ = false

-- the client is the one named, if one is
abbrev pub is_same : Option ℕ → ℕ → Bool
is_same None client = false
is_same (Some named) client = nat_eq named client

-- What a query tells whole, so that the client's queued events of it are removed (docs/RULES.md, "Queries").
pub data Query : Type 0 where
  -- all codes of a type, as all keys
  Codes : ℕ → Query
  -- all values of all slots
  Slots : Query

-- what a step tells whole, if it does
abbrev pub query_of : Step → Option Query
query_of (GetKeys client) = Some (Codes EV_KEY)
query_of (GetSwitches client) = Some (Codes EV_SW)
query_of (GetLeds client) = Some (Codes EV_LED)
query_of (GetSounds client) = Some (Codes EV_SND)
query_of (SyncSlots client) = Some Slots
query_of _ = None

-- an event that tells a part of what the query tells whole
abbrev pub is_part_of : Query → Event → Bool
is_part_of (Codes kind) e = nat_eq e.kind kind
is_part_of Slots e = is_multi_touch e

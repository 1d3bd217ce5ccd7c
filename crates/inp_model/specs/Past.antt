-- What a history says of clients, their clocks and masks, the grab, the inhibition, the sources and
-- descriptions of axes. Here a history is written newest first, and is called a past.
use Rattle.std.specs.Prelude.{ℕ, suc, Bool, true, false, ◌&&◌, ◌||◌, not, if◌then◌else◌, nat_eq, nat_le, List, [], ◌∷◌, take, reverse, filter, Option, Some, None, is_some, unwrap_or}
use Rattle.std.specs.List.{range_with_len}
use Rattle.inp_model.specs.declared.event.TheConstants.{EV_SYN, EV_KEY, EV_SW, EV_LED, EV_SND, EV_REP}
use Rattle.inp_model.specs.declared.event.Event.{Event}
use Rattle.inp_model.specs.declared.clock.Clock.{Clock}
use Rattle.inp_model.specs.declared.clock.Clock.TheVariants.{Realtime}
use Rattle.inp_model.specs.declared.step.Step.{Step}
use Rattle.inp_model.specs.Step.{client_of, is_open_step, is_close_of, is_revoke_of, grabber_of, ends_grab_of, clock_for, mask_bit_for, inhibition_of, is_end_step, is_same}

-- the past before the place at, of a history that is written oldest first (docs/RULES.md, "Places and moments")
abbrev pub past_at : List Step → ℕ → List Step
past_at history at = reverse (take at history)

-- how many clients were opened: the number of the next one (docs/RULES.md, "Opening and closing")
unfoldable pub opens : List Step → ℕ
opens [] = 0
opens (x ∷ past) = if is_open_step x then suc (opens past) else opens past

-- the step opens this client
abbrev pub is_opening : List Step → ℕ → Step → Bool
is_opening past client x = is_open_step x && nat_eq (opens past) client

-- the step is the client's own: it opens it, or names it
abbrev pub is_call_of : List Step → ℕ → Step → Bool
is_call_of past client x = if is_opening past client x then true else is_same (client_of x) client

-- A client is open from the step that opens it until the one that closes it (docs/RULES.md, "Opening and closing").
unfoldable pub is_open : List Step → ℕ → Bool
is_open [] client = false
is_open (x ∷ past) client =
    let before = is_open past client in
    if is_opening past client x then true else if is_close_of client x then false else before

-- the numbers of the open clients, ascending
abbrev pub open_clients : List Step → List ℕ
open_clients past = filter (is_open past) (range_with_len 0 (opens past))

-- A client is revoked for good (docs/RULES.md, "Revocation").
unfoldable pub is_revoked : List Step → ℕ → Bool
is_revoked [] client = false
is_revoked (x ∷ past) client = let before = is_revoked past client in if is_revoke_of client x then true else before

-- the holder that a step leaves, where it is not the one that takes the grab
abbrev pub holder_kept : Step → Option ℕ → Option ℕ
holder_kept x None = None
holder_kept x (Some client) = if ends_grab_of client x then None else Some client

-- The client that holds the grab: the last one that took it, until it gives it up, is closed or is revoked
-- (docs/RULES.md, "The grab").
unfoldable pub holder : List Step → Option ℕ
holder [] = None
holder (x ∷ past) = let before = holder past in if is_some (grabber_of x) then grabber_of x else holder_kept x before

-- another client holds the grab
abbrev pub is_other : Option ℕ → ℕ → Bool
is_other None client = false
is_other (Some other) client = not (nat_eq other client)

-- the clock by which a client's events are timed: the last one that it chose, and the realtime clock at first
-- (docs/RULES.md, "Clocks")
unfoldable pub clock_of : List Step → ℕ → Clock
clock_of [] client = Realtime
clock_of (x ∷ past) client = let before = clock_of past client in unwrap_or (clock_for client x) before

-- the type has a mask of its codes; the mask of the types themselves goes by the type EV_SYN (docs/RULES.md, "Masks")
abbrev pub has_mask : ℕ → Bool
has_mask kind = nat_le kind EV_SW || nat_eq kind EV_LED || nat_eq kind EV_SND

-- how many words of 64 bits a mask has (docs/RULES.md, "Masks")
abbrev pub mask_words : ℕ → ℕ
mask_words kind = if nat_eq kind EV_KEY then 12 else 1

-- a bit of one of a client's masks: what it was last set to, and set at first (docs/RULES.md, "Masks")
unfoldable pub mask_bit : List Step → ℕ → ℕ → ℕ → Bool
mask_bit [] client kind index = true
mask_bit (x ∷ past) client kind index =
    let before = mask_bit past client kind index in
    unwrap_or (mask_bit_for client kind index x) before

-- A client admits an event where the bits of its type and of its code are set. EV_SYN is always admitted, and of EV_REP
-- the type decides alone (docs/RULES.md, "Masks").
abbrev pub admits : List Step → ℕ → Event → Bool
admits past client e =
    nat_eq e.kind EV_SYN
    || (mask_bit past client EV_SYN e.kind && (nat_eq e.kind EV_REP || mask_bit past client e.kind e.code))

-- what follows the last inhibition, or the last end of one (docs/RULES.md, "Inhibition")
unfoldable pub is_inhibited : List Step → Bool
is_inhibited [] = false
is_inhibited (x ∷ past) = let before = is_inhibited past in unwrap_or (inhibition_of x) before

-- how many sources are done (docs/RULES.md, "The end of a source")
unfoldable pub ends : List Step → ℕ
ends [] = 0
ends (x ∷ past) = if is_end_step x then suc (ends past) else ends past

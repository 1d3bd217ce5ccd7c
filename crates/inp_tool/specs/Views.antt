-- A record worked out by hand: at which reports a client's view can be trusted, and what the view shows there
-- (docs/PROMISES.md, "An example").
use Rattle.std.specs.Prelude.{◌^◌, ◌-◌, ℕ, zero, suc, ℤ, pos, ◌≡◌, Bool, true, false, nat_lt, ◌&&◌, List, [], ◌∷◌, ◌++◌, map, filter, take, replicate, reverse, slice_get, Some}
use Rattle.inp_model.specs.declared.event.TheConstants.{EV_KEY, EV_REL, KEY_A}
use Rattle.inp_model.specs.declared.event.Event.{Event}
use Rattle.inp_model.specs.declared.clock.Clock.TheVariants.{Monotonic}
use Rattle.inp_model.specs.declared.step.Step.{Step}
use Rattle.inp_model.specs.declared.step.Step.TheVariants.{Inject, Open, Read, Discard, GetKeys, Grab, Ungrab, Mask, Clock as ToClock, Revoke, Inhibit, Uninhibit}
use Rattle.inp_model.specs.Description.{Description, one_key}
use Rattle.inp_model.specs.State.{key_down}
use Rattle.inp_model.specs.RawItem.{Frame}
use Rattle.inp_model.specs.Frame.{place}
use Rattle.inp_model.specs.Left.{eaten}
use Rattle.inp_model.specs.Queue.{Entry, event_of, taken_by}
use Rattle.inp_model.specs.examples.Frames.{report}
use Rattle.inp_recon.specs.ClientView.{ReadEntry, entries_of_read, view_at}
use Rattle.inp_recon.specs.Synchronised.{sync_place, is_dropped, is_synchronised}
use Rattle.inp_recon.specs.Undisturbed.{is_undisturbed}
use Rattle.inp_recon.specs.Faithful.{IsReportOf}
use Rattle.inp_recon.specs.Examples.{event, has_key}

abbrev pub KEY_B : ℕ
KEY_B = 48

-- The keyboard of the record: the keys A and B, and the motion X.
abbrev pub keyboard : Description
keyboard = record one_key {
  kinds = true ∷ true ∷ true ∷ replicate 61 false;
  keys = replicate KEY_A false ++ true ∷ replicate 17 false ++ true ∷ replicate 719 false;
  relatives = true ∷ replicate 63 false;
  hint = 8;
}

abbrev pub key_a : ℤ → Event
key_a value = event EV_KEY KEY_A value

abbrev pub key_b : ℤ → Event
key_b value = event EV_KEY KEY_B value

-- so many frames of motion, a microsecond apart
abbrev pub motion : ℕ → ℕ → List Step
motion zero now = []
motion (suc frames) now = Inject (event EV_REL 0 (pos 1)) now ∷ Inject report now ∷ motion frames (suc now)

-- Client 0 is the desktop, client 1 the remapper, client 2 the probe.
abbrev pub first_steps : List Step
first_steps =
    Open ∷ GetKeys 0 ∷ Open ∷ Open ∷ GetKeys 2
    ∷ Inject (key_a (pos 1)) 1000 ∷ Inject report 1000 ∷ Read 0 64 ∷ Read 2 64
    ∷ Inject (key_a (pos 0)) 2000 ∷ Inject report 2000 ∷ ToClock 0 Monotonic 2500
    ∷ Inject (key_b (pos 1)) 3000 ∷ Inject report 3000 ∷ Read 0 64 ∷ Discard 0 ∷ GetKeys 0
    ∷ GetKeys 2 ∷ Read 2 64 ∷ []

abbrev pub last_steps : List Step
last_steps =
    Read 2 64 ∷ Read 0 64 ∷ Discard 0 ∷ GetKeys 0
    ∷ Grab 1 ∷ Inject (key_b (pos 0)) 5000 ∷ Inject report 5000 ∷ Ungrab 1
    ∷ Inject (key_a (pos 1)) 6000 ∷ Inject report 6000 ∷ Read 0 64 ∷ Discard 0 ∷ GetKeys 0
    ∷ Mask 0 EV_KEY 0 (2 ^ 64 - 1 - 2 ^ 30)
    ∷ Inject (key_a (pos 0)) 7000 ∷ Inject (key_b (pos 1)) 7000 ∷ Inject report 7000 ∷ Read 0 64
    ∷ Mask 0 EV_KEY 0 (2 ^ 64 - 1) ∷ Discard 0 ∷ GetKeys 0
    ∷ Inhibit 8000 ∷ Read 0 64 ∷ Revoke 0 ∷ Uninhibit
    ∷ Inject (key_a (pos 1)) 9000 ∷ Inject report 9000 ∷ []

-- the steps of the history, oldest first
abbrev pub steps : List Step
steps = first_steps ++ motion 33 4000 ++ last_steps

-- the past before the step at this place
abbrev pub past_till : ℕ → List Step
past_till at = reverse (take at steps)

-- what the read at this place took
abbrev pub entries_taken : ℕ → ℕ → List ReadEntry
entries_taken at client = entries_of_read (past_till at) [] (taken_by keyboard (past_till at) client (Read client 64))

-- whether the promise speaks of this entry and its frame: the client is synchronised, the frame was passed
-- after its last query, and nothing was kept from it
abbrev pub speaks : ℕ → ReadEntry → Frame → Bool
speaks client item f =
    is_synchronised keyboard item.before client item.taken
    && nat_lt (sync_place item.before client) (place f)
    && is_undisturbed (eaten keyboard) keyboard item.before client f

-- which of the keys A and B are down
abbrev pub down : (ℕ → Bool) → List ℕ
down is_down = filter is_down (KEY_A ∷ KEY_B ∷ [])

-- Item j of the read at this place is a report. Does the promise speak there, and which keys are down in the client's
-- view, and on the device at the end of the report's frame?
abbrev pub Shows : ℕ → ℕ → ℕ → Bool → List ℕ → List ℕ → Type 0
Shows at client j speaking in_view on_device =
    (item : ReadEntry) × (f : Frame)
    × (slice_get (entries_taken at client) j ≡ Some item)
    × IsReportOf item.entry f
    × (speaks client item f ≡ speaking)
    × (down (has_key (view_at keyboard client item)) ≡ in_view)
    × (down (key_down keyboard f.cut.until) ≡ on_device)

-- what the read at this place took of losses: the places of the steps by which they came
abbrev pub losses : ℕ → ℕ → List ℕ
losses at client =
    map (λ (e : Entry). e.taken.place)
    (filter (λ (e : Entry). is_dropped (event_of e)) (taken_by keyboard (past_till at) client (Read client 64)))

-- The promise speaks of a press after the client opened and asked for keys, and of the release that an
-- inhibition makes, since the desktop synchronised before it.
abbrev pub FollowsTheKeys : Type 0
FollowsTheKeys =
    Shows 7 0 1 true (KEY_A ∷ []) (KEY_A ∷ [])
    × Shows 8 2 1 true (KEY_A ∷ []) (KEY_A ∷ [])
    × Shows 107 0 1 true [] []

-- A change of clock at place 11, and a full ring at place 82: the promise does not speak after a loss.
abbrev pub IsSilentBehindALoss : Type 0
IsSilentBehindALoss =
    (losses 14 0 ≡ 11 ∷ [])
    × Shows 14 0 2 false (KEY_A ∷ KEY_B ∷ []) (KEY_B ∷ [])
    × (losses 86 0 ≡ 82 ∷ [])
    × Shows 86 0 1 false (KEY_B ∷ []) (KEY_B ∷ [])
    × Shows 86 0 3 false (KEY_B ∷ []) (KEY_B ∷ [])
    × (losses 85 2 ≡ 82 ∷ [])
    × Shows 85 2 1 false (KEY_B ∷ []) (KEY_B ∷ [])
    × Shows 85 2 3 false (KEY_B ∷ []) (KEY_B ∷ [])

-- The frame came before the query, whose answer tells what was later.
abbrev pub IsSilentBeforeTheQuery : Type 0
IsSilentBeforeTheQuery = Shows 18 2 0 false (KEY_B ∷ []) []

-- The remapper held the grab while B went up.
abbrev pub IsSilentBehindAGrab : Type 0
IsSilentBehindAGrab = Shows 95 0 1 false (KEY_A ∷ KEY_B ∷ []) (KEY_A ∷ [])

-- The desktop's mask left out that A went up.
abbrev pub IsSilentBehindAMask : Type 0
IsSilentBehindAMask = Shows 102 0 1 false (KEY_A ∷ KEY_B ∷ []) (KEY_B ∷ [])

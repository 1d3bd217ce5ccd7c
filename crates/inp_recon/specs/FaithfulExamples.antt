-- Short histories worked out by hand: when a client is synchronised and undisturbed, and what its view shows then.
use Rattle.std.specs.Prelude.{◌≡◌, ℕ, ℤ, pos, Bool, true, false, nat_lt, List, [], ◌∷◌, ◌++◌, map, replicate, reverse, Option, Some, None, ◌&&◌, not, is_some, slice_get}
use Rattle.inp_model.specs.declared.event.TheConstants.{EV_KEY, EV_REL, KEY_A}
use Rattle.inp_model.specs.declared.event.Event.{Event}
use Rattle.inp_model.specs.declared.filter.Filter.TheVariants.{Eat}
use Rattle.inp_model.specs.declared.step.Step.{Step}
use Rattle.inp_model.specs.declared.step.Step.TheVariants.{Open, Read, Discard, GetKeys, GetAxis, SyncSlots, Grab, Ungrab, Mask, Clock as ToClock, SetAxis, End}
use Rattle.inp_model.specs.declared.clock.Clock.TheVariants.{Monotonic}
use Rattle.inp_model.specs.declared.axis_info.AxisInfo.{AxisInfo}
use Rattle.inp_model.specs.declared.reply.Reply.TheVariants.{Axis}
use Rattle.inp_model.specs.RawItem.{Frame}
use Rattle.inp_model.specs.Description.{Description, IsDescription, one_key, no_info}
use Rattle.inp_model.specs.State.{key_down, axis_value}
use Rattle.inp_model.specs.Passed.{announced}
use Rattle.inp_model.specs.Frame.{place}
use Rattle.inp_model.specs.Left.{eaten}
use Rattle.inp_model.specs.Queue.{Entry, event_of, taken_by}
use Rattle.inp_model.specs.Reply.{refused, rows, alone}
use Rattle.inp_model.specs.examples.Frames.{key, report, of_kind}
use Rattle.inp_model.specs.examples.Queries.{key_b, move, inject, GivesOn}
use Rattle.inp_model.specs.examples.Clients.{without_a}
use Rattle.inp_model.specs.examples.Slots.{touchpad, slot, x, y, id}
use Rattle.inp_recon.specs.declared.view.View.{View}
use Rattle.inp_recon.specs.View.{view_after_events}
use Rattle.inp_recon.specs.ClientView.{ReadEntry, client_view, read_entries, view_at}
use Rattle.inp_recon.specs.Synchronised.{sync_place, is_synchronised}
use Rattle.inp_recon.specs.Undisturbed.{is_undisturbed}
use Rattle.inp_model.specs.History.{IsHistory}
use Rattle.inp_recon.specs.Faithful.{IsReportOf, IsFollowed}
use Rattle.inp_recon.specs.Examples.{has_key, axis, x_of, y_of}

-- the keys A and B, the axis X and the motion X
abbrev pub board : Description
board = record one_key {
  kinds = true ∷ true ∷ true ∷ true ∷ replicate 60 false;
  keys = replicate 30 false ++ true ∷ replicate 17 false ++ true ∷ replicate 719 false;
  relatives = true ∷ replicate 63 false;
  axes = true ∷ replicate 63 false;
}

-- the same without keys
abbrev pub stick : Description
stick = record board { kinds = true ∷ false ∷ true ∷ true ∷ replicate 60 false }

-- the frame of the last entry
abbrev pub last_frame : List Entry → Option Frame
last_frame [] = None
last_frame (x ∷ []) = x.frame
last_frame (x ∷ y ∷ q) = last_frame (y ∷ q)

abbrev pub or_none : Option Frame → Frame
or_none None = record { cut = record { events = []; until = [] }; before = []; step = End }
or_none (Some f) = f

-- after these steps, oldest first, client 0 takes all that it can read; the last of it is a report
abbrev pub taken_after : Description → List Step → List Entry
taken_after d steps = taken_by d (reverse steps) 0 (Read 0 64)

-- its view then, and the frame of that report
abbrev pub view_then : Description → List Step → View
view_then d steps = view_after_events (client_view d (reverse steps) 0) (map event_of (taken_after d steps))

abbrev pub frame_then : Description → List Step → Frame
frame_then d steps = or_none (last_frame (taken_after d steps))

-- each step was accepted after the past before it
abbrev pub are_accepted : Description → List Step → Bool
are_accepted d [] = true
are_accepted d (x ∷ past) = are_accepted d past && not (is_some (refused d past x))

-- The steps and the read are a history. Is the client synchronised, did the frame come behind its last query, and was
-- nothing kept from it up to the frame?
abbrev pub Judges : Description → List Step → Bool → Bool → Bool → Type 0
Judges d steps synchronised behind undisturbed =
    (are_accepted d (Read 0 64 ∷ reverse steps) ≡ true)
    × (is_synchronised d (reverse steps) 0 (taken_after d steps) ≡ synchronised)
    × (nat_lt (sync_place (reverse steps) 0) (place (frame_then d steps)) ≡ behind)
    × (is_undisturbed (eaten d) d (reverse steps) 0 (frame_then d steps) ≡ undisturbed)

-- whether the view and the device at the frame's end have this key down
abbrev pub ShowsKey : Description → List Step → ℕ → Bool → Bool → Type 0
ShowsKey d steps code in_view in_device =
    (has_key (view_then d steps) code ≡ in_view) × (key_down d (frame_then d steps).cut.until code ≡ in_device)

-- the value of the axis X in the view, and of the device at the frame's end
abbrev pub ShowsX : Description → List Step → ℤ → ℤ → Type 0
ShowsX d steps in_view in_device =
    (axis (view_then d steps) 0 ≡ in_view) × (axis_value d (frame_then d steps).cut.until 0 ≡ in_device)

abbrev pub inject_all : List Event → List Step
inject_all es = map inject es

-- The key A is down when the client opens. It asks for all, and reads a frame.
abbrev pub followed : List Step
followed = inject_all (key (pos 1) ∷ report ∷ []) ++ Open ∷ GetKeys 0 ∷ GetAxis 0 0 ∷ inject_all (move ∷ key_b ∷ report ∷ [])

-- A key that was told and one that was read are down, as on the device, and the axis is where it is.
abbrev pub FollowsTheDevice : Type 0
FollowsTheDevice =
    Judges board followed true true true
    × ShowsKey board followed 30 true true × ShowsKey board followed 48 true true × ShowsX board followed (pos 5) (pos 5)

-- A keyboard, with the key A down when the client opens: all that the law asks for holds at the second report read.
abbrev pub typed_on : List Step
typed_on = inject_all (key (pos 1) ∷ report ∷ []) ++ Open ∷ GetKeys 0 ∷ inject_all (key (pos 0) ∷ report ∷ key (pos 1) ∷ report ∷ [])

abbrev pub MeetsTheLaw : Type 0
MeetsTheLaw =
    let past : List Step = Read 0 64 ∷ reverse typed_on in
    let f : Frame = frame_then one_key typed_on in
    IsDescription one_key
    × IsHistory one_key past
    × (at : ReadEntry) × (slice_get (read_entries one_key past 0) 3 ≡ Some at)
    × IsReportOf at.entry f
    × IsFollowed one_key 0 at f

-- A 1, R; X 5, B 1, R; A 0, R; one event is read, the keys and the axis are asked for, and the rest is read
abbrev pub asked_late : List Step
asked_late =
    Open ∷ inject_all (key (pos 1) ∷ report ∷ move ∷ key_b ∷ report ∷ key (pos 0) ∷ report ∷ [])
    ++ Read 0 1 ∷ GetKeys 0 ∷ []

-- The reports that were queued before the query prove nothing: at the last one that is left the key A is down on the
-- device, and up in the view.
abbrev pub NeedsALaterFrame : Type 0
NeedsALaterFrame =
    Judges board (asked_late ++ GetAxis 0 0 ∷ []) true false true
    × ShowsKey board (asked_late ++ GetAxis 0 0 ∷ []) 30 false true

-- at the next frame the view is right
abbrev pub IsRightFromTheNextFrameOn : Type 0
IsRightFromTheNextFrameOn =
    let steps : List Step = asked_late ++ Read 0 16 ∷ GetAxis 0 0 ∷ inject_all (record key_b { value = pos 0 } ∷ report ∷ []) in
    Judges board steps true true true × ShowsKey board steps 30 false false × ShowsKey board steps 48 false false
    × ShowsX board steps (pos 5) (pos 5)

-- a client that did not ask for the keys does not know of one that was down before
abbrev pub unasked : List Step
unasked = inject_all (key (pos 1) ∷ report ∷ []) ++ Open ∷ GetAxis 0 0 ∷ inject_all (move ∷ report ∷ [])

abbrev pub NeedsAllQueries : Type 0
NeedsAllQueries = Judges board unasked false true true × ShowsKey board unasked 30 false true

-- A frame was lost to a change of clock, and the loss was read.
abbrev pub lost : List Step
lost =
    Open ∷ GetKeys 0 ∷ GetAxis 0 0 ∷ inject_all (key (pos 1) ∷ report ∷ []) ++ ToClock 0 Monotonic 0 ∷ inject_all (move ∷ report ∷ [])

abbrev pub NeedsNoLoss : Type 0
NeedsNoLoss = Judges board lost false true true × ShowsKey board lost 30 false true

-- Client 1 grabs for one frame, after client 0 discarded and before it asks for the axis. The axis tells the new value;
-- then the frame before it, which is still queued, makes it the old one.
abbrev pub grabbed : List Step
grabbed =
    Open ∷ Open ∷ Discard 0 ∷ inject_all (move ∷ report ∷ []) ++ Grab 1 ∷ inject_all (record move { value = pos 6 } ∷ report ∷ [])
    ++ GetAxis 0 0 ∷ Ungrab 1 ∷ inject_all (of_kind EV_REL (pos 1) ∷ report ∷ [])

abbrev pub NeedsNoGrab : Type 0
NeedsNoGrab = Judges stick grabbed true true false × ShowsX stick grabbed (pos 5) (pos 6)

-- A key that is masked is not known to be down.
abbrev pub masked : List Step
masked = Open ∷ GetKeys 0 ∷ GetAxis 0 0 ∷ Mask 0 EV_KEY 0 without_a ∷ inject_all (key (pos 1) ∷ key_b ∷ report ∷ [])

abbrev pub NeedsNoMask : Type 0
NeedsNoMask =
    Judges board masked true true false × ShowsKey board masked 30 false true × ShowsKey board masked 48 true true

-- the same with a filter that eats the key A
abbrev pub eats_a : Description
eats_a = record board { filters = Eat EV_KEY KEY_A ∷ [] }

-- A key that a filter eats is not known to be down.
abbrev pub filtered : List Step
filtered = Open ∷ GetKeys 0 ∷ GetAxis 0 0 ∷ inject_all (key (pos 1) ∷ key_b ∷ report ∷ [])

abbrev pub NeedsNoFilter : Type 0
NeedsNoFilter =
    Judges eats_a filtered true true false × ShowsKey eats_a filtered 30 false true × ShowsKey eats_a filtered 48 true true

-- What was eaten before the client asked is told, and of the frames since nothing was eaten.
abbrev pub FollowsBehindAFilter : Type 0
FollowsBehindAFilter =
    Judges eats_a followed true true true
    × ShowsKey eats_a followed 30 true true × ShowsKey eats_a followed 48 true true × ShowsX eats_a followed (pos 5) (pos 5)

-- A contact in slot 1, then X 5 there and Y 7 in slot 0, which are asked for while the batch is open. The slot told is
-- that of the last frame, so the batch, which is read later, is understood.
abbrev pub slots_asked : List Step
slots_asked =
    Open ∷ inject_all (slot (pos 1) ∷ id (pos 11) ∷ report ∷ []) ++ Read 0 16 ∷ inject_all (x (pos 5) ∷ slot (pos 0) ∷ y (pos 7) ∷ [])
    ++ GetKeys 0 ∷ SyncSlots 0 ∷ inject_all (report ∷ [])

abbrev pub FollowsSlots : Type 0
FollowsSlots =
    let v = view_then touchpad slots_asked in
    let r = (frame_then touchpad slots_asked).cut.until in
    Judges touchpad slots_asked true true true
    × (v.cells ≡ rows touchpad r) × (x_of v 1 ≡ pos 5) × (y_of v 0 ≡ pos 7) × (x_of v 0 ≡ pos 0)
    × (v.slot ≡ announced touchpad r) × (v.slot ≡ pos 0)

-- the same frame read in two parts, and a release read after it
abbrev pub in_parts : List Step
in_parts = followed ++ Read 0 2 ∷ Read 0 64 ∷ inject_all (key (pos 0) ∷ report ∷ []) ++ Read 0 64 ∷ []

abbrev pub entries_in_parts : List ReadEntry
entries_in_parts = read_entries board (reverse in_parts) 0

-- Entries 0 and 1 were taken by the first read, entry 2 by the second, entries 3 and 4 by the third.
abbrev pub FindsTheRead : Type 0
FindsTheRead =
    let first : List Step = followed in
    let second : List Step = first ++ Read 0 2 ∷ [] in
    let third : List Step = second ++ Read 0 64 ∷ inject_all (key (pos 0) ∷ report ∷ []) in
    (map (λ (at : ReadEntry). at.before) entries_in_parts ≡ map reverse (first ∷ first ∷ second ∷ third ∷ third ∷ []))
    × (map (λ (at : ReadEntry). map event_of at.taken) entries_in_parts
    ≡ (move ∷ []) ∷ (move ∷ key_b ∷ []) ∷ (report ∷ []) ∷ (key (pos 0) ∷ []) ∷ (key (pos 0) ∷ report ∷ []) ∷ [])

-- the view at each entry, that entry included
abbrev pub ViewsEachEntry : Type 0
ViewsEachEntry =
    (map (λ (at : ReadEntry). has_key (view_at board 0 at) 48) entries_in_parts ≡ false ∷ true ∷ true ∷ true ∷ true ∷ [])
    × (map (λ (at : ReadEntry). has_key (view_at board 0 at) 30) entries_in_parts ≡ true ∷ true ∷ true ∷ false ∷ false ∷ [])

-- Client 1 grabs for a frame of the key A; the frame of the key B comes behind the grab.
abbrev pub NeedsNoGrabOfKeys : Type 0
NeedsNoGrabOfKeys =
    let steps : List Step =
    Open ∷ Open ∷ GetKeys 0 ∷ GetAxis 0 0 ∷ Grab 1 ∷ inject_all (key (pos 1) ∷ report ∷ []) ++ Ungrab 1 ∷ inject_all (key_b ∷ report ∷ []) in
    Judges board steps true true false × ShowsKey board steps 30 false true × ShowsKey board steps 48 true true

-- the axis X at 9, and a motion, which moves no axis
abbrev pub nine : AxisInfo
nine = record no_info { value = pos 9 }

abbrev pub motion : List Step
motion = inject_all (of_kind EV_REL (pos 1) ∷ report ∷ [])

-- X 5 waits in the batch while X is described anew with 9, and the client discards and asks for it only then. The event is
-- read behind the answer, and sets the view back.
abbrev pub described_in_the_batch : List Step
described_in_the_batch = Open ∷ inject move ∷ SetAxis 0 0 nine ∷ Discard 0 ∷ []

abbrev pub NeedsNoDescriptionInTheBatch : Type 0
NeedsNoDescriptionInTheBatch =
    let steps : List Step = described_in_the_batch ++ GetAxis 0 0 ∷ inject report ∷ [] in
    GivesOn stick described_in_the_batch (GetAxis 0 0) (alone (Axis 4 nine))
    × (map event_of (taken_after stick steps) ≡ move ∷ report ∷ [])
    × Judges stick steps true true false × ShowsX stick steps (pos 5) (pos 9)

-- a description behind the last query is not told
abbrev pub NeedsNoDescriptionSince : Type 0
NeedsNoDescriptionSince =
    let steps : List Step = Open ∷ GetAxis 0 0 ∷ SetAxis 0 0 nine ∷ motion in
    Judges stick steps true true false × ShowsX stick steps (pos 0) (pos 9)

-- one behind the frame changes nothing of what the device was at its end
abbrev pub FollowsUpToADescription : Type 0
FollowsUpToADescription =
    let steps : List Step = Open ∷ GetAxis 0 0 ∷ inject_all (move ∷ report ∷ []) ++ SetAxis 0 0 nine ∷ [] in
    Judges stick steps true true true × ShowsX stick steps (pos 5) (pos 5)

-- One that a frame followed before the client discarded is told, and nothing waits that could undo it.
abbrev pub FollowsFromADescriptionOn : Type 0
FollowsFromADescriptionOn =
    let steps : List Step = Open ∷ SetAxis 0 0 nine ∷ motion ++ Discard 0 ∷ GetAxis 0 0 ∷ motion in
    Judges stick steps true true true × ShowsX stick steps (pos 9) (pos 9)

-- Where no frame came between a description and the start nothing is promised, though here the view is right.
abbrev pub PromisesNothingWithoutAFrame : Type 0
PromisesNothingWithoutAFrame =
    let steps : List Step = Open ∷ SetAxis 0 0 nine ∷ Discard 0 ∷ GetAxis 0 0 ∷ motion in
    Judges stick steps true true false × ShowsX stick steps (pos 9) (pos 9)

-- Short histories worked out by hand: clients that close, discard, mask, grab, write, change clocks and are revoked.
use Rattle.std.specs.Prelude.{ℕ, zero, suc, ◌-◌, ◌^◌, pos, true, List, [], ◌∷◌, ◌++◌}
use Rattle.inp_model.specs.declared.event.TheConstants.{EV_SYN, EV_KEY, EV_REL, EV_ABS, EV_LED, EV_REP}
use Rattle.inp_model.specs.declared.multi_touch.TheConstants.{ABS_MT_SLOT}
use Rattle.inp_model.specs.declared.clock.Clock.TheVariants.{Monotonic, Boottime}
use Rattle.inp_model.specs.declared.step.Step.{Step}
use Rattle.inp_model.specs.declared.step.Step.TheVariants.{Inject, Open, Close, Read, Discard, GetAxis, GetSlots, SyncSlots, Write, Grab, Ungrab, Mask, Clock as ToClock, Revoke}
use Rattle.inp_model.specs.declared.reply.Reply.TheVariants.{Done, Opened, Discarded, Axis, Again, Refused}
use Rattle.inp_model.specs.declared.reply.Refusal.TheVariants.{BadClient, NoDevice, BadKind, BadCode, Busy, NotGrabber, TooMany}
use Rattle.inp_model.specs.Description.{Description, one_key, no_info}
use Rattle.inp_model.specs.Event.{syn_dropped}
use Rattle.inp_model.specs.Reply.{alone}
use Rattle.inp_model.specs.examples.Frames.{key, report, at, took, stroke, strokes, panel, of_kind}
use Rattle.inp_model.specs.examples.Queries.{desk, key_b, move, inject, GivesOn}
use Rattle.inp_model.specs.examples.Slots.{touchpad}

-- A ring of 64 places holds 63 events. The report of the 32nd frame is the 64th: all is lost but that report.
abbrev pub small : Description
small = record desk { hint = 8 }

abbrev pub LosesASmallRing : Type 0
LosesASmallRing = GivesOn small (Open ∷ strokes 32 true) (Read 0 100) (took 65 2 (at 64 0 syn_dropped ∷ at 64 0 report ∷ []))

-- here the 64th event is a key's, and what is lost is not visible until its report is there
abbrev pub LosesBeforeTheReport : Type 0
LosesBeforeTheReport =
    GivesOn small (Open ∷ strokes 31 true ++ inject (key (pos 0)) ∷ inject key_b ∷ inject report ∷ []) (Read 0 100)
    (took 66 3 (at 65 0 syn_dropped ∷ at 65 0 key_b ∷ at 65 0 report ∷ []))

-- what is visible is removed unread, and nothing else
abbrev pub DiscardsAll : Type 0
DiscardsAll =
    GivesOn one_key (Open ∷ stroke (pos 1) 0 ++ Inject (key (pos 0)) 0 ∷ []) (Discard 0) (alone (Discarded 4 2))
    × GivesOn one_key (Open ∷ stroke (pos 1) 0 ++ Discard 0 ∷ []) (Read 0 16) (alone (Again 4 0))
    × GivesOn one_key (Open ∷ []) (Discard 0) (alone (Discarded 1 0))

-- a client that is closed is unknown from then on, and its number is not used again
abbrev pub ForgetsAClosedClient : Type 0
ForgetsAClosedClient =
    GivesOn one_key (Open ∷ []) (Close 0) (alone (Done 1))
    × GivesOn one_key (Open ∷ Close 0 ∷ []) (Read 0 1) (alone (Refused 2 BadClient))
    × GivesOn one_key (Open ∷ Close 0 ∷ []) Open (alone (Opened 2 1 128))

abbrev pub opened : ℕ → List Step
opened zero = []
opened (suc n) = Open ∷ opened n

-- sixty-four clients may be open at a time
abbrev pub OpensSixtyFour : Type 0
OpensSixtyFour =
    GivesOn one_key (opened 63) Open (alone (Opened 63 63 128))
    × GivesOn one_key (opened 64) Open (alone (Refused 64 TooMany))
    × GivesOn one_key (opened 64 ++ Close 0 ∷ []) Open (alone (Opened 65 64 128))

-- all keys but the key A
abbrev pub without_a : ℕ
without_a = 2 ^ 64 - 1 - 2 ^ 30

-- a masked event is left out, and a report with nothing before it; what is queued already stays
abbrev pub MasksAKey : Type 0
MasksAKey =
    GivesOn desk (Open ∷ Mask 0 EV_KEY 0 without_a ∷ inject (key (pos 1)) ∷ inject report ∷ []) (Read 0 16) (alone (Again 4 0))
    × GivesOn desk (Open ∷ Mask 0 EV_KEY 0 without_a ∷ inject (key (pos 1)) ∷ inject report ∷ inject (key (pos 0)) ∷ inject key_b ∷ inject report ∷ []) (Read 0 16)
    (took 7 2 (at 6 0 key_b ∷ at 6 0 report ∷ []))
    × GivesOn desk (Open ∷ inject (key (pos 1)) ∷ inject report ∷ Mask 0 EV_KEY 0 without_a ∷ []) (Read 0 16)
    (took 4 2 (at 2 0 (key (pos 1)) ∷ at 2 0 report ∷ []))

-- A mask of types goes by the types. EV_SYN is never left out.
abbrev pub MasksTypes : Type 0
MasksTypes =
    GivesOn desk (Open ∷ Mask 0 EV_SYN 0 (2 ^ EV_ABS) ∷ inject (key (pos 1)) ∷ inject move ∷ inject report ∷ []) (Read 0 16)
    (took 5 2 (at 4 0 move ∷ at 4 0 report ∷ []))

-- a change to another clock loses what is queued, from an empty queue nothing; then a report alone is queued
-- after it
abbrev pub clocked : List Step
clocked = Open ∷ ToClock 0 Monotonic 500 ∷ stroke (pos 1) 600 ++ ToClock 0 Boottime 700 ∷ []

abbrev pub ChangesTheClock : Type 0
ChangesTheClock =
    GivesOn one_key (Open ∷ ToClock 0 Monotonic 500 ∷ []) (Read 0 16) (alone (Again 2 0))
    × GivesOn one_key clocked (Read 0 16) (alone (Again 5 0))
    × GivesOn one_key (clocked ++ Mask 0 EV_SYN 0 0 ∷ stroke (pos 0) 800) (Read 0 16)
    (took 8 2 (at 4 700 syn_dropped ∷ at 7 800 report ∷ []))

-- events are timed on the client's clock, and a choice of the same clock loses nothing
abbrev pub KeepsTime : Type 0
KeepsTime =
    GivesOn (record one_key { realtime = 90 }) (Open ∷ stroke (pos 1) 5) (Read 0 16) (took 3 2 (at 2 95 (key (pos 1)) ∷ at 2 95 report ∷ []))
    × GivesOn (record one_key { boottime = 7 }) (Open ∷ ToClock 0 Boottime 0 ∷ stroke (pos 1) 5 ++ ToClock 0 Boottime 9 ∷ []) (Read 0 16)
    (took 5 2 (at 3 12 (key (pos 1)) ∷ at 3 12 report ∷ []))

-- one client holds the grab until it gives it up or is closed
abbrev pub GrabsOnce : Type 0
GrabsOnce =
    GivesOn one_key (Open ∷ Open ∷ []) (Grab 0) (alone (Done 2))
    × GivesOn one_key (Open ∷ Open ∷ Grab 0 ∷ []) (Grab 0) (alone (Refused 3 Busy))
    × GivesOn one_key (Open ∷ Open ∷ Grab 0 ∷ []) (Grab 1) (alone (Refused 3 Busy))
    × GivesOn one_key (Open ∷ Open ∷ Grab 0 ∷ []) (Ungrab 1) (alone (Refused 3 NotGrabber))
    × GivesOn one_key (Open ∷ Open ∷ Grab 0 ∷ Close 0 ∷ []) (Grab 1) (alone (Done 4))
    × GivesOn one_key (Open ∷ Open ∷ Grab 0 ∷ Revoke 0 ∷ []) (Grab 1) (alone (Done 4))

-- a frame under a grab goes to its holder alone, and a query answers the state all the same
abbrev pub GrabsFrames : Type 0
GrabsFrames =
    let grabbed : List Step = Open ∷ Open ∷ inject move ∷ inject report ∷ Grab 1 ∷ inject (record move { value = pos 6 }) ∷ inject report ∷ [] in
    GivesOn desk grabbed (GetAxis 0 0) (alone (Axis 7 (record no_info { value = pos 6 })))
    × GivesOn desk grabbed (Read 1 16) (took 7 4 (at 3 0 move ∷ at 3 0 report ∷ at 6 0 (record move { value = pos 6 }) ∷ at 6 0 report ∷ []))
    × GivesOn desk (grabbed ++ Ungrab 1 ∷ inject (of_kind EV_REL (pos 1)) ∷ inject report ∷ []) (Read 0 16)
    (took 10 4 (at 3 0 move ∷ at 3 0 report ∷ at 9 0 (of_kind EV_REL (pos 1)) ∷ at 9 0 report ∷ []))

-- what a client writes comes to all, as what is injected, under another's grab too
abbrev pub WritesToAll : Type 0
WritesToAll =
    let lit : List Step = Open ∷ Open ∷ Write 0 (of_kind EV_LED (pos 1)) 3 ∷ Write 0 report 4 ∷ [] in
    GivesOn panel lit (Read 0 16) (took 4 2 (at 3 4 (of_kind EV_LED (pos 1)) ∷ at 3 4 report ∷ []))
    × GivesOn panel lit (Read 1 16) (took 4 2 (at 3 4 (of_kind EV_LED (pos 1)) ∷ at 3 4 report ∷ []))
    × GivesOn panel (Open ∷ Open ∷ Grab 1 ∷ []) (Write 0 (of_kind EV_LED (pos 1)) 3) (alone (Done 3))

-- a revoked client can only be closed, and gets nothing
abbrev pub RevokesForGood : Type 0
RevokesForGood =
    GivesOn one_key (Open ∷ Revoke 0 ∷ []) (Read 0 1) (alone (Refused 2 NoDevice))
    × GivesOn one_key (Open ∷ Revoke 0 ∷ []) (Revoke 0) (alone (Refused 2 NoDevice))
    × GivesOn one_key (Open ∷ Revoke 0 ∷ []) (Close 0) (alone (Done 2))
    × GivesOn one_key (Open ∷ Revoke 0 ∷ Close 0 ∷ []) (Read 0 1) (alone (Refused 3 BadClient))

-- what each refusal is for
abbrev pub RefusesInOrder : Type 0
RefusesInOrder =
    GivesOn one_key (Open ∷ []) (Read 7 1) (alone (Refused 1 BadClient))
    × GivesOn touchpad (Open ∷ []) (GetSlots 0 ABS_MT_SLOT) (alone (Refused 1 BadCode))
    × GivesOn one_key (Open ∷ []) (SyncSlots 0) (alone (Refused 1 BadKind))
    × GivesOn one_key (Open ∷ []) (GetAxis 0 0) (alone (Refused 1 BadKind))
    × GivesOn one_key (Open ∷ []) (Mask 0 EV_REP 0 0) (alone (Refused 1 BadKind))
    × GivesOn desk (Open ∷ []) (GetAxis 0 64) (alone (Refused 1 BadCode))
    × GivesOn one_key (Open ∷ []) (Mask 0 EV_KEY 12 0) (alone (Refused 1 BadCode))

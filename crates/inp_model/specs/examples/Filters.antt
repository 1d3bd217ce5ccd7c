-- Short histories worked out by hand: devices with filters (docs/RULES.md, "Filters"). What each filter eats
-- of frames in a row is worked out in the crate of filters.
use Rattle.std.specs.Prelude.{◌^◌, ℕ, ℤ, ◌+◌, pos, List, [], ◌∷◌, ◌++◌, replicate}
use Rattle.inp_model.specs.declared.event.TheConstants.{EV_KEY, KEY_A}
use Rattle.inp_model.specs.declared.event.Event.{Event}
use Rattle.inp_model.specs.declared.filter.Filter.{Filter}
use Rattle.inp_model.specs.declared.filter.Filter.TheVariants.{Eat, Norepeat, Chord, Bounce}
use Rattle.inp_model.specs.declared.clock.Clock.TheVariants.{Monotonic}
use Rattle.inp_model.specs.declared.step.Step.{Step}
use Rattle.inp_model.specs.declared.step.Step.TheVariants.{Inject, Tick, Open, Read, GetKeys, Grab, Ungrab, Clock as ToClock}
use Rattle.inp_model.specs.declared.reply.Reply.TheVariants.{Bits, Again}
use Rattle.inp_model.specs.Description.{Description}
use Rattle.inp_model.specs.Event.{syn_dropped}
use Rattle.inp_model.specs.Reply.{alone}
use Rattle.inp_model.specs.examples.Frames.{key, report, at, took}
use Rattle.inp_model.specs.examples.Queries.{desk, key_b, GivesOn}

-- the keys A and B, and these filters
abbrev pub behind : List Filter → Description
behind fs = record desk { filters = fs }

abbrev pub b : ℤ → Event
b value = record key_b { value = value }

-- a frame of one event at a moment
abbrev pub frame : Event → ℕ → List Step
frame e moment = Inject e moment ∷ Inject report moment ∷ []

-- A goes down, B goes down and up, A goes up
abbrev pub chorded : List Step
chorded = frame (key (pos 1)) 0 ++ frame (b (pos 1)) 0 ++ frame (b (pos 0)) 0 ++ frame (key (pos 0)) 0

-- B's hold is eaten, since it starts while A is down; the state knows of it, though
abbrev pub EatsAChord : Type 0
EatsAChord =
    let d : Description = behind (Chord KEY_A 48 ∷ []) in
    GivesOn d (Open ∷ chorded) (Read 0 16) (took 9 4 (at 2 0 (key (pos 1)) ∷ at 2 0 report ∷ at 8 0 (key (pos 0)) ∷ at 8 0 report ∷ []))
    × GivesOn d (Open ∷ frame (key (pos 1)) 0 ++ frame (b (pos 1)) 0) (GetKeys 0) (alone (Bits 5 ((2 ^ 30 + 2 ^ 48) ∷ replicate 11 0)))

-- the second hold of A starts 2,000 microseconds after the first one and is eaten; the third one starts 6,000
-- after it
abbrev pub EatsABounce : Type 0
EatsABounce =
    GivesOn (behind (Bounce KEY_A 5000 ∷ []))
    (Open ∷ frame (key (pos 1)) 0 ++ frame (key (pos 0)) 10000 ++ frame (key (pos 1)) 12000 ++ frame (key (pos 0)) 13000 ++ frame (key (pos 1)) 16000) (Read 0 16)
    (took 11 6
    (at 2 0 (key (pos 1)) ∷ at 2 0 report ∷ at 4 10000 (key (pos 0)) ∷ at 4 10000 report ∷ at 10 16000 (key (pos 1)) ∷ at 10 16000 report ∷ []))

-- The autorepeat goes on behind a filter that eats it. The reports of its frames would follow a report, so
-- they are left out.
abbrev pub EatsAutorepeats : Type 0
EatsAutorepeats =
    GivesOn (behind (Norepeat ∷ [])) (Open ∷ frame (key (pos 1)) 0 ++ Tick 250000 ∷ Tick 283000 ∷ frame (key (pos 0)) 300000) (Read 0 16)
    (took 7 4 (at 2 0 (key (pos 1)) ∷ at 2 0 report ∷ at 6 300000 (key (pos 0)) ∷ at 6 300000 report ∷ []))

-- The holder of the grab gets frames whole, and filters do not see them: B's hold that was eaten from its
-- press on is let go for the holder. After the grab B's hold, of which the chord saw no release, is eaten up
-- to its end.
abbrev pub PassesByAGrab : Type 0
PassesByAGrab =
    let d : Description = behind (Chord KEY_A 48 ∷ []) in
    let held : List Step = Open ∷ frame (key (pos 1)) 0 ++ frame (b (pos 1)) 0 ++ Grab 0 ∷ frame (b (pos 0)) 0 ++ frame (b (pos 1)) 0 ++ Ungrab 0 ∷ frame (b (pos 0)) 0 in
    GivesOn d held (Read 0 16)
    (took 13 6
    (at 2 0 (key (pos 1)) ∷ at 2 0 report ∷ at 7 0 (b (pos 0)) ∷ at 7 0 report ∷ at 9 0 (b (pos 1)) ∷ at 9 0 report ∷ []))

-- a frame that is eaten whole still offers its report, which is queued after a loss
abbrev pub LeavesAReport : Type 0
LeavesAReport =
    let d : Description = behind (Eat EV_KEY KEY_A ∷ []) in
    GivesOn d (Open ∷ frame (key (pos 1)) 0) (Read 0 16) (alone (Again 3 0))
    × GivesOn d (Open ∷ frame (b (pos 1)) 5 ++ ToClock 0 Monotonic 6 ∷ frame (key (pos 1)) 7) (Read 0 16)
    (took 6 2 (at 3 6 syn_dropped ∷ at 5 7 report ∷ []))

-- the second of two filters is given what the first one left
abbrev pub GivesWhatIsLeft : Type 0
GivesWhatIsLeft =
    GivesOn (behind (Eat EV_KEY KEY_A ∷ Chord KEY_A 48 ∷ [])) (Open ∷ chorded) (Read 0 16)
    (took 9 4 (at 4 0 (b (pos 1)) ∷ at 4 0 report ∷ at 6 0 (b (pos 0)) ∷ at 6 0 report ∷ []))

-- Short histories worked out by hand: the autorepeat, the inhibition, and the end of sources.
use Rattle.std.specs.Prelude.{◌≡◌, pos, negsuc, List, [], ◌∷◌, ◌++◌, reverse, Some}
use Rattle.inp_model.specs.declared.event.TheConstants.{EV_REP, KEY_A, REP_PERIOD}
use Rattle.inp_model.specs.declared.event.Event.{Event}
use Rattle.inp_model.specs.declared.step.Step.{Step}
use Rattle.inp_model.specs.declared.step.Step.TheVariants.{Inject, Tick, Open, Read, Inhibit, Uninhibit, End}
use Rattle.inp_model.specs.declared.reply.Reply.TheVariants.{Done, Again}
use Rattle.inp_model.specs.Description.{Description}
use Rattle.inp_model.specs.Event.{core_report}
use Rattle.inp_model.specs.Raw.{timer}
use Rattle.inp_model.specs.Reply.{alone}
use Rattle.inp_model.specs.examples.Frames.{key, report, at, took, stroke}
use Rattle.inp_model.specs.examples.Queries.{desk, key_b, inject, GivesOn}
use Rattle.inp_model.specs.examples.Slots.{touchpad, x, id}

abbrev pub released_b : Event
released_b = record key_b { value = pos 0 }

-- B goes down, then A; each press arms the timer for its key
abbrev pub held : List Step
held = Inject key_b 900000 ∷ Inject report 900000 ∷ stroke (pos 1) 1000000

-- A repeats when its delay is over, and not before; then the timer is armed anew by the period
abbrev pub RepeatsAKey : Type 0
RepeatsAKey =
    GivesOn desk (held ++ Open ∷ Tick 1249999 ∷ []) (Read 0 16) (alone (Again 6 0))
    × GivesOn desk (held ++ Open ∷ Tick 1249999 ∷ Tick 1250000 ∷ []) (Read 0 16)
    (took 7 2 (at 6 1250000 (key (pos 2)) ∷ at 6 1250000 core_report ∷ []))
    × (timer desk (reverse (held ++ Tick 1250000 ∷ [])) ≡ record { due = Some 1283000; key = KEY_A })

-- any release stops it
abbrev pub StopsAtARelease : Type 0
StopsAtARelease =
    GivesOn desk (held ++ Tick 1250000 ∷ Inject released_b 1260000 ∷ Inject report 1260000 ∷ Open ∷ Tick 1283000 ∷ []) (Read 0 16) (alone (Again 9 0))

abbrev pub no_period : List Step
no_period = Inject (record { kind = EV_REP; code = REP_PERIOD; value = pos 0 }) 1 ∷ Inject report 1 ∷ []

-- where the period is 0 a timer that is armed fires once, and a press arms none
abbrev pub RepeatsOnce : Type 0
RepeatsOnce =
    GivesOn desk (stroke (pos 1) 0 ++ no_period ++ Open ∷ Tick 250000 ∷ []) (Read 0 16)
    (took 6 2 (at 5 250000 (key (pos 2)) ∷ at 5 250000 core_report ∷ []))
    × GivesOn desk (stroke (pos 1) 0 ++ no_period ++ Tick 250000 ∷ Open ∷ Tick 600000 ∷ []) (Read 0 16) (alone (Again 7 0))
    × GivesOn desk (no_period ++ stroke (pos 1) 0 ++ Open ∷ Tick 250000 ∷ []) (Read 0 16) (alone (Again 6 0))

-- A repeats while the press and the release of B wait in the batch. The report frames them, the timer is
-- armed anew for B, which is up, and A repeats no more.
abbrev pub RepeatsTheLastKey : Type 0
RepeatsTheLastKey =
    let waiting : List Step = stroke (pos 1) 0 ++ Inject key_b 1 ∷ Inject released_b 1 ∷ Tick 250000 ∷ [] in
    (timer desk (reverse waiting) ≡ record { due = Some 283000; key = 48 })
    × GivesOn desk (waiting ++ Open ∷ Tick 283000 ∷ []) (Read 0 16) (alone (Again 7 0))

-- two slots, the keys A and B, and the contact's place
abbrev pub tablet : Description
tablet = record touchpad { keys = desk.keys }

-- a contact in slot 0 and both keys down
abbrev pub pressed : List Step
pressed = inject (key (pos 1)) ∷ inject key_b ∷ inject (id (pos 5)) ∷ inject report ∷ []

-- An inhibition releases contacts and keys after what waits in the batch; then all is ignored until it ends.
abbrev pub InhibitsADevice : Type 0
InhibitsADevice =
    GivesOn tablet (pressed ++ Open ∷ inject (x (pos 9)) ∷ Inhibit 70 ∷ []) (Read 0 16)
    (took 7 5 (at 6 70 (x (pos 9)) ∷ at 6 70 (id (negsuc 0)) ∷ at 6 70 (key (pos 0)) ∷ at 6 70 released_b ∷ at 6 70 core_report ∷ []))
    × GivesOn tablet (pressed ++ Inhibit 70 ∷ Open ∷ inject (key (pos 1)) ∷ inject report ∷ []) (Read 0 16) (alone (Again 8 0))
    × GivesOn tablet (pressed ++ Inhibit 70 ∷ Uninhibit ∷ Open ∷ stroke (pos 1) 80) (Read 0 16)
    (took 9 2 (at 8 80 (key (pos 1)) ∷ at 8 80 report ∷ []))

-- an inhibition of a device that is inhibited, and an end of none, are done and change nothing
abbrev pub InhibitsOnce : Type 0
InhibitsOnce =
    GivesOn tablet (Open ∷ Inhibit 70 ∷ []) (Inhibit 71) (alone (Done 2))
    × GivesOn tablet (pressed ++ Inhibit 70 ∷ Open ∷ Inhibit 71 ∷ []) (Read 0 16) (alone (Again 7 0))
    × GivesOn tablet (Open ∷ []) Uninhibit (alone (Done 1))

-- how many sources are done is told where nothing is visible
abbrev pub CountsEnds : Type 0
CountsEnds = GivesOn tablet (Open ∷ End ∷ End ∷ []) (Read 0 1) (alone (Again 3 2))

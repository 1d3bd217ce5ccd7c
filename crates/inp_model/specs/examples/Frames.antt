-- Short histories, worked out by hand: what is passed, replied and read after them.
use Rattle.std.specs.Prelude.{ℕ, zero, suc, ◌≡◌, ℤ, pos, negsuc, Bool, true, false, not, if◌then◌else◌, List, [], ◌∷◌, ◌++◌, map, replicate, reverse}
use Rattle.inp_model.specs.declared.event.TheConstants.{EV_SYN, EV_KEY, EV_REL, EV_ABS, EV_SW, EV_LED, EV_SND, EV_REP, SYN_REPORT, KEY_A}
use Rattle.inp_model.specs.declared.event.Event.{Event}
use Rattle.inp_model.specs.declared.taken.Taken.{Taken}
use Rattle.inp_model.specs.declared.step.Step.{Step}
use Rattle.inp_model.specs.declared.step.Step.TheVariants.{Inject, Open, Read}
use Rattle.inp_model.specs.declared.reply.Reply.TheVariants.{Opened, Took, Again, Refused}
use Rattle.inp_model.specs.declared.reply.Refusal.TheVariants.{BadClient}
use Rattle.inp_model.specs.Description.{Description, one_key, ring, no_info, IsDescription}
use Rattle.inp_model.specs.Event.{syn_dropped, core_report}
use Rattle.inp_model.specs.RawItem.{Occurred}
use Rattle.inp_model.specs.State.{key_down}
use Rattle.inp_model.specs.Passed.{passed}
use Rattle.inp_model.specs.Raw.{raw}
use Rattle.inp_model.specs.Reply.{Answer, answer, alone}
use Rattle.inp_model.specs.Run.{IsLegalRun}

abbrev pub key : ℤ → Event
key value = record { kind = EV_KEY; code = KEY_A; value = value }

abbrev pub report : Event
report = record { kind = EV_SYN; code = SYN_REPORT; value = pos 0 }

-- a key that the keyboard does not have
abbrev pub other_key : Event
other_key = record { kind = EV_KEY; code = 48; value = pos 1 }

-- a frame of one change of the key, at a moment
abbrev pub stroke : ℤ → ℕ → List Step
stroke value now = Inject (key value) now ∷ Inject report now ∷ []

-- so many frames at the moment 0, the key going down and up by turns
abbrev pub strokes : ℕ → Bool → List Step
strokes zero down = []
strokes (suc n) down = stroke (if down then pos 1 else pos 0) 0 ++ strokes n (not down)

abbrev pub at : ℕ → ℕ → Event → Taken
at place time e = record { event = e; time = time; place = place }

-- after these steps, oldest first, the step is answered so
abbrev pub Gives : List Step → Step → Answer → Type 0
Gives steps x given = answer one_key (reverse steps) x ≡ given

abbrev pub took : ℕ → ℕ → List Taken → Answer
took place count events = record { reply = Took place count; events = events; cells = [] }

-- the ring of a keyboard whose frames have at most sixteen events
abbrev pub RingOf128 : Type 0
RingOf128 = ring one_key ≡ 128

-- a client reads a frame, at the place and time of its report
abbrev pub ReadsAFrame : Type 0
ReadsAFrame = Gives (Open ∷ stroke (pos 1) 1000) (Read 0 16) (took 3 2 (at 2 1000 (key (pos 1)) ∷ at 2 1000 report ∷ []))

-- a key that is down already is not passed again, and the report alone is no frame
abbrev pub PassesAChangeOnce : Type 0
PassesAChangeOnce =
    Gives (Open ∷ stroke (pos 1) 0 ++ stroke (pos 1) 0) (Read 0 16) (took 5 2 (at 2 0 (key (pos 1)) ∷ at 2 0 report ∷ []))

-- nothing is left after a read of all: try again
abbrev pub ReadsNothing : Type 0
ReadsNothing = Gives (Open ∷ stroke (pos 1) 0 ++ stroke (pos 1) 0 ++ Read 0 16 ∷ []) (Read 0 16) (alone (Again 6 0))

-- a client that was not opened
abbrev pub NeedsAClient : Type 0
NeedsAClient = Gives [] (Read 4294967295 16) (alone (Refused 0 BadClient))

-- a read of none takes none
abbrev pub ReadsNone : Type 0
ReadsNone = Gives (Open ∷ stroke (pos 1) 0) (Read 0 0) (took 3 0 [])

-- a read may end in the middle of a frame, and the next one goes on there
abbrev pub ReadsInParts : Type 0
ReadsInParts = Gives (Open ∷ stroke (pos 1) 0 ++ Read 0 1 ∷ []) (Read 0 16) (took 4 1 (at 2 0 report ∷ []))

-- a batch that is still open is not visible
abbrev pub HidesAnOpenBatch : Type 0
HidesAnOpenBatch = Gives (Open ∷ Inject (key (pos 1)) 0 ∷ []) (Read 0 16) (alone (Again 2 0))

-- a client that is opened while a batch is open is offered the whole frame
abbrev pub OffersAWholeFrame : Type 0
OffersAWholeFrame =
    Gives (Inject (key (pos 1)) 0 ∷ Open ∷ Inject report 7 ∷ []) (Read 0 16) (took 3 2 (at 2 7 (key (pos 1)) ∷ at 2 7 report ∷ []))

-- an autorepeat is passed, and leaves the key up
abbrev pub PassesARepeat : Type 0
PassesARepeat =
    Gives (Open ∷ stroke (pos 2) 0) (Read 0 16) (took 3 2 (at 2 0 (key (pos 2)) ∷ at 2 0 report ∷ []))

abbrev pub KeepsTheKeyUp : Type 0
KeepsTheKeyUp = key_down one_key (raw one_key (reverse (Open ∷ stroke (pos 2) 0))) KEY_A ≡ false

-- a key that the device lacks, and an injected loss, are ignored
abbrev pub IgnoresOthers : Type 0
IgnoresOthers =
    Gives (Open ∷ Inject other_key 0 ∷ Inject syn_dropped 0 ∷ Inject report 0 ∷ []) (Read 0 16) (alone (Again 4 0))

-- sixteen events fill a batch, which gets a report of its own
abbrev pub repeats : ℕ → List Step
repeats zero = []
repeats (suc n) = Inject (key (pos 2)) 0 ∷ repeats n

abbrev pub copies : ℕ → Taken → List Taken
copies zero t = []
copies (suc n) t = t ∷ copies n t

abbrev pub CutsAFullBatch : Type 0
CutsAFullBatch =
    Gives (Open ∷ repeats 16 ++ Inject report 0 ∷ []) (Read 0 100) (took 18 17 (copies 16 (at 16 0 (key (pos 2))) ++ at 16 0 core_report ∷ []))

-- The ring of 128 places holds 127 events. The report of the 64th frame is the 128th: all is lost but that report.
abbrev pub LosesAFullRing : Type 0
LosesAFullRing =
    Gives (Open ∷ strokes 64 true) (Read 0 4096) (took 129 2 (at 128 0 syn_dropped ∷ at 128 0 report ∷ []))

-- here the 128th event is a key's
abbrev pub LosesInAFrame : Type 0
LosesInAFrame =
    Gives (Open ∷ strokes 63 true ++ Inject (key (pos 0)) 0 ∷ Inject (key (pos 1)) 0 ∷ Inject report 0 ∷ [])
    (Read 0 4096)
    (took 130 3 (at 129 0 syn_dropped ∷ at 129 0 (key (pos 1)) ∷ at 129 0 report ∷ []))

-- a client that reads in time loses nothing
abbrev pub KeepsAllButOne : Type 0
KeepsAllButOne =
    Gives (Open ∷ strokes 63 true ++ Read 0 126 ∷ [] ++ strokes 1 false) (Read 0 4096) (took 130 2 (at 129 0 (key (pos 0)) ∷ at 129 0 report ∷ []))

-- one caller's calls, on a history that has another's steps too
abbrev pub IsLegalAmongOthers : Type 0
IsLegalAmongOthers =
    IsLegalRun one_key (Open ∷ stroke (pos 1) 0 ++ Read 0 16 ∷ [])
    (record { step = Open; answer = alone (Opened 0 0 128) }
    ∷ record { step = Read 0 16; answer = took 3 2 (at 2 0 (key (pos 1)) ∷ at 2 0 report ∷ []) }
    ∷ record { step = Read 0 16; answer = alone (Again 4 0) }
    ∷ [])

-- a keyboard is a description as all are
abbrev pub DescribesAKeyboard : Type 0
DescribesAKeyboard = IsDescription one_key

-- a device with one code of each of these types, and autorepeat; its axis begins at 100 and has a fuzz of 8
abbrev pub panel : Description
panel = record one_key {
  kinds = true ∷ true ∷ true ∷ true ∷ false ∷ true ∷ replicate 11 false ++ true ∷ true ∷ false ∷ true ∷ replicate 43 false;
  relatives = true ∷ replicate 63 false;
  axes = true ∷ replicate 63 false;
  switches = true ∷ replicate 63 false;
  leds = true ∷ replicate 63 false;
  sounds = true ∷ replicate 63 false;
  infos = record no_info { value = pos 100; fuzz = pos 8 } ∷ replicate 63 no_info;
}

abbrev pub of_kind : ℕ → ℤ → Event
of_kind kind value = record { kind = kind; code = 0; value = value }

-- on the panel, after these raw events, oldest first, this is passed for the event
abbrev pub Passes : List Event → Event → List Event → Type 0
Passes events e given = passed panel (map Occurred (reverse events)) e ≡ given

-- an LED is passed where it changes, and any value but 0 is on
abbrev pub PassesAnLedOnce : Type 0
PassesAnLedOnce =
    Passes [] (of_kind EV_LED (pos 1)) (of_kind EV_LED (pos 1) ∷ [])
    × Passes (of_kind EV_LED (pos 1) ∷ []) (of_kind EV_LED (pos 5)) []

-- a switch that is off already is not passed
abbrev pub PassesASwitchOnce : Type 0
PassesASwitchOnce =
    Passes [] (of_kind EV_SW (pos 0)) []
    × Passes (of_kind EV_SW (pos 1) ∷ []) (of_kind EV_SW (pos 0)) (of_kind EV_SW (pos 0) ∷ [])

-- a sound is always passed, and motion but by 0
abbrev pub PassesEachSound : Type 0
PassesEachSound = Passes (of_kind EV_SND (pos 1) ∷ []) (of_kind EV_SND (pos 1)) (of_kind EV_SND (pos 1) ∷ [])

abbrev pub PassesMotion : Type 0
PassesMotion =
    Passes [] (of_kind EV_REL (pos 0)) [] × Passes [] (of_kind EV_REL (negsuc 1)) (of_kind EV_REL (negsuc 1) ∷ [])

-- an axis is passed as the value that it takes, and the next move begins there
abbrev pub PassesAMove : Type 0
PassesAMove =
    Passes [] (of_kind EV_ABS (pos 103)) []
    × Passes [] (of_kind EV_ABS (pos 112)) (of_kind EV_ABS (pos 106) ∷ [])
    × Passes (of_kind EV_ABS (pos 112) ∷ []) (of_kind EV_ABS (pos 109)) []

-- a setting of the autorepeat is passed where it changes, and is never negative
abbrev pub PassesASetting : Type 0
PassesASetting =
    Passes [] (of_kind EV_REP (pos 250)) []
    × Passes [] (of_kind EV_REP (negsuc 0)) []
    × Passes [] (of_kind EV_REP (pos 0)) (of_kind EV_REP (pos 0) ∷ [])

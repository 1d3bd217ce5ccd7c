-- Short kept lists, worked out by hand: what waits for the owner after them, and what a feedback call takes.
use Rattle.std.specs.Prelude.{◌≡◌, ℕ, ℤ, pos, negsuc, true, false, List, [], ◌∷◌, ◌++◌, map, replicate, reverse}
use Rattle.std.specs.List.{range_with_len}
use Rattle.inp_model.specs.declared.event.TheConstants.{EV_SYN, EV_KEY, EV_MSC, EV_LED, EV_SND, EV_REP, SYN_REPORT, SYN_CONFIG, SYN_MT_REPORT, KEY_A, REP_DELAY}
use Rattle.inp_model.specs.declared.event.Event.{Event}
use Rattle.inp_model.specs.declared.step.Step.TheVariants.{Inject, Tick, Open, Write, Inhibit, Uninhibit}
use Rattle.inp_model.specs.Description.{Description, one_key}
use Rattle.inp_feedback.specs.declared.u_entry.UEntry.{UEntry}
use Rattle.inp_feedback.specs.declared.u_entry.UEntry.TheVariants.{Made, Feedback}
use Rattle.inp_feedback.specs.declared.fed.Fed.{Fed}
use Rattle.inp_feedback.specs.declared.fed.Fed.TheVariants.{Took, Full}
use Rattle.inp_feedback.specs.Sent.{sent}
use Rattle.inp_feedback.specs.Feedback.{feedback_queue, fed, taken_by_feedback}

-- the key A, MSC_SCAN, LED_CAPSL, SND_BELL and both settings of the autorepeat
abbrev pub keyboard : Description
keyboard = record one_key {
  kinds = true ∷ true ∷ false ∷ false ∷ true ∷ replicate 12 false ++ true ∷ true ∷ false ∷ true ∷ replicate 43 false;
  miscs = replicate 4 false ++ true ∷ replicate 59 false;
  leds = false ∷ true ∷ replicate 62 false;
  sounds = false ∷ true ∷ replicate 62 false;
}

abbrev pub caps_lock : ℤ → Event
caps_lock value = record { kind = EV_LED; code = 1; value = value }

abbrev pub bell : ℤ → Event
bell value = record { kind = EV_SND; code = 1; value = value }

abbrev pub scan : ℤ → Event
scan value = record { kind = EV_MSC; code = 4; value = value }

abbrev pub delay : ℤ → Event
delay value = record { kind = EV_REP; code = REP_DELAY; value = value }

abbrev pub A : ℤ → Event
A value = record { kind = EV_KEY; code = KEY_A; value = value }

abbrev pub syn : ℕ → Event
syn code = record { kind = EV_SYN; code = code; value = pos 0 }

-- an event is injected, at the moment 0
abbrev pub injected : Event → UEntry
injected e = Made (Inject e 0)

-- after these entries, oldest first, these events wait
abbrev pub Waits : List UEntry → List Event → Type 0
Waits kept es = feedback_queue keyboard (reverse kept) ≡ es

-- after them a feedback call with room for so many events answers so, and takes these
abbrev pub FeedsOn : Description → List UEntry → ℕ → Fed → List Event → Type 0
FeedsOn d kept room answer es = (fed d (reverse kept) room ≡ answer) × (taken_by_feedback d (reverse kept) room ≡ es)

abbrev pub Feeds : List UEntry → ℕ → Fed → List Event → Type 0
Feeds kept room answer es = FeedsOn keyboard kept room answer es

-- A client writes that the LED is on, and writes it again: one event is sent, and the owner takes it once.
abbrev pub written : List UEntry
written = Made Open ∷ Made (Write 0 (caps_lock (pos 1)) 0) ∷ Made (Write 0 (caps_lock (pos 1)) 0) ∷ []

abbrev pub SendsAChangeOnce : Type 0
SendsAChangeOnce =
    Feeds written 8 (Took 3 1) (caps_lock (pos 1) ∷ [])
    × Feeds (written ++ Feedback 1 ∷ []) 8 (Took 3 0) []

-- so many sounds of the bell, from a value on
abbrev pub bells : ℕ → ℕ → List Event
bells first count = map (λ n. bell (pos n)) (range_with_len first count)

-- of seventeen sounds the last fifteen wait, in order
abbrev pub KeepsFifteen : Type 0
KeepsFifteen =
    Feeds (map injected (bells 1 15)) 16 (Took 15 15) (bells 1 15)
    × Feeds (map injected (bells 1 17)) 16 (Took 17 15) (bells 3 15)

-- what is sent waits while its frame is still open, and where there is no frame
abbrev pub SendsInAnOpenBatch : Type 0
SendsInAnOpenBatch = Waits (injected (A (pos 1)) ∷ injected (scan (pos 30)) ∷ []) (scan (pos 30) ∷ [])

-- SYN_CONFIG is sent, and no other event of EV_SYN; nor is a key, or a code that the device lacks
abbrev pub SendsConfig : Type 0
SendsConfig =
    Waits (map injected (syn SYN_CONFIG ∷ syn SYN_MT_REPORT ∷ A (pos 1) ∷ record (bell (pos 1)) { code = 0 } ∷ syn SYN_REPORT ∷ [])) (syn SYN_CONFIG ∷ [])

-- a setting of the autorepeat is sent where it changes, and is never negative
abbrev pub SendsASetting : Type 0
SendsASetting =
    Waits (map injected (delay (pos 250) ∷ delay (pos 400) ∷ delay (negsuc 0) ∷ delay (pos 400) ∷ delay (pos 250) ∷ [])) (delay (pos 400) ∷ delay (pos 250) ∷ [])

-- an autorepeat sends nothing
abbrev pub SendsNoRepeat : Type 0
SendsNoRepeat = Waits (injected (A (pos 1)) ∷ injected (syn SYN_REPORT) ∷ Made (Tick 250000) ∷ []) []

-- an inhibition sends nothing, and nothing is sent while it lasts
abbrev pub SendsNothingWhileInhibited : Type 0
SendsNothingWhileInhibited =
    Waits
    (injected (caps_lock (pos 1)) ∷ injected (A (pos 1)) ∷ Made (Inhibit 1) ∷ injected (caps_lock (pos 0)) ∷ injected (bell (pos 1)) ∷ Made Uninhibit ∷ injected (caps_lock (pos 0)) ∷ [])
    (caps_lock (pos 1) ∷ caps_lock (pos 0) ∷ [])

-- a call takes the first events, as many as fit, and the next one goes on there
abbrev pub FeedsInParts : Type 0
FeedsInParts =
    Feeds (map injected (bells 1 3)) 2 (Took 3 2) (bells 1 2)
    × Feeds (map injected (bells 1 3) ++ Feedback 2 ∷ map injected (bells 4 1)) 16 (Took 4 2) (bells 3 2)
    × Feeds (map injected (bells 1 3)) 0 (Took 3 0) []

-- As many calls are kept as a history may have steps, those that take nothing too. The steps do not count, and further
-- ones are made.
abbrev pub KeepsCallsToItsLimit : Type 0
KeepsCallsToItsLimit =
    FeedsOn (record keyboard { log_limit = 2 }) (Feedback 0 ∷ map injected (bells 1 2)) 16 (Took 2 2) (bells 1 2)
    × FeedsOn (record keyboard { log_limit = 2 }) (Feedback 0 ∷ Feedback 0 ∷ map injected (bells 1 1)) 16 (Full 1) []

-- all that was sent in these steps; no more than that ever waits
abbrev pub SendsInOrder : Type 0
SendsInOrder = sent keyboard (reverse (map (λ e. Inject e 0) (scan (pos 1) ∷ A (pos 1) ∷ caps_lock (pos 1) ∷ bell (pos 1) ∷ []))) ≡ scan (pos 1) ∷ caps_lock (pos 1) ∷ bell (pos 1) ∷ []

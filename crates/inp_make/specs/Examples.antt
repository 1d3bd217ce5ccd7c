-- What the definitions say of a few frames, worked out by hand.
use Rattle.std.specs.Prelude.{◌≡◌, ℕ, ◌+◌, ◌*◌, ◌/◌, ◌<◌, ◌≤◌, pos, true, List, [], ◌∷◌, length, count_by, nat_eq, slice_get, Some}
use Rattle.inp_model.specs.declared.event.Event.{Event}
use Rattle.inp_model.specs.Description.{supports, ring}
use Rattle.inp_actors.specs.declared.line.Line.{Line}
use Rattle.inp_actors.specs.declared.command.Command.TheVariants.{Follow, Event as Injected}
use Rattle.inp_make.specs.declared.frame.TheConstants.{FINGER, FAST, MID, SLOW}
use Rattle.inp_make.specs.Generated.{pad, injected, follows, line, finger_events, frame_events, lines}

-- how many lines an actor has
abbrev pub line_count : ℕ → List Line → ℕ
line_count actor = count_by (λ line. nat_eq line.actor actor)

abbrev pub event : ℕ → ℕ → ℕ → Event
event kind code value = record { kind = kind; code = code; value = pos value }

-- the touchpad has its button, its axes and what slots need, and rings of 512 places
abbrev pub HasAxes : Type 0
HasAxes =
    (supports pad 1 330 ≡ true) × (supports pad 3 53 ≡ true) × (supports pad 3 54 ≡ true) × (supports pad 3 47 ≡ true)
    × (supports pad 3 57 ≡ true) × (pad.slots ≡ 10) × (ring pad ≡ 512)

-- where the last finger is in the 20th frame of number 7, and in the 5000th
abbrev pub HasPositions : Type 0
HasPositions =
    (finger_events 7 19 9 ≡ event 3 47 9 ∷ event 3 53 258 ∷ event 3 54 370 ∷ [])
    × (finger_events 7 4999 9 ≡ event 3 47 9 ∷ event 3 53 2350 ∷ event 3 54 1902 ∷ [])

-- finger 1 in the first two frames of number 4090, where its x wraps round
abbrev pub HasEvents : Type 0
HasEvents =
    (finger_events 4090 0 1 ≡ event 3 47 1 ∷ event 3 57 1 ∷ event 3 53 8 ∷ event 3 54 12 ∷ [])
    × (finger_events 4090 1 1 ≡ event 3 47 1 ∷ event 3 53 15 ∷ event 3 54 23 ∷ [])

-- In the first frame of number 7 the button goes down before all else. The first finger has its x there, and the last one its y
-- before the report. The second frame begins with the first slot, and ends in a report.
abbrev pub HasFrames : Type 0
HasFrames =
    (slice_get (frame_events 7 0) 0 ≡ Some (event 1 330 1)) × (slice_get (frame_events 7 0) 3 ≡ Some (event 3 53 8))
    × (slice_get (frame_events 7 0) 40 ≡ Some (event 3 54 161)) × (slice_get (frame_events 7 0) 41 ≡ Some (event 0 0 0))
    × (slice_get (frame_events 7 1) 0 ≡ Some (event 3 47 0)) × (slice_get (frame_events 7 1) 30 ≡ Some (event 0 0 0))

-- `mid` reads after the tenth frame, and not after the ninth
abbrev pub HasFollows : Type 0
HasFollows = (follows 8 ≡ line FAST Follow ∷ []) × (follows 9 ≡ line FAST Follow ∷ line MID Follow ∷ [])

-- the source injects an event of the first frame, and one of the 20th, at these moments
abbrev pub HasMoments : Type 0
HasMoments =
    (injected 0 (event 1 330 1) ≡ line 0 (Injected 10000 1 330 (pos 1)))
    × (injected 19 (event 0 0 0) ≡ line 0 (Injected 200000 0 0 (pos 0)))

-- the first frame has 42 events, and each later one 31
abbrev pub CountsEvents : Type 0
CountsEvents =
    ((number : ℕ) → length (frame_events number 0) ≡ 42) × ((number frame : ℕ) → 0 < frame → length (frame_events number frame) ≡ 31)

-- how many lines each actor has; in 20 frames the source has 631
abbrev pub CountsLines : Type 0
CountsLines = (number count : ℕ) → 1 ≤ count
    → (line_count FINGER (lines number count) ≡ 31 * count + 11) × (line_count FAST (lines number count) ≡ count + 1)
    × (line_count MID (lines number count) ≡ count / 10 + 1) × (line_count SLOW (lines number count) ≡ 2)

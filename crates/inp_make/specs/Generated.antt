-- The record that is made from a number and a count of frames.
use Rattle.std.specs.Prelude.{ℕ, ◌+◌, ◌*◌, ◌%◌, pos, false, List, [], ◌∷◌, ◌++◌, map, flat_map, nat_eq, if◌then◌else◌, codes}
use Rattle.std.specs.List.{range_with_len}
use Rattle.inp_model.specs.declared.event.TheConstants.{EV_KEY, EV_SYN, EV_ABS, SYN_REPORT}
use Rattle.inp_model.specs.declared.multi_touch.TheConstants.{ABS_MT_SLOT, ABS_MT_POSITION_X, ABS_MT_POSITION_Y, ABS_MT_TRACKING_ID}
use Rattle.inp_model.specs.declared.event.Event.{Event}
use Rattle.inp_model.specs.Description.{Description, no_info, syn_alone}
use Rattle.inp_model.specs.Raw.{key_event}
use Rattle.inp_caps.specs.Builder.{with_kind, with_code, with_axis, built}
use Rattle.inp_actors.specs.declared.role.Role.{Role}
use Rattle.inp_actors.specs.declared.role.Role.TheVariants.{Source, Client}
use Rattle.inp_actors.specs.declared.command.Command.{Command}
use Rattle.inp_actors.specs.declared.command.Command.TheVariants as command
use Rattle.inp_actors.specs.declared.device_text.DeviceText.{DeviceText}
use Rattle.inp_actors.specs.declared.actor_text.ActorText.{ActorText}
use Rattle.inp_actors.specs.declared.line.Line.{Line}
use Rattle.inp_actors.specs.Record.{RecordView}
use Rattle.inp_make.specs.declared.pad.TheConstants.{BTN_TOUCH}
use Rattle.inp_make.specs.declared.frame.TheConstants.{FINGER, FAST, MID, SLOW}

-- The device: a touchpad with ten slots, a button that is down while something touches, and positions from 0 to 4096.
unfoldable pub pad : Description
pad =
    let button = with_code (with_kind syn_alone EV_KEY) EV_KEY BTN_TOUCH in
    let x = with_axis (with_kind button EV_ABS) ABS_MT_POSITION_X (record no_info { maximum = pos 4096 }) in
    let y = with_axis (with_kind x EV_ABS) ABS_MT_POSITION_Y (record no_info { maximum = pos 4096 }) in
    built (record y { hint = 64; slots = 10 })

abbrev pub devices : List DeviceText
devices = record { name = codes "pad"; caps = pad; requested = false } ∷ []

-- The actors: a source, and three clients that read after each frame, after each tenth, and at the end. They stand in
-- the order of their numbers FINGER, FAST, MID and SLOW.
abbrev pub actor : List ℕ → Role → ActorText
actor name role = record { name = name; role = role; device = 0 }

abbrev pub actors : List ActorText
actors = actor (codes "finger") Source ∷ actor (codes "fast") Client ∷ actor (codes "mid") Client ∷ actor (codes "slow") Client ∷ []

-- The events of a frame. Frames and fingers are counted from 0.

-- a position from 1 to 4096, where a way wraps round
abbrev pub position : ℕ → ℕ
position way = way % 4096 + 1

abbrev pub value_event : ℕ → ℕ → Event
value_event code value = record { kind = EV_ABS; code = code; value = pos value }

-- an event that frame 0 alone has
abbrev pub at_first : ℕ → Event → List Event
at_first frame e = if nat_eq frame 0 then e ∷ [] else []

-- a finger's slot, its contact where it begins, and where it is
unfoldable pub finger_events : ℕ → ℕ → ℕ → List Event
finger_events number frame i =
    value_event ABS_MT_SLOT i ∷ at_first frame (value_event ABS_MT_TRACKING_ID i)
    ++ value_event ABS_MT_POSITION_X (position (number + 7 * frame + 13 * i))
    ∷ value_event ABS_MT_POSITION_Y (position (number + 11 * frame + 17 * i)) ∷ []

-- those of all ten fingers
unfoldable pub touches : ℕ → ℕ → List Event
touches number frame = flat_map (finger_events number frame) (range_with_len 0 10)

-- in frame 0 the button goes down before all else
unfoldable pub frame_events : ℕ → ℕ → List Event
frame_events number frame =
    at_first frame (key_event BTN_TOUCH 1) ++ touches number frame ++ record { kind = EV_SYN; code = SYN_REPORT; value = pos 0 } ∷ []

-- The lines.
abbrev pub line : ℕ → Command → Line
line number does = record { actor = number; command = does }

-- all events of a frame have one moment, in microseconds
abbrev pub injected : ℕ → Event → Line
injected frame e = line FINGER (command.Event (10000 * (frame + 1)) e.kind e.code e.value)

-- `fast` reads after each frame, and `mid` after each tenth
abbrev pub follows : ℕ → List Line
follows frame = line FAST command.Follow ∷ (if nat_eq (frame % 10) 9 then line MID command.Follow ∷ [] else [])

unfoldable pub frame_lines : ℕ → ℕ → List Line
frame_lines number frame = map (injected frame) (frame_events number frame) ++ follows frame

abbrev pub open_lines : List Line
open_lines = line FAST command.Open ∷ line MID command.Open ∷ line SLOW command.Open ∷ []

-- the clients open, the frames come, and `slow` reads at the end
unfoldable pub lines : ℕ → ℕ → List Line
lines number count =
    open_lines ++ flat_map (frame_lines number) (range_with_len 0 count) ++ line SLOW command.Follow ∷ []

-- the record of a number and a count of frames
abbrev pub generated : ℕ → ℕ → RecordView
generated number count = record { version = 1; devices = devices; actors = actors; lines = lines number count; streams = [] }

-- The text of a record (docs/FORMATS.md, "The text of a record").
use Rattle.std.specs.Prelude.{ℕ, Bool, if◌then◌else◌, nat_eq, List, [], ◌∷◌, ◌++◌, codes, decimal, flat_map, map, slice_get, option_map, unwrap_or}
use Rattle.std.specs.List.{enumerate_from}
use Rattle.inp_actors.specs.declared.device_text.DeviceText.{DeviceText}
use Rattle.inp_actors.specs.declared.actor_text.ActorText.{ActorText}
use Rattle.inp_actors.specs.declared.line.Line.{Line}
use Rattle.inp_actors.specs.Record.{RecordView}
use Rattle.inp_texts.specs.Texts.{role_text}
use Rattle.inp_record.specs.canon.Words.{Words, lines_text}
use Rattle.inp_record.specs.canon.Command.{command_words}
use Rattle.inp_record.specs.canon.Device.{description_lines}

-- an actor, if it is one of the device with this number
abbrev pub actor_lines : ℕ → ActorText → List Words
actor_lines device actor =
    if nat_eq actor.device device then (role_text actor.role ∷ actor.name ∷ []) ∷ [] else []

-- the actors of the device with this number, in file order
unfoldable pub actors_lines : List ActorText → ℕ → List Words
actors_lines actors device = flat_map (actor_lines device) actors

-- the first word of a device's line: whether it is made by requests
abbrev pub device_word : Bool → List ℕ
device_word requested = if requested then codes "udevice" else codes "device"

-- a device with its number: its name, its description and its actors
unfoldable pub device_lines : List ActorText → ℕ × DeviceText → List Words
device_lines actors d =
    (device_word d.1.requested ∷ d.1.name ∷ []) ∷ (description_lines d.1.caps ++ actors_lines actors d.0)

-- all devices with their numbers
unfoldable pub devices_lines : List ActorText → List DeviceText → List Words
devices_lines actors devices = flat_map (device_lines actors) (enumerate_from 0 devices)

-- what an actor does
abbrev pub action_words : List ActorText → Line → Words
action_words actors line =
    codes "do" ∷ unwrap_or (option_map (λ actor. actor.name) (slice_get actors line.actor)) [] ∷ command_words line.command

-- all lines: the header, the devices, the actions
unfoldable pub record_lines : RecordView → List Words
record_lines r =
    (codes "inputrecord" ∷ decimal r.version ∷ [])
    ∷ (devices_lines r.actors r.devices ++ map (action_words r.actors) r.lines)

unfoldable pub record_text : RecordView → List ℕ
record_text r = lines_text (record_lines r)

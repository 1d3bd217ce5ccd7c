-- The report of a record's joysticks, which stands after that of its devices (docs/FORMATS.md, "The
-- joysticks").
use Rattle.std.specs.Prelude.{ℕ, List, ◌++◌, length, take, codes, decimal, flat_map}
use Rattle.std.specs.Fmt.{signed_decimal}
use Rattle.inp_bits.specs.Bits.{true_indices}
use Rattle.inp_model.specs.Description.{Description}
use Rattle.inp_actors.specs.declared.role.Role.TheVariants.{Joy}
use Rattle.inp_actors.specs.declared.actor_text.ActorText.{ActorText}
use Rattle.inp_actors.specs.declared.device_text.DeviceText.{DeviceText}
use Rattle.inp_actors.specs.Record.{RecordView}
use Rattle.inp_joy.specs.Codes.{axes}
use Rattle.inp_joy.specs.Picture.{PictureView}
use Rattle.inp_script.specs.Job.{JoyJobView}
use Rattle.inp_report.specs.Words.{LINE_FEED, spaced}
use Rattle.inp_report.specs.Sights.{sight_line}
use Rattle.inp_report.specs.Report.{role_part, text_at}

-- how the buttons and axes stand: the numbers of the buttons that are down, ascending, and the value of each
-- axis that the device has as a joystick, by its number
unfoldable pub picture_text : Description → PictureView → List ℕ
picture_text d p =
    (codes "buttons" ++ spaced decimal (true_indices p.buttons) ++ LINE_FEED)
    ++ (codes "axes" ++ spaced signed_decimal (take (length (axes d)) p.axes) ++ LINE_FEED)

-- the part of the joystick that did the job: what it saw, and how its buttons and axes stand
abbrev pub joy_text : RecordView → JoyJobView → List ℕ
joy_text r joy =
    text_at (λ (actor : ActorText). text_at (λ (device : DeviceText).
    role_part Joy actor.name (flat_map sight_line joy.sight ++ picture_text device.caps joy.picture) joy.stop)
    r.devices actor.device) r.actors joy.actor

-- the joysticks in order
unfoldable pub joy_report : RecordView → List JoyJobView → List ℕ
joy_report r joys = flat_map (joy_text r) joys

-- The texts of a few records, worked out by hand.
use Rattle.std.specs.Prelude.{◌≡◌, ℕ, pos, negsuc, true, false, List, [], ◌∷◌, codes}
use Rattle.inp_model.specs.declared.event.TheConstants.{EV_SYN, EV_KEY, EV_REL, EV_ABS, EV_LED, EV_REP, SYN_REPORT, KEY_A}
use Rattle.inp_model.specs.declared.multi_touch.TheConstants.{ABS_MT_POSITION_X}
use Rattle.inp_model.specs.declared.clock.Clock.TheVariants.{Realtime, Monotonic, Boottime}
use Rattle.inp_model.specs.declared.axis_info.AxisInfo.{AxisInfo}
use Rattle.inp_model.specs.Description.{Description, one_key, no_info, syn_alone}
use Rattle.inp_model.specs.declared.filter.Filter.TheVariants.{Eat, Norepeat, Chord, Bounce}
use Rattle.inp_caps.specs.Builder.{with_kind, with_code, with_axis, with_filter, built}
use Rattle.inp_actors.specs.declared.command.Command as command
use Rattle.inp_actors.specs.declared.command.Command.TheVariants as commands
use Rattle.inp_actors.specs.declared.role.Role.{Role}
use Rattle.inp_actors.specs.declared.role.Role.TheVariants.{Source, Client, Tap, Joy, Owner}
use Rattle.inp_actors.specs.declared.device_text.DeviceText.{DeviceText}
use Rattle.inp_actors.specs.declared.actor_text.ActorText.{ActorText}
use Rattle.inp_actors.specs.declared.line.Line.{Line}
use Rattle.inp_actors.specs.Record.{RecordView}
use Rattle.inp_texts.specs.Texts.{text_of_lines}
use Rattle.inp_record.specs.canon.Words.{lines_text}
use Rattle.inp_record.specs.canon.Command.{command_words}
use Rattle.inp_record.specs.canon.Device.{description_lines}
use Rattle.inp_record.specs.canon.Text.{actors_lines, record_text}

abbrev pub device : List ℕ → Description → DeviceText
device name d = record { name = name; caps = d; requested = false }

abbrev pub actor : Role → List ℕ → ℕ → ActorText
actor role name device = record { name = name; role = role; device = device }

abbrev pub action : ℕ → command.Command → Line
action actor command = record { actor = actor; command = command }

-- a key goes down, and a tap reads it
abbrev pub keyboard : RecordView
keyboard = record {
  version = 1;
  devices = device (codes "kbd") one_key ∷ [];
  actors = actor Source (codes "s") 0 ∷ actor Tap (codes "t") 0 ∷ [];
  lines =
      action 1 commands.Open
      ∷ action 0 (commands.Event 1000 EV_KEY KEY_A (pos 1))
      ∷ action 0 (commands.Event 1000 EV_SYN SYN_REPORT (pos 0))
      ∷ action 1 (commands.Read 16)
      ∷ [];
  streams = [];
}

-- its whole text, with the defaults
abbrev pub WritesAKeyboard : Type 0
WritesAKeyboard =
    record_text keyboard
    ≡ text_of_lines (codes "inputrecord 1"
    ∷ codes "device kbd"
    ∷ codes "hint 16"
    ∷ codes "log 1048576"
    ∷ codes "clock realtime 0"
    ∷ codes "clock boottime 0"
    ∷ codes "type EV_KEY"
    ∷ codes "cap EV_KEY KEY_A"
    ∷ codes "source s"
    ∷ codes "tap t"
    ∷ codes "do t open"
    ∷ codes "do s event 1000 EV_KEY KEY_A 1"
    ∷ codes "do s event 1000 EV_SYN SYN_REPORT 0"
    ∷ codes "do t read 16"
    ∷ [])

-- a device made by requests, and what its owner reads
abbrev pub requested_keyboard : RecordView
requested_keyboard = record {
  version = 2;
  devices = record (device (codes "u") one_key) { requested = true } ∷ [];
  actors = actor Owner (codes "o") 0 ∷ [];
  lines = action 0 (commands.Feedback 8) ∷ [];
  streams = [];
}

abbrev pub WritesARequestedDevice : Type 0
WritesARequestedDevice =
    record_text requested_keyboard
    ≡ text_of_lines (codes "inputrecord 2"
    ∷ codes "udevice u"
    ∷ codes "hint 16"
    ∷ codes "log 1048576"
    ∷ codes "clock realtime 0"
    ∷ codes "clock boottime 0"
    ∷ codes "type EV_KEY"
    ∷ codes "cap EV_KEY KEY_A"
    ∷ codes "owner o"
    ∷ codes "do o feedback 8"
    ∷ [])

-- the version stands in the header
abbrev pub WritesAVersion : Type 0
WritesAVersion =
    record_text (record { version = 2; devices = []; actors = []; lines = []; streams = [] })
    ≡ text_of_lines (codes "inputrecord 2" ∷ [])

-- two slots, and the place of a contact
abbrev pub touchpad : Description
touchpad =
    let numbers : Description = record syn_alone { slots = 2; hint = 64; realtime = 5; boottime = 7 } in
    let place : AxisInfo = record no_info { minimum = negsuc 4; maximum = pos 4096; resolution = pos 12 } in
    built (with_axis (with_kind numbers EV_ABS) ABS_MT_POSITION_X place)

-- the axes that slots add are written
abbrev pub WritesSlots : Type 0
WritesSlots =
    lines_text (description_lines touchpad)
    ≡ text_of_lines (codes "hint 64"
    ∷ codes "log 1048576"
    ∷ codes "clock realtime 5"
    ∷ codes "clock boottime 7"
    ∷ codes "slots 2"
    ∷ codes "type EV_ABS"
    ∷ codes "axis ABS_MT_SLOT 0 0 1 0 0 0"
    ∷ codes "axis ABS_MT_POSITION_X 0 -5 4096 0 0 12"
    ∷ codes "axis ABS_MT_TRACKING_ID 0 0 65535 0 0 0"
    ∷ [])

-- codes of several types, one of them without a name, and the autorepeat
abbrev pub mixed : Description
mixed =
    let lights : Description = with_code (with_kind syn_alone EV_LED) EV_LED 1 in
    let keys : Description = with_code (with_kind lights EV_KEY) EV_KEY 84 in
    let wheel : Description = with_code (with_kind keys EV_REL) EV_REL 8 in
    with_code (with_kind wheel EV_REP) EV_REP 0

abbrev pub WritesCodesAscending : Type 0
WritesCodesAscending =
    lines_text (description_lines mixed)
    ≡ text_of_lines (codes "hint 16"
    ∷ codes "log 1048576"
    ∷ codes "clock realtime 0"
    ∷ codes "clock boottime 0"
    ∷ codes "type EV_KEY"
    ∷ codes "type EV_REL"
    ∷ codes "type EV_LED"
    ∷ codes "type EV_REP"
    ∷ codes "cap EV_KEY 84"
    ∷ codes "cap EV_REL REL_WHEEL"
    ∷ codes "cap EV_LED LED_CAPSL"
    ∷ [])

-- filters of each kind, one of them twice, and an axis
abbrev pub filtered : Description
filtered =
    let first : Description = with_filter syn_alone (Bounce 84 1000000) in
    let second : Description = with_filter first (Chord KEY_A 48) in
    let third : Description = with_filter (with_axis (with_kind second EV_ABS) 0 no_info) Norepeat in
    with_filter (with_filter third (Eat EV_REL 8)) Norepeat

-- after the axes, in the order in which they were added
abbrev pub WritesFiltersInOrder : Type 0
WritesFiltersInOrder =
    lines_text (description_lines filtered)
    ≡ text_of_lines (codes "hint 16"
    ∷ codes "log 1048576"
    ∷ codes "clock realtime 0"
    ∷ codes "clock boottime 0"
    ∷ codes "type EV_ABS"
    ∷ codes "axis ABS_X 0 0 0 0 0 0"
    ∷ codes "filter bounce 84 1000000"
    ∷ codes "filter chord KEY_A KEY_B"
    ∷ codes "filter norepeat"
    ∷ codes "filter eat EV_REL REL_WHEEL"
    ∷ codes "filter norepeat"
    ∷ [])

-- actors of two devices
abbrev pub actors : List ActorText
actors =
    actor Source (codes "a") 0
    ∷ actor Client (codes "b") 1
    ∷ actor Tap (codes "c") 0
    ∷ actor Joy (codes "d") 1
    ∷ actor Owner (codes "e") 0
    ∷ []

pub record WritesActorsOfTheDevice : Type 0 where
  pub first : lines_text (actors_lines actors 0) ≡ text_of_lines (codes "source a" ∷ codes "tap c" ∷ codes "owner e" ∷ [])
  pub second : lines_text (actors_lines actors 1) ≡ text_of_lines (codes "client b" ∷ codes "joy d" ∷ [])

-- the line of a command alone
abbrev pub IsCommandText : command.Command → List ℕ → Type 0
IsCommandText command text = lines_text (command_words command ∷ []) ≡ text_of_lines (text ∷ [])

pub record WritesCommands : Type 0 where
  pub event : IsCommandText (commands.Event 7 EV_REL 8 (negsuc 0)) (codes "event 7 EV_REL REL_WHEEL -1")
  pub tick : IsCommandText (commands.Tick 9000000000000000) (codes "tick 9000000000000000")
  pub inhibit : IsCommandText (commands.Inhibit 9) (codes "inhibit 9")
  pub uninhibit : IsCommandText commands.Uninhibit (codes "uninhibit")
  pub stream : IsCommandText (commands.Stream (codes "a/b.bin") 3) (codes "stream a/b.bin")
  pub stream16 : IsCommandText (commands.Stream16 (codes "a/b.bin") 3) (codes "stream16 a/b.bin")
  pub opening : IsCommandText commands.Open (codes "open")
  pub close : IsCommandText commands.Close (codes "close")
  pub grab : IsCommandText commands.Grab (codes "grab")
  pub ungrab : IsCommandText commands.Ungrab (codes "ungrab")
  pub revoke : IsCommandText commands.Revoke (codes "revoke")
  pub mask : IsCommandText (commands.Mask EV_KEY 1 48879) (codes "mask EV_KEY 1 0x000000000000beef")
  pub mask_all : IsCommandText (commands.Mask 7 0 18446744073709551615) (codes "mask 7 0 0xffffffffffffffff")
  pub mask_none : IsCommandText (commands.Mask EV_SYN 65535 0) (codes "mask EV_SYN 65535 0x0000000000000000")
  pub realtime : IsCommandText (commands.Clock Realtime 1) (codes "clock realtime 1")
  pub monotonic : IsCommandText (commands.Clock Monotonic 5) (codes "clock monotonic 5")
  pub boottime : IsCommandText (commands.Clock Boottime 0) (codes "clock boottime 0")
  pub write : IsCommandText (commands.Write 7 7 300 (pos 1)) (codes "write 7 7 300 1")
  pub describe : IsCommandText (commands.SetAxis 0 (record no_info { value = pos 10; maximum = pos 200; fuzz = pos 8; flat = negsuc 2 })) (codes "setaxis ABS_X 10 0 200 8 -3 0")
  pub read : IsCommandText (commands.Read 0) (codes "read 0")
  pub read_all : IsCommandText (commands.Read 4294967295) (codes "read 4294967295")
  pub discard : IsCommandText commands.Discard (codes "discard")
  pub keys : IsCommandText commands.Keys (codes "keys")
  pub switches : IsCommandText commands.Switches (codes "switches")
  pub leds : IsCommandText commands.Leds (codes "leds")
  pub sounds : IsCommandText commands.Sounds (codes "sounds")
  pub syncslots : IsCommandText commands.SyncSlots (codes "syncslots")
  pub axis : IsCommandText (commands.Axis 0) (codes "axis ABS_X")
  pub slots : IsCommandText (commands.Slots 30) (codes "slots 30")
  pub next : IsCommandText (commands.Next 4294967295) (codes "next 4294967295")
  pub skip : IsCommandText (commands.Skip 2) (codes "skip 2")
  pub follow : IsCommandText commands.Follow (codes "follow")
  pub force : IsCommandText commands.Force (codes "force")
  pub feedback : IsCommandText (commands.Feedback 4096) (codes "feedback 4096")

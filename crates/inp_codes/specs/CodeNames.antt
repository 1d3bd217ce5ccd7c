-- The codes of each event type and their names, as the kernel's header `input-event-codes.h` has them.
use Rattle.std.specs.Prelude.{◌≡◌, ◌↔◌, ℕ, Bool, ◌&&◌, ◌==◌, List, [], ◌∷◌, ◌++◌, map, Option, Some, IsTrue, Contains, codes, if◌then◌else◌}
use Rattle.std.specs.List.{flat_map}
use Rattle.inp_codes.specs.Table.{NamedNumber, code_run, name_in, number_in, is_name_word}

-- EV_SYN: synchronisation events
unfoldable pub syn_codes : List (NamedNumber ℕ)
syn_codes =
    code_run (codes "SYN_") 0 (codes "REPORT CONFIG MT_REPORT DROPPED")

-- EV_KEY: keys and buttons
unfoldable pub key_codes : List (NamedNumber ℕ)
key_codes =
    code_run (codes "KEY_") 1 (codes "ESC 1 2 3 4 5 6 7 8 9 0 MINUS EQUAL BACKSPACE TAB Q W E R T")
    ++ code_run (codes "KEY_") 21 (codes "Y U I O P LEFTBRACE RIGHTBRACE ENTER LEFTCTRL A S D F G H J")
    ++ code_run (codes "KEY_") 37 (codes "K L SEMICOLON APOSTROPHE GRAVE LEFTSHIFT BACKSLASH Z X C V")
    ++ code_run (codes "KEY_") 48 (codes "B N M COMMA DOT SLASH RIGHTSHIFT KPASTERISK LEFTALT SPACE CAPSLOCK")
    ++ code_run (codes "KEY_") 59 (codes "F1 F2 F3 F4 F5 F6 F7 F8 F9 F10 NUMLOCK SCROLLLOCK KP7")
    ++ code_run (codes "KEY_") 72 (codes "KP8 KP9 KPMINUS KP4 KP5 KP6 KPPLUS KP1 KP2 KP3 KP0 KPDOT")
    ++ code_run (codes "KEY_") 86 (codes "102ND F11 F12")
    ++ code_run (codes "KEY_") 96 (codes "KPENTER RIGHTCTRL KPSLASH SYSRQ RIGHTALT LINEFEED HOME")
    ++ code_run (codes "KEY_") 103 (codes "UP PAGEUP LEFT RIGHT END DOWN PAGEDOWN INSERT DELETE")
    ++ code_run (codes "KEY_") 113 (codes "MUTE VOLUMEDOWN VOLUMEUP POWER KPEQUAL")
    ++ code_run (codes "KEY_") 119 (codes "PAUSE")
    ++ code_run (codes "KEY_") 125 (codes "LEFTMETA RIGHTMETA COMPOSE")
    ++ code_run (codes "KEY_") 183 (codes "F13 F14 F15 F16 F17 F18 F19 F20 F21 F22 F23 F24")
    ++ code_run (codes "BTN_") 256 (codes "0 1 2 3 4 5 6 7 8 9")
    ++ code_run (codes "BTN_") 272 (codes "LEFT RIGHT MIDDLE SIDE EXTRA FORWARD BACK TASK")
    ++ code_run (codes "BTN_") 288 (codes "TRIGGER THUMB THUMB2 TOP TOP2 PINKIE")
    ++ code_run (codes "BTN_") 294 (codes "BASE BASE2 BASE3 BASE4 BASE5 BASE6")
    ++ code_run (codes "BTN_") 304 (codes "SOUTH EAST C NORTH WEST Z TL TR TL2")
    ++ code_run (codes "BTN_") 313 (codes "TR2 SELECT START MODE THUMBL THUMBR")
    ++ code_run (codes "BTN_") 320 (codes "TOOL_PEN TOOL_RUBBER TOOL_BRUSH TOOL_PENCIL TOOL_AIRBRUSH")
    ++ code_run (codes "BTN_") 325 (codes "TOOL_FINGER TOOL_MOUSE TOOL_LENS")
    ++ code_run (codes "BTN_") 330 (codes "TOUCH STYLUS STYLUS2 TOOL_DOUBLETAP TOOL_TRIPLETAP TOOL_QUADTAP")

-- EV_REL: relative axes
unfoldable pub rel_codes : List (NamedNumber ℕ)
rel_codes =
    code_run (codes "REL_") 0 (codes "X Y Z RX RY RZ HWHEEL DIAL WHEEL MISC")
    ++ code_run (codes "REL_") 11 (codes "WHEEL_HI_RES HWHEEL_HI_RES")

-- EV_ABS: absolute axes
unfoldable pub abs_codes : List (NamedNumber ℕ)
abs_codes =
    code_run (codes "ABS_") 0 (codes "X Y Z RX RY RZ THROTTLE RUDDER WHEEL GAS BRAKE")
    ++ code_run (codes "ABS_") 16 (codes "HAT0X HAT0Y HAT1X HAT1Y HAT2X HAT2Y HAT3X HAT3Y")
    ++ code_run (codes "ABS_") 24 (codes "PRESSURE DISTANCE TILT_X TILT_Y TOOL_WIDTH")
    ++ code_run (codes "ABS_") 32 (codes "VOLUME")
    ++ code_run (codes "ABS_") 40 (codes "MISC")
    ++ code_run (codes "ABS_") 47 (codes "MT_SLOT MT_TOUCH_MAJOR MT_TOUCH_MINOR MT_WIDTH_MAJOR")
    ++ code_run (codes "ABS_") 51 (codes "MT_WIDTH_MINOR MT_ORIENTATION MT_POSITION_X")
    ++ code_run (codes "ABS_") 54 (codes "MT_POSITION_Y MT_TOOL_TYPE MT_BLOB_ID MT_TRACKING_ID")
    ++ code_run (codes "ABS_") 58 (codes "MT_PRESSURE MT_DISTANCE MT_TOOL_X MT_TOOL_Y")

-- EV_MSC: miscellaneous events
unfoldable pub msc_codes : List (NamedNumber ℕ)
msc_codes =
    code_run (codes "MSC_") 0 (codes "SERIAL PULSELED GESTURE RAW SCAN TIMESTAMP")

-- EV_SW: switches
unfoldable pub sw_codes : List (NamedNumber ℕ)
sw_codes =
    code_run (codes "SW_") 0 (codes "LID TABLET_MODE HEADPHONE_INSERT RFKILL_ALL MICROPHONE_INSERT")
    ++ code_run (codes "SW_") 5 (codes "DOCK LINEOUT_INSERT JACK_PHYSICAL_INSERT")
    ++ code_run (codes "SW_") 8 (codes "VIDEOOUT_INSERT CAMERA_LENS_COVER KEYPAD_SLIDE")

-- EV_LED: LEDs
unfoldable pub led_codes : List (NamedNumber ℕ)
led_codes =
    code_run (codes "LED_") 0 (codes "NUML CAPSL SCROLLL COMPOSE KANA SLEEP")
    ++ code_run (codes "LED_") 6 (codes "SUSPEND MUTE MISC MAIL CHARGING")

-- EV_SND: sounds
unfoldable pub snd_codes : List (NamedNumber ℕ)
snd_codes =
    code_run (codes "SND_") 0 (codes "CLICK BELL TONE")

-- EV_REP: the autorepeat values
unfoldable pub rep_codes : List (NamedNumber ℕ)
rep_codes =
    code_run (codes "REP_") 0 (codes "DELAY PERIOD")

-- each type with its codes
unfoldable pub kinds_with_codes : List (ℕ × List (NamedNumber ℕ))
kinds_with_codes =
    (0x00, syn_codes)
    ∷ (0x01, key_codes)
    ∷ (0x02, rel_codes)
    ∷ (0x03, abs_codes)
    ∷ (0x04, msc_codes)
    ∷ (0x05, sw_codes)
    ∷ (0x11, led_codes)
    ∷ (0x12, snd_codes)
    ∷ (0x14, rep_codes)
    ∷ []

-- the codes of a type as entries of the type and the code
abbrev pub entries_of_kind : ℕ × List (NamedNumber ℕ) → List (NamedNumber (ℕ × ℕ))
entries_of_kind k = map (λ e. ((k.0, e.0), e.1)) k.1

-- the codes of all types that have a name
unfoldable pub code_entries : List (NamedNumber (ℕ × ℕ))
code_entries = flat_map entries_of_kind kinds_with_codes

-- the same type and the same code
abbrev pub is_same_code : ℕ × ℕ → ℕ × ℕ → Bool
is_same_code p q = (p.0 == q.0) && (p.1 == q.1)

-- the name of a type's code
unfoldable pub name_of : ℕ → ℕ → Option (List ℕ)
name_of kind code = name_in is_same_code code_entries (kind, code)

-- the type and the code that have this name
unfoldable pub code_of : List ℕ → Option (ℕ × ℕ)
code_of name = number_in code_entries name

-- a code has a name exactly where the table has an entry of both
abbrev pub CodeNamesAreEntries : Type 0
CodeNamesAreEntries =
    (kind code : ℕ) (name : List ℕ)
    → (name_of kind code ≡ Some name) ↔ Contains code_entries ((kind, code), name)

-- a code has a name exactly where the name has that code
abbrev pub CodesAreOneToOne : Type 0
CodesAreOneToOne =
    (kind code : ℕ) (name : List ℕ)
    → (name_of kind code ≡ Some name) ↔ (code_of name ≡ Some (kind, code))

-- a code's name is a word
abbrev pub CodeNamesAreWords : Type 0
CodeNamesAreWords =
    (kind code : ℕ) (name : List ℕ) → name_of kind code ≡ Some name → IsTrue (is_name_word name)

-- the first list of codes that stands with this type, or none
unfoldable pub codes_in : List (ℕ × List (NamedNumber ℕ)) → ℕ → List (NamedNumber ℕ)
codes_in [] kind = []
codes_in (k ∷ ks) kind = if k.0 == kind then k.1 else codes_in ks kind

-- the codes of a type
abbrev pub codes_of_kind : ℕ → List (NamedNumber ℕ)
codes_of_kind = codes_in kinds_with_codes

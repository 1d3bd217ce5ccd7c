-- Short records worked out by hand: which line is refused and why, or what they mean.
use Rattle.std.specs.Prelude.{◌≡◌, ℕ, pos, true, List, [], ◌∷◌, ◌++◌, codes, replicate, map, sum_by, negsuc, Option, Some, None, Ok, Err, is_ok}
use Rattle.inp_model.specs.declared.clock.Clock.TheVariants.{Monotonic, Boottime}
use Rattle.inp_model.specs.declared.stamped.Stamped.{Stamped}
use Rattle.inp_model.specs.declared.filter.Filter.TheVariants.{Eat, Norepeat, Chord, Bounce}
use Rattle.inp_model.specs.Description.{no_info, syn_alone}
use Rattle.inp_caps.specs.declared.caps_refused.CapsRefused.TheVariants.{BadCode, BadAxis, BadSlots, BadHint, BadLog, BadOffset, BadFilter}
use Rattle.inp_actors.specs.declared.command.Command as command
use Rattle.inp_actors.specs.declared.command.Command.TheVariants as commands
use Rattle.inp_actors.specs.declared.role.Role.TheVariants as roles
use Rattle.inp_actors.specs.declared.device_text.DeviceText.{DeviceText}
use Rattle.inp_actors.specs.declared.actor_text.ActorText.{ActorText}
use Rattle.inp_record.specs.canon.Examples.{device as described, actor, action, keyboard}
use Rattle.inp_stream.specs.Examples.{press as press_event, press_record, press_record16}
use Rattle.inp_texts.specs.Texts.{text_of_lines}
use Rattle.inp_record.specs.declared.cause.Cause.{Cause}
use Rattle.inp_record.specs.declared.cause.Cause.TheVariants.{NotText, BadHeader, BadLine, OutOfPlace, NoActor, BadCommand, BadWord, Twice, TooMany, Caps}
use Rattle.inp_record.specs.ItemsBefore.{streams_in}
use Rattle.inp_record.specs.Meaning.{meaning}
use Rattle.inp_record.specs.Stream.{stamps_of_command}

-- these lines are refused at this one
abbrev pub AreRefusedAt : ℕ → Cause → List (List ℕ) → Type 0
AreRefusedAt line cause lines = meaning (text_of_lines lines) ≡ Err (record { line = line; cause = cause })

-- these lines are a record
abbrev pub AreRecord : List (List ℕ) → Type 0
AreRecord lines = is_ok (meaning (text_of_lines lines)) ≡ true

abbrev pub header_lines : List (List ℕ)
header_lines = codes "inputrecord 1" ∷ []

-- a device of which nothing was said
abbrev pub device_lines : List (List ℕ)
device_lines = header_lines ++ codes "device d" ∷ []

-- the same under version 2
abbrev pub later_lines : List (List ℕ)
later_lines = codes "inputrecord 2" ∷ codes "device d" ∷ []

-- with an actor of each role
abbrev pub actor_lines : List (List ℕ)
actor_lines = device_lines ++ codes "source s" ∷ codes "client c" ∷ codes "tap t" ∷ []

-- A byte that is no text, outside comments.
pub record RefusesOtherBytes : Type 0 where
  pub first : AreRefusedAt 1 NotText ((0 ∷ []) ∷ [])
  pub blank : AreRefusedAt 2 NotText (header_lines ++ (32 ∷ 7 ∷ []) ∷ [])
  pub two_returns : AreRefusedAt 1 NotText ((codes "inputrecord 1" ++ 13 ∷ 13 ∷ []) ∷ [])
  pub return_before_comment : AreRefusedAt 2 NotText (header_lines ++ (13 ∷ codes "#") ∷ [])
  pub delete : AreRefusedAt 3 NotText (device_lines ++ (codes "hint 16" ++ 127 ∷ []) ∷ [])
  pub beyond_ascii : AreRefusedAt 2 NotText (header_lines ++ (codes "device d" ++ 195 ∷ 164 ∷ []) ∷ [])
  pub before_bad_line : AreRefusedAt 2 NotText (header_lines ++ (codes "foo" ++ 1 ∷ []) ∷ [])

-- A first line that is not the header.
pub record RefusesHeaders : Type 0 where
  pub none : meaning [] ≡ Err (record { line = 1; cause = BadHeader })
  pub comment_alone : AreRefusedAt 2 BadHeader (codes "#" ∷ [])
  pub version : AreRefusedAt 1 BadHeader (codes "inputrecord 3" ∷ [])
  pub version_number : AreRefusedAt 1 BadHeader (codes "inputrecord 02" ∷ [])
  pub no_version : AreRefusedAt 1 BadHeader (codes "inputrecord" ∷ [])
  pub more : AreRefusedAt 1 BadHeader (codes "inputrecord 1 1" ∷ [])
  pub no_keyword : AreRefusedAt 1 BadHeader (codes "foo" ∷ [])

-- A first word that begins no line, or another number of words.
pub record RefusesLines : Type 0 where
  pub keyword : AreRefusedAt 2 BadLine (header_lines ++ codes "foo" ∷ [])
  pub capital : AreRefusedAt 2 BadLine (header_lines ++ codes "Device d" ∷ [])
  pub second_header : AreRefusedAt 2 BadLine (header_lines ++ codes "inputrecord" ∷ [])
  pub device : AreRefusedAt 2 BadLine (header_lines ++ codes "device" ∷ [])
  pub type_line : AreRefusedAt 3 BadLine (device_lines ++ codes "type EV_KEY KEY_A" ∷ [])
  pub axis : AreRefusedAt 3 BadLine (device_lines ++ codes "axis ABS_X 0 0 0 0 0" ∷ [])
  pub action : AreRefusedAt 3 BadLine (device_lines ++ codes "do x" ∷ [])
  pub before_place : AreRefusedAt 2 BadLine (header_lines ++ codes "hint" ∷ [])

-- A line that stands where it may not.
pub record RefusesPlaces : Type 0 where
  pub second_header : AreRefusedAt 2 OutOfPlace (header_lines ++ codes "inputrecord 9" ∷ [])
  pub hint : AreRefusedAt 2 OutOfPlace (header_lines ++ codes "hint 16" ∷ [])
  pub clock : AreRefusedAt 7 OutOfPlace (actor_lines ++ codes "do t open" ∷ codes "clock realtime 0" ∷ [])
  pub source : AreRefusedAt 2 OutOfPlace (header_lines ++ codes "source s" ∷ [])
  pub client : AreRefusedAt 7 OutOfPlace (actor_lines ++ codes "do t open" ∷ codes "client d" ∷ [])
  pub device : AreRefusedAt 7 OutOfPlace (actor_lines ++ codes "do t open" ∷ codes "device e" ∷ [])
  pub before_words : AreRefusedAt 2 OutOfPlace (header_lines ++ codes "hint x" ∷ [])

-- An action of no actor.
pub record RefusesActors : Type 0 where
  pub no_device : AreRefusedAt 2 NoActor (header_lines ++ codes "do x open" ∷ [])
  pub other : AreRefusedAt 6 NoActor (actor_lines ++ codes "do x open" ∷ [])
  pub no_name : AreRefusedAt 6 NoActor (actor_lines ++ codes "do T open" ∷ [])
  pub before_command : AreRefusedAt 6 NoActor (actor_lines ++ codes "do x foo" ∷ [])

-- A command that its actor does not have, or with another number of words.
pub record RefusesCommands : Type 0 where
  pub none : AreRefusedAt 6 BadCommand (actor_lines ++ codes "do t foo" ∷ [])
  pub source : AreRefusedAt 6 BadCommand (actor_lines ++ codes "do s open" ∷ [])
  pub tap : AreRefusedAt 6 BadCommand (actor_lines ++ codes "do t follow" ∷ [])
  pub less : AreRefusedAt 6 BadCommand (actor_lines ++ codes "do t read" ∷ [])
  pub more : AreRefusedAt 6 BadCommand (actor_lines ++ codes "do t open 1" ∷ [])
  pub before_word : AreRefusedAt 6 BadCommand (actor_lines ++ codes "do t read x x" ∷ [])
  pub later : AreRefusedAt 6 BadCommand (actor_lines ++ codes "do s stream16 f" ∷ [])
  pub tap_of_version_2 : AreRefusedAt 4 BadCommand (later_lines ++ codes "tap t" ∷ codes "do t stream16 f" ∷ [])

-- A word that does not have its form or its range.
pub record RefusesWords : Type 0 where
  pub device : AreRefusedAt 2 BadWord (header_lines ++ codes "device D" ∷ [])
  pub long_name : AreRefusedAt 2 BadWord (header_lines ++ codes "device abcdefghijklmnopqrstuvwxyz0123456" ∷ [])
  pub hint : AreRefusedAt 3 BadWord (device_lines ++ codes "hint x" ∷ [])
  pub wide_hint : AreRefusedAt 3 BadWord (device_lines ++ codes "hint 4294967296" ∷ [])
  pub clock : AreRefusedAt 3 BadWord (device_lines ++ codes "clock monotonic 0" ∷ [])
  pub offset : AreRefusedAt 3 BadWord (device_lines ++ codes "clock realtime 18446744073709551616" ∷ [])
  pub type_line : AreRefusedAt 3 BadWord (device_lines ++ codes "type EV_FF" ∷ [])
  pub axis_number : AreRefusedAt 3 BadWord (device_lines ++ codes "axis ABS_X 0 0 2147483648 0 0 0" ∷ [])
  pub moment : AreRefusedAt 6 BadWord (actor_lines ++ codes "do s tick 9000000000000001" ∷ [])
  pub kind : AreRefusedAt 6 BadWord (actor_lines ++ codes "do s event 0 65536 0 0" ∷ [])
  pub value : AreRefusedAt 6 BadWord (actor_lines ++ codes "do s event 0 EV_KEY KEY_A 1.0" ∷ [])
  pub count : AreRefusedAt 6 BadWord (actor_lines ++ codes "do t read 4097" ∷ [])
  pub mask : AreRefusedAt 6 BadWord (actor_lines ++ codes "do t mask EV_KEY 65536 0" ∷ [])
  pub clock_moment : AreRefusedAt 6 BadWord (actor_lines ++ codes "do t clock utc 0" ∷ [])
  pub before_twice : AreRefusedAt 4 BadWord (device_lines ++ codes "hint 16" ∷ codes "hint x" ∷ [])

-- What may be given once, given twice.
pub record RefusesRepeats : Type 0 where
  pub hint : AreRefusedAt 4 Twice (device_lines ++ codes "hint 16" ∷ codes "hint 1" ∷ [])
  pub log : AreRefusedAt 4 Twice (device_lines ++ codes "log 16" ∷ codes "log 16" ∷ [])
  pub clock : AreRefusedAt 4 Twice (device_lines ++ codes "clock realtime 1" ∷ codes "clock realtime 2" ∷ [])
  pub slots : AreRefusedAt 4 Twice (device_lines ++ codes "slots 2" ∷ codes "slots 0" ∷ [])
  pub axis : AreRefusedAt 4 Twice (device_lines ++ codes "axis ABS_X 0 0 0 0 0 0" ∷ codes "axis 0 0 0 0 0 0 0" ∷ [])
  pub device : AreRefusedAt 3 Twice (device_lines ++ codes "device d" ∷ [])
  pub actor : AreRefusedAt 4 Twice (device_lines ++ codes "source s" ∷ codes "tap s" ∷ [])
  pub actor_of_another : AreRefusedAt 5 Twice (device_lines ++ codes "source s" ∷ codes "device e" ∷ codes "source s" ∷ [])

-- One more than there may be.
pub record RefusesMore : Type 0 where
  pub device : AreRefusedAt 10 TooMany (header_lines ++ codes "device a" ∷ codes "device b" ∷ codes "device c" ∷ codes "device d" ∷ codes "device e" ∷ codes "device f" ∷ codes "device g" ∷ codes "device h" ∷ codes "device i" ∷ [])
  pub source : AreRefusedAt 11 TooMany (device_lines ++ codes "source a" ∷ codes "source b" ∷ codes "source c" ∷ codes "source d" ∷ codes "source e" ∷ codes "source f" ∷ codes "source g" ∷ codes "source h" ∷ codes "source i" ∷ [])
  pub stream : AreRefusedAt 20 TooMany (device_lines ++ codes "source s" ∷ replicate 17 (codes "do s stream f"))
  pub both_streams : AreRefusedAt 20 TooMany (later_lines ++ codes "source s" ∷ (replicate 9 (codes "do s stream16 f") ++ replicate 8 (codes "do s stream f")))

-- What no device has.
pub record RefusesDescriptions : Type 0 where
  pub hint : AreRefusedAt 3 (Caps BadHint) (device_lines ++ codes "hint 1" ∷ [])
  pub log : AreRefusedAt 3 (Caps BadLog) (device_lines ++ codes "log 0" ∷ [])
  pub realtime : AreRefusedAt 3 (Caps BadOffset) (device_lines ++ codes "clock realtime 9000000000000001" ∷ [])
  pub boottime : AreRefusedAt 4 (Caps BadOffset) (device_lines ++ codes "clock realtime 1" ∷ codes "clock boottime 9000000000000001" ∷ [])
  pub slots : AreRefusedAt 3 (Caps BadSlots) (device_lines ++ codes "slots 0" ∷ [])
  pub slots_of_version_1 : AreRefusedAt 3 (Caps BadSlots) (device_lines ++ codes "slots 65" ∷ [])
  pub slots_of_version_2 : AreRefusedAt 3 (Caps BadSlots) (later_lines ++ codes "slots 257" ∷ [])
  pub type_line : AreRefusedAt 3 (Caps BadCode) (device_lines ++ codes "type 6" ∷ [])
  pub cap : AreRefusedAt 3 (Caps BadCode) (device_lines ++ codes "cap EV_KEY 0" ∷ [])
  pub cap_of_axis : AreRefusedAt 3 (Caps BadCode) (device_lines ++ codes "cap EV_ABS ABS_X" ∷ [])
  pub axis_code : AreRefusedAt 3 (Caps BadCode) (device_lines ++ codes "axis 64 0 0 0 -1 0 0" ∷ [])
  pub axis : AreRefusedAt 3 (Caps BadAxis) (device_lines ++ codes "axis ABS_X 0 0 9 -1 0 0" ∷ [])

-- Filter lines that name no filter, that stand where they may not, or that no device has.
pub record RefusesFilters : Type 0 where
  pub version_1 : AreRefusedAt 3 BadLine (device_lines ++ codes "filter norepeat" ∷ [])
  pub alone : AreRefusedAt 3 BadLine (later_lines ++ codes "filter" ∷ [])
  pub before_place : AreRefusedAt 2 BadLine (codes "inputrecord 2" ∷ codes "filter eat EV_KEY" ∷ [])
  pub place : AreRefusedAt 2 OutOfPlace (codes "inputrecord 2" ∷ codes "filter other" ∷ [])
  pub other : AreRefusedAt 3 BadWord (later_lines ++ codes "filter other" ∷ [])
  pub other_of_many_words : AreRefusedAt 3 BadWord (later_lines ++ codes "filter other 1 2 3 4" ∷ [])
  pub code : AreRefusedAt 3 BadWord (later_lines ++ codes "filter eat EV_KEY REL_X" ∷ [])
  pub no_time : AreRefusedAt 3 BadWord (later_lines ++ codes "filter bounce KEY_A 0" ∷ [])
  pub long_time : AreRefusedAt 3 BadWord (later_lines ++ codes "filter bounce KEY_A 1000001" ∷ [])
  pub report : AreRefusedAt 3 (Caps BadCode) (later_lines ++ codes "filter eat EV_SYN SYN_REPORT" ∷ [])
  pub key_0 : AreRefusedAt 3 (Caps BadCode) (later_lines ++ codes "filter bounce 0 1" ∷ [])
  pub one_key : AreRefusedAt 3 (Caps BadCode) (later_lines ++ codes "filter chord KEY_A 30" ∷ [])
  pub ninth : AreRefusedAt 11 (Caps BadFilter) (later_lines ++ replicate 9 (codes "filter norepeat"))
  pub ninth_code : AreRefusedAt 11 (Caps BadCode) (later_lines ++ (replicate 8 (codes "filter norepeat") ++ codes "filter eat 7 0" ∷ []))
  pub ninth_word : AreRefusedAt 11 BadWord (later_lines ++ (replicate 8 (codes "filter norepeat") ++ codes "filter bounce KEY_A 0" ∷ []))

-- with a joystick
abbrev pub joy_lines : List (List ℕ)
joy_lines = later_lines ++ codes "joy j" ∷ []

-- Joysticks under version 1, which has no joysticks; joysticks that stand where they may not; commands that
-- joysticks do not have.
pub record RefusesJoysticks : Type 0 where
  pub version_1 : AreRefusedAt 3 BadLine (device_lines ++ codes "joy j" ∷ [])
  pub behind_an_action : AreRefusedAt 5 OutOfPlace (joy_lines ++ codes "do j open" ∷ codes "joy k" ∷ [])
  pub grab : AreRefusedAt 4 BadCommand (joy_lines ++ codes "do j grab" ∷ [])
  pub count : AreRefusedAt 4 BadWord (joy_lines ++ codes "do j read 4294967296" ∷ [])

-- a device made by requests, of which nothing was said
abbrev pub requested_lines : List (List ℕ)
requested_lines = codes "inputrecord 2" ∷ codes "udevice u" ∷ []

-- with its owner
abbrev pub owner_lines : List (List ℕ)
owner_lines = requested_lines ++ codes "owner o" ∷ []

-- Devices made by requests and owners under version 1, which has neither; those that stand where they may
-- not; a second owner. Commands that owners do not have, and that owners alone have.
pub record RefusesOwners : Type 0 where
  pub version_1 : AreRefusedAt 2 BadLine (header_lines ++ codes "udevice u" ∷ [])
  pub owner_of_version_1 : AreRefusedAt 3 BadLine (device_lines ++ codes "owner o" ∷ [])
  pub under_device : AreRefusedAt 3 OutOfPlace (later_lines ++ codes "owner o" ∷ [])
  pub under_a_later_device : AreRefusedAt 4 OutOfPlace (requested_lines ++ codes "device d" ∷ codes "owner O" ∷ [])
  pub behind_an_action : AreRefusedAt 5 OutOfPlace (requested_lines ++ codes "tap t" ∷ codes "do t open" ∷ codes "owner o" ∷ [])
  pub device_behind_an_action : AreRefusedAt 5 OutOfPlace (owner_lines ++ codes "do o feedback 1" ∷ codes "udevice v" ∷ [])
  pub again_first : AreRefusedAt 4 Twice (owner_lines ++ codes "owner o" ∷ [])
  pub device_again : AreRefusedAt 3 Twice (later_lines ++ codes "udevice d" ∷ [])
  pub second : AreRefusedAt 4 TooMany (owner_lines ++ codes "owner p" ∷ [])
  pub second_behind_others : AreRefusedAt 6 TooMany (owner_lines ++ codes "tap t" ∷ codes "source s" ∷ codes "owner p" ∷ [])
  pub ninth_device : AreRefusedAt 10 TooMany (codes "inputrecord 2" ∷ codes "device a" ∷ codes "udevice b" ∷ codes "device c" ∷ codes "udevice d" ∷ codes "device e" ∷ codes "udevice f" ∷ codes "device g" ∷ codes "device h" ∷ codes "udevice i" ∷ [])
  pub opening : AreRefusedAt 4 BadCommand (owner_lines ++ codes "do o open" ∷ [])
  pub feedback_of_a_tap : AreRefusedAt 4 BadCommand (requested_lines ++ codes "tap t" ∷ codes "do t feedback 1" ∷ [])
  pub no_count : AreRefusedAt 4 BadWord (owner_lines ++ codes "do o feedback 0" ∷ [])

-- What is right although it looks wrong.
pub record AcceptsLines : Type 0 where
  pub comments : AreRecord (codes "  # first" ∷ [] ∷ header_lines ++ (9 ∷ codes "#" ++ 0 ∷ 255 ∷ []) ∷ codes "  " ∷ codes "device d" ∷ [])
  pub devices : AreRecord (header_lines ++ codes "device a" ∷ codes "device b" ∷ codes "device c" ∷ codes "device d" ∷ codes "device e" ∷ codes "device f" ∷ codes "device g" ∷ codes "device h" ∷ [])
  pub again : AreRecord (actor_lines ++ codes "device e" ∷ codes "hint 16" ∷ codes "source r" ∷ [])
  pub name_spaces : AreRecord (device_lines ++ codes "source d" ∷ codes "device s" ∷ [])
  pub long_name : AreRecord (header_lines ++ codes "device abcdefghijklmnopqrstuvwxyz01_-23" ∷ [])
  pub supported_twice : AreRecord (device_lines ++ codes "type EV_SYN" ∷ codes "type 0" ∷ codes "cap 1 KEY_A" ∷ codes "cap EV_KEY 30" ∷ codes "cap EV_REP 0" ∷ [])
  pub bounds : AreRecord (device_lines ++ codes "hint 0x200" ∷ codes "log 8388608" ∷ codes "clock boottime 9000000000000000" ∷ codes "slots 64" ∷ codes "axis 0x3f -1 -2 -3 1073741824 -4 -5" ∷ [])
  pub slots_of_version_2 : AreRecord (later_lines ++ codes "slots 256" ∷ [])
  pub filters_of_each : AreRecord (later_lines ++ (replicate 8 (codes "filter norepeat") ++ codes "device e" ∷ replicate 8 (codes "filter eat EV_REP 1")))
  pub joystick_of_each : AreRecord (joy_lines ++ codes "source s" ∷ codes "device j" ∷ codes "joy d" ∷ [])
  pub owner_of_each : AreRecord (owner_lines ++ codes "tap t" ∷ codes "udevice v" ∷ codes "source s" ∷ codes "owner u" ∷ [])
  pub moment : AreRecord (actor_lines ++ codes "do s tick 9000000000000000" ∷ [])
  pub streams : AreRecord (device_lines ++ codes "source s" ∷ replicate 16 (codes "do s stream f"))

-- one key, one source and one tap
abbrev pub stroke_lines : List (List ℕ)
stroke_lines =
    codes "inputrecord 1"
    ∷ codes "device kbd"
    ∷ codes "cap EV_KEY KEY_A"
    ∷ codes "source s"
    ∷ codes "tap t"
    ∷ codes "do t open"
    ∷ codes "do s event 1000 EV_KEY KEY_A 1"
    ∷ codes "do s event 1000 EV_SYN SYN_REPORT 0"
    ∷ codes "do t read 16"
    ∷ []

-- the same in other words, with blanks, comments and carriage returns, and without a last line feed
abbrev pub loose_stroke : List ℕ
loose_stroke =
    text_of_lines (
    codes "# one key" ∷ (codes " inputrecord" ++ 9 ∷ codes "1" ++ 13 ∷ []) ∷ codes "device  kbd" ∷ [] ∷ codes "cap 1 0x1e" ∷ codes "source s "
    ∷ codes "tap t" ∷ codes "do t open" ∷ codes "do s event 0x3e8 1 30 0x1" ∷ codes "do s event 001000 0 0 -0" ∷ []
    ) ++ codes "do t read 0016" ++ 13 ∷ []

-- these lines are a record of this version, these devices and actors, who do this; each stream is empty
abbrev pub AreDone : List (List ℕ) → ℕ → List DeviceText → List ActorText → List (ℕ × command.Command) → Type 0
AreDone lines version devices actors actions =
    meaning (text_of_lines lines)
    ≡ Ok (record {
      version = version;
      devices = devices;
      actors = actors;
      lines = map (λ done. action done.0 done.1) actions;
      streams = replicate (sum_by (λ done. streams_in done.1) actions) [];
    })

-- What whole records mean.
pub record MeansRecords : Type 0 where
  pub header : meaning (codes "inputrecord 1") ≡ Ok (record { version = 1; devices = []; actors = []; lines = []; streams = [] })
  pub later_header : meaning (codes "inputrecord 2") ≡ Ok (record { version = 2; devices = []; actors = []; lines = []; streams = [] })
  pub device : AreDone device_lines 1 (described (codes "d") syn_alone ∷ []) [] []
  pub filters : AreDone
      (later_lines ++ codes "filter chord KEY_A 0x30" ∷ codes "filter norepeat" ∷ codes "filter bounce 30 001000" ∷ codes "filter norepeat" ∷ codes "filter eat 2 REL_WHEEL" ∷ [])
      2 (described (codes "d") (record syn_alone { filters = Chord 30 48 ∷ Norepeat ∷ Bounce 30 1000 ∷ Norepeat ∷ Eat 2 8 ∷ [] }) ∷ []) [] []
  pub one_key : meaning (text_of_lines stroke_lines) ≡ Ok keyboard
  pub loose : meaning loose_stroke ≡ Ok keyboard

-- the actions of three actors
abbrev pub AreActions : List (List ℕ) → List (ℕ × command.Command) → Type 0
AreActions lines actions =
    AreDone (actor_lines ++ lines) 1 (described (codes "d") syn_alone ∷ [])
    (actor roles.Source (codes "s") 0 ∷ actor roles.Client (codes "c") 0 ∷ actor roles.Tap (codes "t") 0 ∷ []) actions

-- What actions mean, each command once.
pub record MeansActions : Type 0 where
  pub source : AreActions
      (codes "do s event 1 EV_REL REL_X -1" ∷ codes "do s tick 2" ∷ codes "do s stream a/b.bin" ∷ codes "do s inhibit 0x3" ∷ codes "do s uninhibit" ∷ codes "do s stream -" ∷ [])
      ((0, commands.Event 1 2 0 (negsuc 0)) ∷ (0, commands.Tick 2) ∷ (0, commands.Stream (codes "a/b.bin") 0) ∷ (0, commands.Inhibit 3) ∷ (0, commands.Uninhibit) ∷ (0, commands.Stream (codes "-") 1) ∷ [])
  pub client : AreActions
      (codes "do c open" ∷ codes "do c next 4294967295" ∷ codes "do c skip 0" ∷ codes "do c follow" ∷ codes "do c force" ∷ codes "do c clock boottime 7" ∷ [])
      ((1, commands.Open) ∷ (1, commands.Next 4294967295) ∷ (1, commands.Skip 0) ∷ (1, commands.Follow) ∷ (1, commands.Force) ∷ (1, commands.Clock Boottime 7) ∷ [])
  pub reading : AreActions
      (codes "do t grab" ∷ codes "do t ungrab" ∷ codes "do c mask 1 11 0xffffffffffffffff" ∷ codes "do t clock monotonic 1" ∷ codes "do c write 5 EV_LED LED_CAPSL 1" ∷ codes "do t setaxis ABS_X 10 -1 200 8 0 0x2" ∷ codes "do c setaxis 40 0 0 0 -1 0 0" ∷ codes "do t revoke" ∷ codes "do c close" ∷ [])
      ((2, commands.Grab) ∷ (2, commands.Ungrab) ∷ (1, commands.Mask 1 11 18446744073709551615) ∷ (2, commands.Clock Monotonic 1) ∷ (1, commands.Write 5 17 1 (pos 1)) ∷ (2, commands.SetAxis 0 (record no_info { value = pos 10; minimum = negsuc 0; maximum = pos 200; fuzz = pos 8; resolution = pos 2 })) ∷ (1, commands.SetAxis 40 (record no_info { fuzz = negsuc 0 })) ∷ (2, commands.Revoke) ∷ (1, commands.Close) ∷ [])
  pub tap : AreActions
      (codes "do t read 4096" ∷ codes "do t discard" ∷ codes "do t keys" ∷ codes "do t switches" ∷ codes "do t leds" ∷ codes "do t sounds" ∷ codes "do t syncslots" ∷ codes "do t axis ABS_X" ∷ codes "do t slots 0x35" ∷ [])
      ((2, commands.Read 4096) ∷ (2, commands.Discard) ∷ (2, commands.Keys) ∷ (2, commands.Switches) ∷ (2, commands.Leds) ∷ (2, commands.Sounds) ∷ (2, commands.SyncSlots) ∷ (2, commands.Axis 0) ∷ (2, commands.Slots 53) ∷ [])
  pub joystick : AreDone
      (joy_lines ++ codes "tap t" ∷ codes "do j open" ∷ codes "do j read 4294967295" ∷ codes "do j read 0x1001" ∷ codes "do t read 4096" ∷ codes "do j read 0" ∷ codes "do j close" ∷ [])
      2 (described (codes "d") syn_alone ∷ []) (actor roles.Joy (codes "j") 0 ∷ actor roles.Tap (codes "t") 0 ∷ [])
      ((0, commands.Open) ∷ (0, commands.Read 4294967295) ∷ (0, commands.Read 4097) ∷ (1, commands.Read 4096) ∷ (0, commands.Read 0) ∷ (0, commands.Close) ∷ [])
  pub owner : AreDone
      (later_lines ++ codes "udevice u" ∷ codes "owner o" ∷ codes "do o feedback 4096" ∷ codes "do o feedback 0x1" ∷ [])
      2 (described (codes "d") syn_alone ∷ record (described (codes "u") syn_alone) { requested = true } ∷ []) (actor roles.Owner (codes "o") 1 ∷ [])
      ((0, commands.Feedback 4096) ∷ (0, commands.Feedback 1) ∷ [])
  pub of_version_2 : AreDone
      (later_lines ++ codes "source s" ∷ codes "do s stream16 a" ∷ codes "do s stream b" ∷ codes "do s stream16 b" ∷ [])
      2 (described (codes "d") syn_alone ∷ []) (actor roles.Source (codes "s") 0 ∷ [])
      ((0, commands.Stream16 (codes "a") 0) ∷ (0, commands.Stream (codes "b") 1) ∷ (0, commands.Stream16 (codes "b") 2) ∷ [])

-- the key A goes down
abbrev pub press : Option (List Stamped)
press = Some (record { event = press_event; now = 1500000 } ∷ [])

-- What the bytes of a stream's file mean, by the line that names it.
pub record MeansStreams : Type 0 where
  pub wide : stamps_of_command (commands.Stream (codes "f") 0) press_record ≡ press
  pub narrow : stamps_of_command (commands.Stream16 (codes "f") 0) press_record16 ≡ press
  pub none : stamps_of_command (commands.Stream16 (codes "f") 0) [] ≡ Some []
  pub wide_as_narrow : stamps_of_command (commands.Stream16 (codes "f") 0) press_record ≡ None
  pub narrow_as_wide : stamps_of_command (commands.Stream (codes "f") 0) press_record16 ≡ None
  -- 48 bytes are two records of 24 bytes, and three of 16
  pub two_as_three : stamps_of_command (commands.Stream16 (codes "f") 0) (press_record ++ press_record) ≡ Some
      (record { event = record { kind = 41248; code = 7; value = pos 0 }; now = 1000000 }
      ∷ record { event = record { kind = 1; code = 0; value = pos 0 }; now = 1966081000001 }
      ∷ record { event = press_event; now = 500000000000 }
      ∷ [])
  pub bytes_left : stamps_of_command (commands.Stream16 (codes "f") 0) (press_record16 ++ 0 ∷ []) ≡ None

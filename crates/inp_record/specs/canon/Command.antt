-- The words of a command (docs/FORMATS.md, "Action lines").
use Rattle.std.specs.Prelude.{ℕ, ℤ, [], ◌∷◌, codes, decimal}
use Rattle.std.specs.Fmt.{signed_decimal}
use Rattle.inp_model.specs.declared.event.TheConstants.{EV_ABS}
use Rattle.inp_actors.specs.declared.command.Command as command
use Rattle.inp_actors.specs.declared.command.Command.TheVariants.{Event, Tick, Inhibit, Uninhibit, Stream, Stream16, Open, Close, Grab, Ungrab, Revoke, Mask, Clock, Write, SetAxis, Read, Discard, Keys, Switches, Leds, Sounds, SyncSlots, Axis, Slots, Next, Skip, Follow, Force, Feedback}
use Rattle.inp_texts.specs.Texts.{kind_text, code_text, bits_text, clock_text}
use Rattle.inp_record.specs.canon.Words.{Words}
use Rattle.inp_record.specs.canon.Device.{info_words}

-- MOMENT KIND CODE VALUE
abbrev pub event_words : ℕ → ℕ → ℕ → ℤ → Words
event_words moment kind code value =
    decimal moment ∷ kind_text kind ∷ code_text kind code ∷ signed_decimal value ∷ []

-- the command and its words
unfoldable pub command_words : command.Command → Words
command_words (Event moment kind code value) = codes "event" ∷ event_words moment kind code value
command_words (Tick moment) = codes "tick" ∷ decimal moment ∷ []
command_words (Inhibit moment) = codes "inhibit" ∷ decimal moment ∷ []
command_words Uninhibit = codes "uninhibit" ∷ []
command_words (Stream file index) = codes "stream" ∷ file ∷ []
command_words (Stream16 file index) = codes "stream16" ∷ file ∷ []
command_words Open = codes "open" ∷ []
command_words Close = codes "close" ∷ []
command_words Grab = codes "grab" ∷ []
command_words Ungrab = codes "ungrab" ∷ []
command_words Revoke = codes "revoke" ∷ []
command_words (Mask kind word bits) = codes "mask" ∷ kind_text kind ∷ decimal word ∷ bits_text bits ∷ []
command_words (Clock clock moment) = codes "clock" ∷ clock_text clock ∷ decimal moment ∷ []
command_words (Write moment kind code value) = codes "write" ∷ event_words moment kind code value
command_words (SetAxis code info) = codes "setaxis" ∷ code_text EV_ABS code ∷ info_words info
command_words (Read count) = codes "read" ∷ decimal count ∷ []
command_words Discard = codes "discard" ∷ []
command_words Keys = codes "keys" ∷ []
command_words Switches = codes "switches" ∷ []
command_words Leds = codes "leds" ∷ []
command_words Sounds = codes "sounds" ∷ []
command_words SyncSlots = codes "syncslots" ∷ []
command_words (Axis code) = codes "axis" ∷ code_text EV_ABS code ∷ []
command_words (Slots code) = codes "slots" ∷ code_text EV_ABS code ∷ []
command_words (Next count) = codes "next" ∷ decimal count ∷ []
command_words (Skip count) = codes "skip" ∷ decimal count ∷ []
command_words Follow = codes "follow" ∷ []
command_words Force = codes "force" ∷ []
command_words (Feedback count) = codes "feedback" ∷ decimal count ∷ []

-- How codes, events, axes, refusals and stops are written (docs/FORMATS.md, "The words of a report").
use Rattle.std.specs.Prelude.{ℕ, Bool, List, [], ◌∷◌, ◌++◌, codes, decimal, flat_map}
use Rattle.std.specs.Fmt.{signed_decimal}
use Rattle.inp_model.specs.declared.axis_info.AxisInfo.{AxisInfo}
use Rattle.inp_model.specs.declared.event.Event.{Event}
use Rattle.inp_model.specs.declared.reply.Refusal.{Refusal}
use Rattle.inp_model.specs.declared.reply.Refusal.TheVariants.{BadClient, NoDevice, BadKind, BadCode, BadInfo, Busy, NotGrabber, TooMany, LogFull, NoMemory}
use Rattle.inp_bits.specs.Bits.{true_indices}
use Rattle.inp_texts.specs.Texts.{kind_text, code_text}
use Rattle.inp_script.specs.declared.stop.Stop.{Stop}
use Rattle.inp_script.specs.declared.stop.Stop.TheVariants.{Finished, Idle, Full}

-- each line ends with it
abbrev pub LINE_FEED : List ℕ
LINE_FEED = 10 ∷ []

-- what stands for each item, after a space
abbrev pub spaced : {X : Type 0} → (X → List ℕ) → List X → List ℕ
spaced text_of items = flat_map (λ item. codes " " ++ text_of item) items

-- the codes that are on, ascending, each after a space
unfoldable pub flags_text : ℕ → List Bool → List ℕ
flags_text kind flags = spaced (code_text kind) (true_indices flags)

-- KIND CODE, and a space after each
unfoldable pub event_label : ℕ → ℕ → List ℕ
event_label kind code = kind_text kind ++ (codes " " ++ (code_text kind code ++ codes " "))

-- KIND CODE VALUE
unfoldable pub event_text : Event → List ℕ
event_text e = kind_text e.kind ++ (codes " " ++ (code_text e.kind e.code ++ (codes " " ++ signed_decimal e.value)))

-- VALUE MINIMUM MAXIMUM FUZZ FLAT RESOLUTION, each after a space
unfoldable pub axis_numbers : AxisInfo → List ℕ
axis_numbers i = spaced signed_decimal (i.value ∷ i.minimum ∷ i.maximum ∷ i.fuzz ∷ i.flat ∷ i.resolution ∷ [])

unfoldable pub refusal_text : Refusal → List ℕ
refusal_text BadClient = codes "bad-client"
refusal_text NoDevice = codes "no-device"
refusal_text BadKind = codes "bad-kind"
refusal_text BadCode = codes "bad-code"
refusal_text BadInfo = codes "bad-info"
refusal_text Busy = codes "busy"
refusal_text NotGrabber = codes "not-grabber"
refusal_text TooMany = codes "too-many"
refusal_text LogFull = codes "log-full"
refusal_text NoMemory = codes "no-memory"

unfoldable pub stop_text : Stop → List ℕ
stop_text Finished = codes "finished"
stop_text (Idle turns at) = codes "idle " ++ (decimal turns ++ (codes " " ++ decimal at))
stop_text (Full at) = codes "full " ++ decimal at

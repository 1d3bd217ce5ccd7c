-- The canonical text by the meanings of its lines: what `print` writes is read again (docs/FORMATS.md, "The text of a
-- record").
use Rattle.std.specs.Prelude.{◌≡◌, ℕ, ◌+◌, if◌then◌else◌, nat_eq, List, [], ◌∷◌, ◌++◌, map, flat_map, codes, decimal, Ok}
use Rattle.std.specs.List.{enumerate_from, range_with_len}
use Rattle.inp_model.specs.declared.event.TheConstants.{EV_ABS, EV_MAX, KEY_MAX, ABS_MAX}
use Rattle.inp_model.specs.declared.clock.Clock.TheVariants as clock
use Rattle.inp_model.specs.Description.{Description, has_kind, supports, info}
use Rattle.inp_actors.specs.declared.actor_text.ActorText.{ActorText}
use Rattle.inp_actors.specs.declared.device_text.DeviceText.{DeviceText}
use Rattle.inp_actors.specs.declared.line.Line as line
use Rattle.inp_actors.specs.Record.{RecordView}
use Rattle.inp_texts.specs.Texts.{kind_text, code_text, clock_text, role_text}
use Rattle.inp_record.specs.canon.Words.{Words}
use Rattle.inp_record.specs.canon.Device.{axis_words, filter_words, coded_kinds}
use Rattle.inp_record.specs.canon.Text.{device_word, action_words, record_text}
use Rattle.inp_record.specs.declared.item.Item.{Item}
use Rattle.inp_record.specs.declared.item.Item.TheVariants.{Header, Device, Hint, Log, Realtime, Boottime, Slots, Kind, Code, Axis, Filter, Actor, Action}
use Rattle.inp_record.specs.Meaning.{meaning}

-- the words by which a line says this, where the actors are these
abbrev pub item_words : List ActorText → Item → Words
item_words actors (Header version) = codes "inputrecord" ∷ decimal version ∷ []
item_words actors (Device requested name) = device_word requested ∷ name ∷ []
item_words actors (Hint count) = codes "hint" ∷ decimal count ∷ []
item_words actors (Log count) = codes "log" ∷ decimal count ∷ []
item_words actors (Realtime offset) = codes "clock" ∷ clock_text clock.Realtime ∷ decimal offset ∷ []
item_words actors (Boottime offset) = codes "clock" ∷ clock_text clock.Boottime ∷ decimal offset ∷ []
item_words actors (Slots count) = codes "slots" ∷ decimal count ∷ []
item_words actors (Kind kind) = codes "type" ∷ kind_text kind ∷ []
item_words actors (Code kind code) = codes "cap" ∷ kind_text kind ∷ code_text kind code ∷ []
item_words actors (Axis code i) = axis_words code i
item_words actors (Filter filter) = filter_words filter
item_words actors (Actor role name) = role_text role ∷ name ∷ []
item_words actors (Action actor command) = action_words actors (record { actor = actor; command = command })

-- what the lines of a description say
abbrev pub number_items : Description → List Item
number_items d = Hint d.hint ∷ Log d.log_limit ∷ Realtime d.realtime ∷ Boottime d.boottime ∷ []

abbrev pub slots_items : Description → List Item
slots_items d = if nat_eq d.slots 0 then [] else Slots d.slots ∷ []

abbrev pub kind_items : Description → ℕ → List Item
kind_items d kind = if has_kind d kind then Kind kind ∷ [] else []

abbrev pub code_items : Description → ℕ → ℕ → List Item
code_items d kind code = if supports d kind code then Code kind code ∷ [] else []

abbrev pub codes_items : Description → ℕ → List Item
codes_items d kind = flat_map (code_items d kind) (range_with_len 0 (KEY_MAX + 1))

abbrev pub axis_items : Description → ℕ → List Item
axis_items d code = if supports d EV_ABS code then Axis code (info d code) ∷ [] else []

-- all but the filters
unfoldable pub plain_items : Description → List Item
plain_items d =
    number_items d
    ++ (slots_items d
    ++ (flat_map (kind_items d) (range_with_len 1 EV_MAX)
    ++ (flat_map (codes_items d) coded_kinds
    ++ flat_map (axis_items d) (range_with_len 0 (ABS_MAX + 1)))))

abbrev pub filter_items : Description → List Item
filter_items d = map (λ filter. Filter filter) d.filters

unfoldable pub description_items : Description → List Item
description_items d = plain_items d ++ filter_items d

-- the actors of the device with this number
abbrev pub actor_items : ℕ → ActorText → List Item
actor_items device actor = if nat_eq actor.device device then Actor actor.role actor.name ∷ [] else []

unfoldable pub device_items : List ActorText → ℕ × DeviceText → List Item
device_items actors d = Device d.1.requested d.1.name ∷ (description_items d.1.caps ++ flat_map (actor_items d.0) actors)

abbrev pub action_item_of : line.Line → Item
action_item_of l = Action l.actor l.command

-- what the lines of the canonical text say, in order
unfoldable pub items_of : RecordView → List Item
items_of r =
    Header r.version ∷ (flat_map (device_items r.actors) (enumerate_from 0 r.devices) ++ map action_item_of r.lines)

-- The canonical text of each record that some bytes are is that record again.
abbrev pub RoundTrips : Type 0
RoundTrips = (bytes : List ℕ) (r : RecordView) → meaning bytes ≡ Ok r → meaning (record_text r) ≡ Ok r

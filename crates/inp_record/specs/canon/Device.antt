-- The lines of a device's description (docs/FORMATS.md, "The text of a record").
use Rattle.std.specs.Prelude.{ℕ, ◌+◌, if◌then◌else◌, nat_eq, List, [], ◌∷◌, ◌++◌, codes, decimal, map, flat_map, Option, Some, None}
use Rattle.std.specs.Fmt.{signed_decimal}
use Rattle.std.specs.List.{range_with_len}
use Rattle.inp_model.specs.declared.event.TheConstants.{EV_KEY, EV_REL, EV_ABS, EV_MSC, EV_SW, EV_LED, EV_SND, EV_MAX, KEY_MAX, ABS_MAX}
use Rattle.inp_model.specs.declared.axis_info.AxisInfo.{AxisInfo}
use Rattle.inp_model.specs.declared.filter.Filter.{Filter}
use Rattle.inp_model.specs.declared.filter.Filter.TheVariants.{Eat, Norepeat, Chord, Bounce}
use Rattle.inp_model.specs.Description.{Description, has_kind, supports, info, offset}
use Rattle.inp_model.specs.declared.clock.Clock.{Clock}
use Rattle.inp_model.specs.declared.clock.Clock.TheVariants.{Realtime, Boottime}
use Rattle.inp_texts.specs.Texts.{kind_text, code_text, clock_text}
use Rattle.inp_record.specs.canon.Words.{Words}

-- a clock's offset
abbrev pub clock_words : Description → Clock → Words
clock_words d clock = codes "clock" ∷ clock_text clock ∷ decimal (offset d clock) ∷ []

-- the numbers that each description has
unfoldable pub number_lines : Description → List Words
number_lines d =
    (codes "hint" ∷ decimal d.hint ∷ [])
    ∷ (codes "log" ∷ decimal d.log_limit ∷ [])
    ∷ clock_words d Realtime
    ∷ clock_words d Boottime
    ∷ []

-- the number of slots, where there are slots
abbrev pub slots_lines : Description → List Words
slots_lines d = if nat_eq d.slots 0 then [] else (codes "slots" ∷ decimal d.slots ∷ []) ∷ []

-- a type, if it is supported
abbrev pub kind_lines : Description → ℕ → List Words
kind_lines d kind = if has_kind d kind then (codes "type" ∷ kind_text kind ∷ []) ∷ [] else []

-- all types but EV_SYN, ascending
unfoldable pub kinds_lines : Description → List Words
kinds_lines d = flat_map (kind_lines d) (range_with_len 1 EV_MAX)

-- a code of a type, if it is supported
abbrev pub code_lines : Description → ℕ → ℕ → List Words
code_lines d kind code =
    if supports d kind code then (codes "cap" ∷ kind_text kind ∷ code_text kind code ∷ []) ∷ [] else []

-- all codes of a type, ascending
unfoldable pub codes_lines : Description → ℕ → List Words
codes_lines d kind = flat_map (code_lines d kind) (range_with_len 0 (KEY_MAX + 1))

-- the types whose codes are lists of their own, ascending; axes come with their data
abbrev pub coded_kinds : List ℕ
coded_kinds = EV_KEY ∷ EV_REL ∷ EV_MSC ∷ EV_SW ∷ EV_LED ∷ EV_SND ∷ []

-- the codes of all these types
unfoldable pub caps_lines : Description → List Words
caps_lines d = flat_map (codes_lines d) coded_kinds

-- FUZZ FLAT RESOLUTION
unfoldable pub fuzz_words : AxisInfo → Words
fuzz_words i = signed_decimal i.fuzz ∷ signed_decimal i.flat ∷ signed_decimal i.resolution ∷ []

-- VALUE MINIMUM MAXIMUM FUZZ FLAT RESOLUTION
unfoldable pub info_words : AxisInfo → Words
info_words i = signed_decimal i.value ∷ signed_decimal i.minimum ∷ signed_decimal i.maximum ∷ fuzz_words i

-- an axis and its data
abbrev pub axis_words : ℕ → AxisInfo → Words
axis_words code i = codes "axis" ∷ code_text EV_ABS code ∷ info_words i

-- an axis, if it is supported
abbrev pub axis_lines : Description → ℕ → List Words
axis_lines d code = if supports d EV_ABS code then axis_words code (info d code) ∷ [] else []

-- all axes, ascending
unfoldable pub axes_lines : Description → List Words
axes_lines d = flat_map (axis_lines d) (range_with_len 0 (ABS_MAX + 1))

-- a filter
unfoldable pub filter_words : Filter → Words
filter_words (Eat kind code) = codes "filter" ∷ codes "eat" ∷ kind_text kind ∷ code_text kind code ∷ []
filter_words Norepeat = codes "filter" ∷ codes "norepeat" ∷ []
filter_words (Chord first second) =
    codes "filter" ∷ codes "chord" ∷ code_text EV_KEY first ∷ code_text EV_KEY second ∷ []
filter_words (Bounce code micros) =
    codes "filter" ∷ codes "bounce" ∷ code_text EV_KEY code ∷ decimal micros ∷ []

-- a filter, if there is one
abbrev pub filter_lines : Option Filter → List Words
filter_lines None = []
filter_lines (Some filter) = filter_words filter ∷ []

-- all filters, in order
unfoldable pub filters_lines : Description → List Words
filters_lines d = map filter_words d.filters

-- all that a description says but its filters
unfoldable pub plain_lines : Description → List Words
plain_lines d =
    number_lines d ++ (slots_lines d ++ (kinds_lines d ++ (caps_lines d ++ axes_lines d)))

-- all that a description says
unfoldable pub description_lines : Description → List Words
description_lines d = plain_lines d ++ filters_lines d

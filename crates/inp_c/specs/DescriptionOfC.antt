-- The description that a struct of C is: that which a builder gathers by these calls, one after another.
use Rattle.std.specs.Prelude.{ℕ, ◌*◌, ◌/◌, ◌%◌, ◌==◌, Bool, ◌&&◌, if◌then◌else◌, nat_eq, nat_le, nat_lt, List, [], ◌∷◌, ◌++◌, length, map, take, slice_index, slice_index_or, Option, Some, None, Result, Ok, Err}
use Rattle.std.specs.Int.{bit_at}
use Rattle.std.specs.List.{filter, range_with_len}
use Rattle.inp_model.specs.declared.event.TheConstants.{EV_KEY, EV_REL, EV_ABS, EV_MSC, EV_SW, EV_LED, EV_SND, ABS_MAX}
use Rattle.inp_model.specs.declared.limits.TheConstants.{SLOTS_MAX, HINT_MIN, HINT_MAX, LOG_MAX, FILTERS_MAX, BOUNCE_MAX}
use Rattle.inp_model.specs.declared.stamped.TheConstants.{MOMENT_MAX}
use Rattle.inp_model.specs.declared.axis_info.AxisInfo.{AxisInfo}
use Rattle.inp_model.specs.declared.filter.Filter.{Filter}
use Rattle.inp_model.specs.declared.filter.Filter.TheVariants.{Eat, Norepeat, Chord, Bounce}
use Rattle.inp_model.specs.Description.{Description, is_kind, is_bad_axis, no_info, syn_alone}
use Rattle.inp_caps.specs.declared.caps_refused.CapsRefused.{CapsRefused}
use Rattle.inp_caps.specs.declared.caps_refused.CapsRefused.TheVariants.{BadCode, BadAxis, BadSlots, BadHint, BadLog, BadOffset, BadFilter}
use Rattle.inp_caps.specs.Builder.{is_code, with_kind, with_code, with_axis, with_filter, filter_answer, built}
use Rattle.inp_c.specs.declared.c_filter.CFilter.{CFilter}
use Rattle.inp_c.specs.declared.c_description.CDescription.{CDescription}

-- a description, or why there is none
abbrev pub Described : Type 0
Described = Result Description CapsRefused

-- What each call of a builder makes of the description that was gathered, or why it is refused.

abbrev pub kind_call : ℕ → Description → Described
kind_call kind d = if is_kind kind then Ok (with_kind d kind) else Err BadCode

abbrev pub code_call : ℕ → ℕ → Description → Described
code_call kind code d = if is_code kind code then Ok (with_code (with_kind d kind) kind code) else Err BadCode

abbrev pub axis_call : List AxisInfo → ℕ → Description → Described
axis_call infos code d =
    if nat_lt ABS_MAX code then Err BadCode
    else if is_bad_axis code (slice_index_or infos code no_info) then Err BadAxis
    else Ok (with_axis (with_kind d EV_ABS) code (slice_index_or infos code no_info))

abbrev pub slots_call : ℕ → Description → Described
slots_call count d =
    if nat_le 1 count && nat_le count SLOTS_MAX then Ok (record d { slots = count }) else Err BadSlots

abbrev pub hint_call : ℕ → Description → Described
hint_call count d =
    if nat_le HINT_MIN count && nat_le count HINT_MAX then Ok (record d { hint = count }) else Err BadHint

abbrev pub log_call : ℕ → Description → Described
log_call count d =
    if nat_le 1 count && nat_le count LOG_MAX then Ok (record d { log_limit = count }) else Err BadLog

abbrev pub offsets_call : ℕ → ℕ → Description → Described
offsets_call realtime boottime d =
    if nat_le realtime MOMENT_MAX && nat_le boottime MOMENT_MAX
    then Ok (record d { realtime = realtime; boottime = boottime })
    else Err BadOffset

-- the description that was gathered, unless the call was refused
abbrev pub gathered : Result (Unit {0}) CapsRefused → Description → Described
gathered (Ok done) d = Ok d
gathered (Err why) d = Err why

-- the filter of this number, of which there are four, with what it takes, if there is one with so many microseconds
abbrev pub filter_of_c : CFilter → Option Filter
filter_of_c c =
    if nat_eq c.filter 0 then Some (Eat c.kind c.code)
    else if nat_eq c.filter 1 then Some Norepeat
    else if nat_eq c.filter 2 then Some (Chord c.code c.second)
    else if nat_eq c.filter 3 && (nat_le 1 c.micros && nat_le c.micros BOUNCE_MAX)
    then Some (Bounce c.code c.micros)
    else None

-- a filter that there is
abbrev pub some_filter_call : Option Filter → Description → Described
some_filter_call None d = Err BadFilter
some_filter_call (Some given) d = gathered (filter_answer d given) (with_filter d given)

abbrev pub filter_call : CFilter → Description → Described
filter_call c d = some_filter_call (filter_of_c c) d

-- What a struct says.

-- the bit of a code is set: bit k of word w is the code 64 * w + k
abbrev pub has_bit : List ℕ → ℕ → Bool
has_bit words code = bit_at (slice_index words (code / 64)) (code % 64) == 1

-- the codes whose bits are set, ascending
unfoldable pub set_codes : List ℕ → List ℕ
set_codes words = filter (has_bit words) (range_with_len 0 (64 * length words))

-- the call with a number, where it is not 0
abbrev pub call_if_given : (ℕ → Description → Described) → ℕ → List (Description → Described)
call_if_given call count = if nat_eq count 0 then [] else call count ∷ []

-- the calls with the numbers of slots, of a frame's events and of steps, and with the offsets
abbrev pub number_calls : CDescription → List (Description → Described)
number_calls c =
    call_if_given slots_call c.slots
    ++ call_if_given hint_call c.hint
    ++ call_if_given log_call c.log
    ++ offsets_call c.realtime c.boottime ∷ []

-- the calls with so many of these filters; a ninth one is refused before them
abbrev pub filter_calls : List CFilter → ℕ → List (Description → Described)
filter_calls filters count =
    if nat_lt FILTERS_MAX count then (λ d. Err BadFilter) ∷ [] else map filter_call (take count filters)

-- the calls that say what the struct says, in order
abbrev pub calls_of_c : CDescription → List (Description → Described)
calls_of_c c =
    map kind_call (set_codes (c.types ∷ []))
    ++ map (code_call EV_KEY) (set_codes c.keys)
    ++ map (code_call EV_REL) (set_codes (c.relatives ∷ []))
    ++ map (code_call EV_MSC) (set_codes (c.miscs ∷ []))
    ++ map (code_call EV_SW) (set_codes (c.switches ∷ []))
    ++ map (code_call EV_LED) (set_codes (c.leds ∷ []))
    ++ map (code_call EV_SND) (set_codes (c.sounds ∷ []))
    ++ map (axis_call c.infos) (set_codes (c.axes ∷ []))
    ++ number_calls c
    ++ filter_calls c.filters c.filter_count

-- the next one, unless this is refused
abbrev pub described_then : Described → (Description → Described) → Described
described_then (Ok d) next = next d
described_then (Err why) next = Err why

-- the description after all of these calls, or why the first that is refused is
abbrev pub with_calls : Description → List (Description → Described) → Described
with_calls d [] = Ok d
with_calls d (call ∷ calls) = described_then (call d) (λ more. with_calls more calls)

-- the description that a struct of C is, or the first cause for which it is refused
unfoldable pub description_of_c : CDescription → Described
description_of_c c = described_then (with_calls syn_alone (calls_of_c c)) (λ d. Ok (built d))

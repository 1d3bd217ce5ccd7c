-- What a device is: which types and codes it supports, its axes, and its numbers (docs/RULES.md, "What a device has").
use Rattle.std.specs.Prelude.{◌≡◌, ℕ, zero, suc, ◌*◌, ◌<◌, ◌≤◌, pos, int_lt, Bool, true, false, ◌&&◌, ◌||◌, not, if◌then◌else◌, nat_eq, nat_le, nat_lt, List, [], ◌∷◌, ◌++◌, length, replicate, slice_index_or}
use Rattle.std.specs.List.{list_all}
use Rattle.std.specs.Ordering.{int_eq}
use Rattle.inp_model.specs.declared.event.TheConstants.{EV_SYN, EV_KEY, EV_REL, EV_ABS, EV_MSC, EV_SW, EV_LED, EV_SND, EV_REP, EV_MAX, SYN_DROPPED, KEY_MAX, REL_MAX, ABS_MAX, MSC_MAX, SW_MAX, LED_MAX, SND_MAX, REP_MAX}
use Rattle.inp_model.specs.declared.multi_touch.TheConstants.{ABS_MT_SLOT, ABS_MT_TOUCH_MAJOR, ABS_MT_TRACKING_ID, ABS_MT_TOOL_Y}
use Rattle.inp_model.specs.declared.limits.TheConstants.{SLOTS_MAX, HINT_MIN, HINT_MAX, LOG_MAX, FUZZ_MAX, FILTERS_MAX, BOUNCE_MAX}
use Rattle.inp_model.specs.declared.stamped.TheConstants.{MOMENT_MAX}
use Rattle.inp_model.specs.declared.axis_info.AxisInfo.{AxisInfo}
use Rattle.inp_model.specs.declared.filter.Filter.{Filter}
use Rattle.inp_model.specs.declared.filter.Filter.TheVariants.{Eat, Norepeat, Chord, Bounce}
use Rattle.inp_model.specs.declared.clock.Clock.{Clock}
use Rattle.inp_model.specs.declared.clock.Clock.TheVariants.{Realtime, Monotonic, Boottime}

pub record Description : Type 0 where
  -- at k, whether the type k is supported
  pub kinds : List Bool
  -- at k, whether the code k of a type is supported
  pub keys : List Bool
  pub relatives : List Bool
  pub axes : List Bool
  pub miscs : List Bool
  pub switches : List Bool
  pub leds : List Bool
  pub sounds : List Bool
  -- at k, the axis k with the value that it has before any event
  pub infos : List AxisInfo
  -- the filters, each of which is given what the one before it left
  pub filters : List Filter
  -- how many multi-touch slots there are, 0 for none
  pub slots : ℕ
  -- how many events a frame may gather before it is cut
  pub hint : ℕ
  -- how many steps a history may have
  pub log_limit : ℕ
  -- how far these clocks are ahead of the monotonic one, in microseconds
  pub realtime : ℕ
  pub boottime : ℕ

-- the type alone
abbrev pub has_kind : Description → ℕ → Bool
has_kind d kind = slice_index_or d.kinds kind false

-- the code alone; all codes of EV_SYN are there, and both of EV_REP
abbrev pub has_code : Description → ℕ → ℕ → Bool
has_code d kind code =
    if nat_eq kind EV_SYN then nat_le code SYN_DROPPED
    else if nat_eq kind EV_KEY then slice_index_or d.keys code false
    else if nat_eq kind EV_REL then slice_index_or d.relatives code false
    else if nat_eq kind EV_ABS then slice_index_or d.axes code false
    else if nat_eq kind EV_MSC then slice_index_or d.miscs code false
    else if nat_eq kind EV_SW then slice_index_or d.switches code false
    else if nat_eq kind EV_LED then slice_index_or d.leds code false
    else if nat_eq kind EV_SND then slice_index_or d.sounds code false
    else if nat_eq kind EV_REP then nat_le code REP_MAX
    else false

-- a code is supported where its type is too
abbrev pub supports : Description → ℕ → ℕ → Bool
supports d kind code = has_kind d kind && has_code d kind code

-- an axis of which nothing was said
abbrev pub no_info : AxisInfo
no_info = record { value = pos 0; minimum = pos 0; maximum = pos 0; fuzz = pos 0; flat = pos 0; resolution = pos 0 }

-- the axis with this code
abbrev pub info : Description → ℕ → AxisInfo
info d code = slice_index_or d.infos code no_info

-- the axes whose values belong to slots, and the one that names a slot (docs/RULES.md, "Multi-touch slots")
abbrev pub is_multi_touch_code : ℕ → Bool
is_multi_touch_code code = nat_le ABS_MT_SLOT code && nat_le code ABS_MT_TOOL_Y

-- the axes whose values belong to slots (docs/RULES.md, "Multi-touch slots")
abbrev pub is_slot_code : ℕ → Bool
is_slot_code code = nat_le ABS_MT_TOUCH_MAJOR code && nat_le code ABS_MT_TOOL_Y

-- The axes that stay as they are described at first: those that no device has, those of slots, and those that this
-- device lacks (docs/RULES.md, "Axes described anew").
abbrev pub is_fixed_axis : Description → ℕ → Bool
is_fixed_axis d code = nat_lt ABS_MAX code || is_multi_touch_code code || not (supports d EV_ABS code)

-- a number, doubled at most so many times, until it is large enough
abbrev pub doubled : ℕ → ℕ → ℕ → ℕ
doubled zero enough n = n
doubled (suc times) enough n = if nat_le enough n then n else doubled times enough (2 * n)

-- the places of a client's ring: the least power of two that is at least 64 and at least eight times the hint
-- (docs/RULES.md, "A client's queue")
abbrev pub ring : Description → ℕ
ring d = doubled 6 (8 * d.hint) 64

-- how far a clock is ahead of the moments of the steps (docs/RULES.md, "Clocks")
abbrev pub offset : Description → Clock → ℕ
offset d Realtime = d.realtime
offset d Monotonic = 0
offset d Boottime = d.boottime

-- Which descriptions there are (docs/RULES.md, "What a device has").

-- The nine types that a device can have.
abbrev pub is_kind : ℕ → Bool
is_kind kind = nat_le kind EV_SW || nat_eq kind EV_LED || nat_eq kind EV_SND || nat_eq kind EV_REP

-- a fuzz out of range
abbrev pub is_bad_fuzz : AxisInfo → Bool
is_bad_fuzz i = int_lt i.fuzz (pos 0) || int_lt FUZZ_MAX i.fuzz

-- The data that no axis has: a fuzz out of range, a value of a multi-touch axis, a fuzz of the slot or of the
-- tracking id.
abbrev pub is_bad_axis : ℕ → AxisInfo → Bool
is_bad_axis code i =
    is_bad_fuzz i
    || (is_multi_touch_code code && not (int_eq i.value (pos 0)))
    || ((nat_eq code ABS_MT_SLOT || nat_eq code ABS_MT_TRACKING_ID) && not (int_eq i.fuzz (pos 0)))

-- the greatest code of a type
abbrev pub greatest_code : ℕ → ℕ
greatest_code kind =
    if nat_eq kind EV_KEY then KEY_MAX
    else if nat_eq kind EV_REL then REL_MAX
    else if nat_eq kind EV_ABS then ABS_MAX
    else if nat_eq kind EV_MSC then MSC_MAX
    else if nat_eq kind EV_SW then SW_MAX
    else if nat_eq kind EV_LED then LED_MAX
    else if nat_eq kind EV_SND then SND_MAX
    else if nat_eq kind EV_REP then REP_MAX
    else SYN_DROPPED

-- a code that a filter may speak of: of a type other than EV_SYN, at most the type's greatest; no key has the code 0
abbrev pub is_filter_code : ℕ → ℕ → Bool
is_filter_code kind code =
    is_kind kind && not (nat_eq kind EV_SYN) && nat_le code (greatest_code kind)
    && not (nat_eq kind EV_KEY && nat_eq code 0)

-- the filters that there are (docs/RULES.md, "Filters")
abbrev pub is_filter : Filter → Bool
is_filter (Eat kind code) = is_filter_code kind code
is_filter Norepeat = true
is_filter (Chord first second) = is_filter_code EV_KEY first && is_filter_code EV_KEY second && not (nat_eq first second)
is_filter (Bounce code micros) = is_filter_code EV_KEY code && nat_le 1 micros && nat_le micros BOUNCE_MAX

-- so many truth values, none of them true past the greatest code
pub record AreCodes (count greatest : ℕ) (codes : List Bool) : Type 0 where
  pub length_is : length codes ≡ count
  pub within : (code : ℕ) → greatest < code → slice_index_or codes code false ≡ false

-- sixty-four axes, none of them with data that no axis has
pub record AreAxes (infos : List AxisInfo) : Type 0 where
  pub length_is : length infos ≡ 64
  pub good : (code : ℕ) → is_bad_axis code (slice_index_or infos code no_info) ≡ false

-- at most eight filters, each of them one that there is
pub record AreFilters (filters : List Filter) : Type 0 where
  pub few : length filters ≤ FILTERS_MAX
  pub good : list_all is_filter filters ≡ true

pub record IsDescription (d : Description) : Type 0 where
  pub kinds : AreCodes 64 EV_MAX d.kinds
  pub known : (kind : ℕ) → is_kind kind ≡ false → has_kind d kind ≡ false
  pub syn : has_kind d EV_SYN ≡ true
  pub keys : AreCodes 768 KEY_MAX d.keys
  pub reserved : slice_index_or d.keys 0 false ≡ false
  pub relatives : AreCodes 64 REL_MAX d.relatives
  pub axes : AreCodes 64 ABS_MAX d.axes
  pub miscs : AreCodes 64 MSC_MAX d.miscs
  pub switches : AreCodes 64 SW_MAX d.switches
  pub leds : AreCodes 64 LED_MAX d.leds
  pub sounds : AreCodes 64 SND_MAX d.sounds
  pub infos : AreAxes d.infos
  pub filters : AreFilters d.filters
  pub slots : d.slots ≤ SLOTS_MAX
  pub hint : (HINT_MIN ≤ d.hint) × (d.hint ≤ HINT_MAX)
  pub log_limit : (1 ≤ d.log_limit) × (d.log_limit ≤ LOG_MAX)
  pub realtime : d.realtime ≤ MOMENT_MAX
  pub boottime : d.boottime ≤ MOMENT_MAX

-- EV_SYN alone, the default hint and the default log limit
abbrev pub syn_alone : Description
syn_alone = record {
  kinds = true ∷ replicate 63 false;
  keys = replicate 768 false;
  relatives = replicate 64 false;
  axes = replicate 64 false;
  miscs = replicate 64 false;
  switches = replicate 64 false;
  leds = replicate 64 false;
  sounds = replicate 64 false;
  infos = replicate 64 no_info;
  filters = [];
  slots = 0;
  hint = 16;
  log_limit = 1048576;
  realtime = 0;
  boottime = 0;
}

-- a keyboard with the key A alone
abbrev pub one_key : Description
one_key = record syn_alone {
  kinds = true ∷ true ∷ replicate 62 false;
  keys = replicate 30 false ++ true ∷ replicate 737 false;
}

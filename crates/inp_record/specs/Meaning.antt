-- What bytes mean as a record, and else which line is refused and why (docs/FORMATS.md, "Causes").
use Rattle.std.specs.Prelude.{◌≡◌, ℕ, suc, ◌+◌, Bool, false, ◌&&◌, ◌||◌, not, if◌then◌else◌, nat_eq, nat_le, nat_lt, is_some, bytes_eq, List, [], ◌∷◌, length, replicate, Option, Some, None, option_map, unwrap_or, Result, Ok, Err}
use Rattle.std.specs.List.{list_any}
use Rattle.std.specs.Result.{result_err, result_map_both}
use Rattle.inp_model.specs.declared.event.TheConstants.{ABS_MAX}
use Rattle.inp_model.specs.declared.limits.TheConstants.{SLOTS_MAX, HINT_MIN, HINT_MAX, LOG_MAX}
use Rattle.inp_model.specs.declared.stamped.TheConstants.{MOMENT_MAX}
use Rattle.inp_model.specs.Description.{Description, is_kind, is_bad_axis, syn_alone}
use Rattle.inp_caps.specs.declared.caps_refused.CapsRefused.{CapsRefused}
use Rattle.inp_caps.specs.declared.caps_refused.CapsRefused.TheVariants.{BadCode, BadAxis, BadSlots, BadHint, BadLog, BadOffset}
use Rattle.inp_caps.specs.Builder.{is_code, filter_answer}
use Rattle.inp_actors.specs.declared.role.Role.{Role}
use Rattle.inp_actors.specs.Command.{is_source, is_owner}
use Rattle.inp_actors.specs.Record.{RecordView}
use Rattle.inp_texts.specs.Line.{lines_of as text_lines, words_of, is_comment, is_text}
use Rattle.inp_record.specs.declared.cause.Cause.{Cause}
use Rattle.inp_record.specs.declared.cause.Cause.TheVariants.{NotText, BadHeader, BadLine, OutOfPlace, BadCommand, Twice, TooMany, Caps}
use Rattle.inp_record.specs.declared.line_fault.LineFault.{LineFault}
use Rattle.inp_record.specs.declared.line_fault.LineFault.TheVariants as line
use Rattle.inp_record.specs.declared.refused.Refused.{Refused}
use Rattle.inp_record.specs.declared.refused.ParseFault.{ParseFault}
use Rattle.inp_record.specs.declared.refused.ParseFault.TheVariants as fault
use Rattle.inp_record.specs.declared.context.Context.{Context}
use Rattle.inp_record.specs.declared.context.TheConstants.{DEVICES_MAX, SOURCES_MAX, READERS_MAX, OWNERS_MAX, STREAMS_MAX, SLOTS_OF_VERSION_1}
use Rattle.inp_record.specs.declared.keyword.Keyword.{Keyword}
use Rattle.inp_record.specs.declared.item.Item.{Item}
use Rattle.inp_record.specs.declared.item.Item.TheVariants.{Device, Hint, Log, Realtime, Boottime, Slots, Kind, Code, Axis, Filter, Actor, Action}
use Rattle.inp_record.specs.Keyword.{keyword_of}
use Rattle.inp_record.specs.Place.{is_first_place, is_out_of_place}
use Rattle.inp_record.specs.Words.{word, is_header, item_of}
use Rattle.inp_record.specs.ItemsBefore.{ItemsBefore, streams_in, is_later, devices_of, context_of}

-- A hint, a log limit, a number of slots, an offset or an axis that its device gave before. Or the name of a
-- device or of an actor that another one has.
abbrev pub is_twice : Context → Item → Bool
is_twice c (Device requested name) =
    unwrap_or (option_map (λ latest. bytes_eq latest name) c.name) false || list_any (λ d. bytes_eq d.name name) c.devices
is_twice c (Hint count) = c.given.hint
is_twice c (Log count) = c.given.log
is_twice c (Realtime offset) = is_some c.given.realtime
is_twice c (Boottime offset) = is_some c.given.boottime
is_twice c (Slots count) = c.given.slots
is_twice c (Axis code info) = list_any (λ given. nat_eq given code) c.given.axes
is_twice c (Actor role name) = list_any (λ a. bytes_eq a.name name) c.actors
is_twice c _ = false

-- the latest device can have no other actor of this role
abbrev pub has_all : Context → Role → Bool
has_all c role =
    if is_source role then nat_le SOURCES_MAX c.sources
    else if is_owner role then nat_le OWNERS_MAX c.owners
    else nat_le READERS_MAX c.readers

-- A ninth device, a ninth source of a device, a second owner of a device, a seventeenth stream. Or a client,
-- tap or joystick of a device that has 128 of them together.
abbrev pub is_too_many : Context → Item → Bool
is_too_many c (Device requested name) = nat_le DEVICES_MAX (length c.devices + (if is_some c.name then 1 else 0))
is_too_many c (Actor role name) = has_all c role
is_too_many c (Action actor command) = nat_lt STREAMS_MAX (c.streams + streams_in command)
is_too_many c _ = false

-- a command that actors do not have under the record's version
abbrev pub is_later_command : Context → Item → Bool
is_later_command c (Action actor command) = nat_eq c.version 1 && is_later command
is_later_command c _ = false

-- more slots than a device may have under the record's version
abbrev pub has_too_many_slots : Context → Item → Bool
has_too_many_slots c (Slots count) = nat_eq c.version 1 && nat_lt SLOTS_OF_VERSION_1 count
has_too_many_slots c _ = false

-- why this description can not have what a line says too
abbrev pub builder_refusal : Description → Item → Option CapsRefused
builder_refusal d (Hint count) = if nat_le HINT_MIN count && nat_le count HINT_MAX then None else Some BadHint
builder_refusal d (Log count) = if nat_le 1 count && nat_le count LOG_MAX then None else Some BadLog
builder_refusal d (Realtime offset) = if nat_le offset MOMENT_MAX then None else Some BadOffset
builder_refusal d (Boottime offset) = if nat_le offset MOMENT_MAX then None else Some BadOffset
builder_refusal d (Slots count) = if nat_le 1 count && nat_le count SLOTS_MAX then None else Some BadSlots
builder_refusal d (Kind kind) = if is_kind kind then None else Some BadCode
builder_refusal d (Code kind code) = if is_code kind code then None else Some BadCode
builder_refusal d (Axis code info) =
    if nat_lt ABS_MAX code then Some BadCode else if is_bad_axis code info then Some BadAxis else None
builder_refusal d (Filter filter) = result_err (filter_answer d filter)
builder_refusal d _ = None

-- the item, unless a description refuses it
abbrev pub unless_refused : Option CapsRefused → Item → Result Item Cause
unless_refused None item = Ok item
unless_refused (Some why) item = Err (Caps why)

-- the answer of a builder's call for a line
abbrev pub answer_of : Option CapsRefused → Result (Unit {0}) CapsRefused
answer_of None = Ok tt
answer_of (Some why) = Err why

-- the meaning of a line whose words have their forms; a command of a later version takes any word, so no bad word is
-- refused before it
abbrev pub checked : Context → Result Item Cause → Result Item Cause
checked c (Err cause) = Err cause
checked c (Ok item) =
    if is_later_command c item then Err BadCommand
    else if is_twice c item then Err Twice
    else if is_too_many c item then Err TooMany
    else if has_too_many_slots c item then Err (Caps BadSlots)
    else unless_refused (builder_refusal c.builder item) item

-- what the words of a line with this keyword are, if it may stand there
abbrev pub placed : Context → Option Keyword → List (List ℕ) → Result Item Cause
placed c None ws = Err BadLine
placed c (Some keyword) ws =
    if is_out_of_place c.place c.requested keyword then Err OutOfPlace else item_of c.actors c.streams keyword ws

-- what the words of a line are
unfoldable pub item_of_words : Context → List (List ℕ) → Result Item Cause
item_of_words c ws =
    if is_first_place c.place && not (is_header ws) then Err BadHeader
    else placed c (keyword_of c.version (word 0 ws) (word 1 ws) (length ws)) ws

-- the past after a line of these words; a blank line means nothing
abbrev pub behind_words : ItemsBefore → List (List ℕ) → Result ItemsBefore Cause
behind_words past [] = Ok past
behind_words past (w ∷ ws) =
    result_map_both (λ item. item ∷ past) (λ cause. cause)
    (checked (context_of past) (item_of_words (context_of past) (w ∷ ws)))

-- the past after a line; a comment means nothing
unfoldable pub behind_line : ItemsBefore → List ℕ → Result ItemsBefore Cause
behind_line past line =
    if is_comment line then Ok past
    else if not (is_text line) then Err NotText
    else behind_words past (words_of line)

-- the result of a line with the number n, and then of those after it
abbrev pub then_lines : ℕ → Result ItemsBefore Cause → (ItemsBefore → Result ItemsBefore Refused) → Result ItemsBefore Refused
then_lines n (Ok past) more = more past
then_lines n (Err cause) more = Err (record { line = n; cause = cause })

-- the past after all lines, of which the first has the number n, or the first line that has no meaning
unfoldable pub behind_lines : ℕ → List (List ℕ) → ItemsBefore → Result ItemsBefore Refused
behind_lines n [] past = Ok past
behind_lines n (line ∷ lines) past = then_lines n (behind_line past line) (λ now. behind_lines (suc n) lines now)

-- the latest device stands after those before it
abbrev pub closed : Context → Context
closed c =
    record c { name = None; builder = syn_alone; devices = devices_of c }

-- the record of what is in a context
abbrev pub record_of_context : Context → RecordView
record_of_context c = record {
  version = c.version;
  devices = devices_of c;
  actors = c.actors;
  lines = c.lines;
  streams = replicate c.streams [];
}

-- the record of what so many lines mean; without a header the last one is refused
abbrev pub as_record : ℕ → Result ItemsBefore Refused → Result RecordView Refused
as_record count (Err refused) = Err refused
as_record count (Ok []) = Err (record { line = count; cause = BadHeader })
as_record count (Ok (item ∷ past)) = Ok (record_of_context (context_of (item ∷ past)))

-- the record that bytes are, or the first line that has no meaning
unfoldable pub meaning : List ℕ → Result RecordView Refused
meaning bytes = as_record (length (text_lines bytes)) (behind_lines 1 (text_lines bytes) [])

-- the record of a past
abbrev pub record_of_past : ItemsBefore → RecordView
record_of_past past = record_of_context (context_of past)

-- what a line leaves, where it is entered into what was before it, unless memory ran out
abbrev pub IsLineEntered : Result (Unit {0}) LineFault → ItemsBefore → Item → Context → Type 0
IsLineEntered (Ok done) past item now = (builder_refusal (context_of past).builder item ≡ None) × (now ≡ context_of (item ∷ past))
IsLineEntered (Err (line.Refused cause)) past item now =
    unless_refused (builder_refusal (context_of past).builder item) item ≡ Err cause
IsLineEntered (Err line.NoMemory) past item now = Unit {0}

-- what a line leaves after these lines, unless memory ran out
abbrev pub IsBehind : Result (Unit {0}) LineFault → Result ItemsBefore Cause → Context → Type 0
IsBehind (Ok done) means now = (past : ItemsBefore) × (means ≡ Ok past) × (now ≡ context_of past)
IsBehind (Err (line.Refused cause)) means now = means ≡ Err cause
IsBehind (Err line.NoMemory) means now = Unit {0}

-- all lines were read: what stands after them and their number, or the first line that has no meaning, unless
-- memory ran out
abbrev pub AreLinesRead : Result (Context × ℕ) ParseFault → List (List ℕ) → Type 0
AreLinesRead (Ok read) lines =
    (past : ItemsBefore) × (behind_lines 1 lines [] ≡ Ok past) × (read.0 ≡ context_of past) × (read.1 ≡ length lines)
AreLinesRead (Err (fault.Refused refused)) lines = behind_lines 1 lines [] ≡ Err refused
AreLinesRead (Err fault.NoMemory) lines = Unit {0}

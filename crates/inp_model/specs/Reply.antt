-- The reply to a step after a past, and what it leaves.
use Rattle.std.specs.Prelude.{ℕ, ℤ, pos, ◌+◌, ◌*◌, ◌≡◌, ◌≤◌, ◌⊎◌, Bool, true, false, ◌&&◌, not, if◌then◌else◌, nat_eq, nat_le, nat_lt, List, [], ◌∷◌, ◌++◌, length, map, drop, flat_map, Option, Some, None, is_some}
use Rattle.std.specs.List.{range_with_len}
use Rattle.inp_model.specs.declared.event.TheConstants.{EV_KEY, EV_ABS, EV_SW, EV_LED, EV_SND, ABS_MAX}
use Rattle.inp_model.specs.declared.limits.TheConstants.{CLIENTS_MAX}
use Rattle.inp_model.specs.declared.multi_touch.TheConstants.{ABS_MT_SLOT, ABS_MT_TOUCH_MAJOR, SLOT_VALUES}
use Rattle.inp_model.specs.declared.axis_info.AxisInfo.{AxisInfo}
use Rattle.inp_model.specs.declared.taken.Taken.{Taken}
use Rattle.inp_model.specs.declared.step.Step.{Step}
use Rattle.inp_model.specs.declared.step.Step.TheVariants.{Open, Read, Discard, GetKeys, GetSwitches, GetLeds, GetSounds, GetAxis, SetAxis, GetSlots, SyncSlots, Grab, Ungrab, Mask}
use Rattle.inp_model.specs.declared.reply.Reply.{Reply}
use Rattle.inp_model.specs.declared.reply.Reply.TheVariants.{Done, Opened, Took, Discarded, Bits, Axis, Cells, Again, Refused}
use Rattle.inp_model.specs.declared.reply.Refusal.TheVariants.{BadClient, NoDevice, BadKind, BadCode, BadInfo, Busy, NotGrabber, TooMany, LogFull, NoMemory}
use Rattle.inp_model.specs.Description.{Description, ring, has_kind, supports, no_info, is_bad_fuzz, is_multi_touch_code, is_slot_code, is_fixed_axis}
use Rattle.inp_model.specs.RawItem.{RawItem}
use Rattle.inp_model.specs.State.{key_down, turned_on, axis_info, axis_value, cell}
use Rattle.inp_model.specs.Passed.{announced}
use Rattle.inp_model.specs.Step.{client_of, is_close_of, is_same}
use Rattle.inp_model.specs.Past.{opens, is_open, open_clients, is_revoked, holder, has_mask, mask_words, ends}
use Rattle.inp_model.specs.Cut.{at_frame}
use Rattle.inp_model.specs.Raw.{raw}
use Rattle.inp_model.specs.Left.{Eats, eaten}
use Rattle.inp_model.specs.Queue.{Entry, event_of, queue_with, visible, taken_by_with}

-- a reply, with what is written to the front of the caller's buffers of events and of cells
pub record Answer : Type 0 where
  pub reply : Reply
  pub events : List Taken
  pub cells : List ℤ

abbrev pub taken_of : Entry → Taken
taken_of e = e.taken

-- Refusals (docs/RULES.md, "The order of refusals")

-- a client is named that is not open
abbrev pub is_bad_client : List Step → Option ℕ → Bool
is_bad_client past None = false
is_bad_client past (Some client) = not (is_open past client)

-- a client is named that was revoked, for another step than closing it
abbrev pub is_no_device : List Step → Step → Option ℕ → Bool
is_no_device past x None = false
is_no_device past x (Some client) = is_revoked past client && not (is_close_of client x)

-- an axis is asked for or described anew on a device without axes, slots on one without slots, or a mask is set that there is not
abbrev pub is_bad_kind : Description → Step → Bool
is_bad_kind d (GetAxis client code) = not (has_kind d EV_ABS)
is_bad_kind d (SetAxis client code axis) = not (has_kind d EV_ABS)
is_bad_kind d (GetSlots client code) = nat_eq d.slots 0
is_bad_kind d (SyncSlots client) = nat_eq d.slots 0
is_bad_kind d (Mask client kind word bits) = not (has_mask kind)
is_bad_kind d _ = false

-- an axis is asked for that no device has, or one whose values belong to no slot; one is described anew that stays as it
-- is described at first; or a word is set past its mask
abbrev pub is_bad_code : Description → Step → Bool
is_bad_code d (GetAxis client code) = nat_lt ABS_MAX code
is_bad_code d (SetAxis client code axis) = is_fixed_axis d code
is_bad_code d (GetSlots client code) = not (is_slot_code code)
is_bad_code d (Mask client kind word bits) = nat_le (mask_words kind) word
is_bad_code d _ = false

-- an axis is described anew with a fuzz out of range (docs/RULES.md, "Axes described anew")
abbrev pub is_bad_info : Step → Bool
is_bad_info (SetAxis client code axis) = is_bad_fuzz axis
is_bad_info _ = false

-- a read that finds nothing visible
abbrev pub finds_nothing : Eats → Description → List Step → Step → Bool
finds_nothing eats d past (Read client count) = nat_eq (visible event_of (queue_with eats d past client)) 0
finds_nothing eats d past _ = false

-- the grab is taken while a client holds it (docs/RULES.md, "The grab")
abbrev pub is_busy : List Step → Step → Bool
is_busy past (Grab client) = is_some (holder past)
is_busy past _ = false

-- the grab is given up by a client that does not hold it (docs/RULES.md, "The grab")
abbrev pub is_not_grabber : List Step → Step → Bool
is_not_grabber past (Ungrab client) = not (is_same (holder past) client)
is_not_grabber past _ = false

-- a client opens while as many are open as may be (docs/RULES.md, "Opening and closing")
abbrev pub is_one_too_many : List Step → Step → Bool
is_one_too_many past Open = nat_le CLIENTS_MAX (length (open_clients past))
is_one_too_many past _ = false

-- the history is as long as it may be (docs/RULES.md, "The limit of a history")
abbrev pub is_full : Description → List Step → Bool
is_full d past = nat_le d.log_limit (length past)

-- a cause for which a step is not accepted, and the reply that it has
pub record Case : Type 0 where
  pub holds : Bool
  pub reply : Reply

-- the reply of the first case that holds, if one does
abbrev pub first_reply : List Case → Option Reply
first_reply [] = None
first_reply (case ∷ cases) = if case.holds then Some case.reply else first_reply cases

abbrev pub refusal : Bool → Reply → Case
refusal holds reply = record { holds = holds; reply = reply }

-- what may refuse a step, in the order in which it is tried (docs/RULES.md, "The order of refusals")
abbrev pub refusals : Eats → Description → List Step → Step → List Case
refusals eats d past x =
    refusal (is_bad_client past (client_of x)) (Refused (length past) BadClient)
    ∷ refusal (is_no_device past x (client_of x)) (Refused (length past) NoDevice)
    ∷ refusal (is_bad_kind d x) (Refused (length past) BadKind)
    ∷ refusal (is_bad_code d x) (Refused (length past) BadCode)
    ∷ refusal (is_bad_info x) (Refused (length past) BadInfo)
    ∷ refusal (finds_nothing eats d past x) (Again (length past) (ends past))
    ∷ refusal (is_busy past x) (Refused (length past) Busy)
    ∷ refusal (is_not_grabber past x) (Refused (length past) NotGrabber)
    ∷ refusal (is_one_too_many past x) (Refused (length past) TooMany)
    ∷ refusal (is_full d past) (Refused (length past) LogFull)
    ∷ []

-- the first refusal that holds, if one does
abbrev pub refused_with : Eats → Description → List Step → Step → Option Reply
refused_with eats d past x = first_reply (refusals eats d past x)

abbrev pub refused : Description → List Step → Step → Option Reply
refused d past x = refused_with (eaten d) d past x

-- Answers to steps that nothing refuses (docs/RULES.md, "Queries", but where another rule is named)

abbrev pub alone : Reply → Answer
alone reply = record { reply = reply; events = []; cells = [] }

-- a number by its binary digits, the lowest first
abbrev pub number_of_bits : List Bool → ℕ
number_of_bits [] = 0
number_of_bits (bit ∷ bits) = (if bit then 1 else 0) + 2 * number_of_bits bits

-- 64 truth values from an index on, and so many words of them
abbrev pub bitmap_word : (ℕ → Bool) → ℕ → ℕ
bitmap_word test start = number_of_bits (map (λ k. test (start + k)) (range_with_len 0 64))

abbrev pub bitmap_of : (ℕ → Bool) → List ℕ
bitmap_of test = map (λ w. bitmap_word test (64 * w)) (range_with_len 0 12)

-- the present value of an axis; those whose values belong to slots have none of their own
abbrev pub present_value : Description → List RawItem → ℕ → ℤ
present_value d r code =
    if nat_eq code ABS_MT_SLOT then announced d r
    else if is_multi_touch_code code then pos 0
    else axis_value d r code

-- what an axis is and has (docs/RULES.md, "Queries" and "Axes described anew")
abbrev pub axis_answer : Description → List RawItem → ℕ → AxisInfo
axis_answer d r code =
    if supports d EV_ABS code then record (axis_info d r code) { value = present_value d r code } else no_info

-- the value of each slot, on one axis
abbrev pub column : Description → List RawItem → ℕ → List ℤ
column d r code = map (λ slot. cell d r (pos slot) code) (range_with_len 0 d.slots)

-- the values of a slot, by ascending codes
abbrev pub row : Description → List RawItem → ℕ → List ℤ
row d r slot = map (λ code. cell d r (pos slot) code) (range_with_len ABS_MT_TOUCH_MAJOR SLOT_VALUES)

-- all values of all slots, slot by slot
abbrev pub rows : Description → List RawItem → List ℤ
rows d r = flat_map (row d r) (range_with_len 0 d.slots)

-- whether a code of the type is on now: a key is down, a switch, an LED or a sound is on
abbrev pub code_on : Description → List RawItem → ℕ → ℕ → Bool
code_on d r kind code = if nat_eq kind EV_KEY then key_down d r code else turned_on d r kind code

-- all codes of a type
abbrev pub bits_answer : Description → List Step → ℕ → Answer
bits_answer d past kind = alone (Bits (length past) (bitmap_of (code_on d (raw d past) kind)))

-- so many values of slots, with the slot that was announced when the last frame ended
abbrev pub cells_answer : Description → List Step → ℕ → List ℤ → Answer
cells_answer d past count cells = record { reply = Cells (length past) count (at_frame d (raw d past)); events = []; cells = cells }

-- these events of a client's queue (docs/RULES.md, "A client's queue")
abbrev pub took_answer : List Step → List Entry → Answer
took_answer past first = record { reply = Took (length past) (length first); events = map taken_of first; cells = [] }

-- no more than that it was done
abbrev pub done_answer : List Step → Answer
done_answer past = alone (Done (length past))

-- the answer to a step that is not refused
abbrev pub accepted_with : Eats → Description → List Step → Step → Answer
accepted_with eats d past Open = alone (Opened (length past) (opens past) (ring d))
accepted_with eats d past (Read client count) = took_answer past (taken_by_with eats d past client (Read client count))
accepted_with eats d past (Discard client) = alone (Discarded (length past) (visible event_of (queue_with eats d past client)))
accepted_with eats d past (GetKeys client) = bits_answer d past EV_KEY
accepted_with eats d past (GetSwitches client) = bits_answer d past EV_SW
accepted_with eats d past (GetLeds client) = bits_answer d past EV_LED
accepted_with eats d past (GetSounds client) = bits_answer d past EV_SND
accepted_with eats d past (GetAxis client code) = alone (Axis (length past) (axis_answer d (raw d past) code))
accepted_with eats d past (GetSlots client code) = cells_answer d past d.slots (column d (raw d past) code)
accepted_with eats d past (SyncSlots client) = cells_answer d past (SLOT_VALUES * d.slots) (rows d (raw d past))
accepted_with eats d past _ = done_answer past

abbrev pub accepted : Description → List Step → Step → Answer
accepted d past x = accepted_with (eaten d) d past x

abbrev pub answer_by : Option Reply → Answer → Answer
answer_by None given = given
answer_by (Some reply) given = alone reply

-- the answer to a step after a past
abbrev pub answer_with : Eats → Description → List Step → Step → Answer
answer_with eats d past x = answer_by (refused_with eats d past x) (accepted_with eats d past x)

abbrev pub answer : Description → List Step → Step → Answer
answer d past x = answer_with (eaten d) d past x

-- does a reply say that the step was entered
abbrev pub is_accepted : Reply → Bool
is_accepted (Again at n) = false
is_accepted (Refused at why) = false
is_accepted _ = true

-- the past after a step that was answered so: a refused step is not entered (docs/RULES.md, "Places and moments")
abbrev pub past_after : Reply → Step → List Step → List Step
past_after reply x past = if is_accepted reply then x ∷ past else past

-- a buffer after these were written to its front
abbrev pub written : {X : Type 0} → List X → List X → List X
written front buffer = front ++ drop (length front) buffer

-- memory may run out at an Open that nothing else refuses (docs/RULES.md, "The order of refusals")
abbrev pub LacksMemory : Description → List Step → Step → Answer → Type 0
LacksMemory d past x given = (x ≡ Open) × (refused d past x ≡ None) × (given ≡ alone (Refused (length past) NoMemory))

-- the answer is the one-thread device's
abbrev pub IsAnswer : Description → List Step → Step → Answer → Type 0
IsAnswer d past x given = (given ≡ answer d past x) ⊎ LacksMemory d past x given

-- the caller's buffers are as long as what it asks for
abbrev pub HasRoom : Description → Step → List Taken → List ℤ → Type 0
HasRoom d (Read client count) out cells = count ≤ length out
HasRoom d (GetSlots client code) out cells = SLOT_VALUES * d.slots ≤ length cells
HasRoom d (SyncSlots client) out cells = SLOT_VALUES * d.slots ≤ length cells
HasRoom d _ out cells = Unit {0}

-- What a step of a device leaves: the exact reply, what is written to the caller's buffers, and the past after it.
pub record IsDeviceStep (d : Description) (past : List Step) (x : Step) (reply : Reply) (out new_out : List Taken) (cells new_cells : List ℤ) (new_past : List Step) : Type 0 where
  pub given : Answer
  pub exact : IsAnswer d past x given
  pub replied : reply ≡ given.reply
  pub out_written : new_out ≡ written given.events out
  pub cells_written : new_cells ≡ written given.cells cells
  pub entered : new_past ≡ past_after reply x past

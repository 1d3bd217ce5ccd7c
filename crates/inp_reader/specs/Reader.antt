-- What a reader keeps, and what `start` and `next` ask and answer (docs/READER.md, "The reader").
use Rattle.std.specs.Prelude.{ℕ, suc, ◌+◌, ◌-◌, Bool, true, false, if◌then◌else◌, nat_lt, List, [], ◌∷◌, ◌++◌, length, map, filter, drop, Result, Ok, Err}
use Rattle.std.specs.List.{range_with_len, list_any}
use Rattle.inp_model.specs.declared.event.TheConstants.{EV_KEY, EV_ABS, EV_SW, EV_LED, ABS_MAX}
use Rattle.inp_model.specs.declared.multi_touch.TheConstants.{ABS_MT_SLOT, ABS_MT_TOOL_Y}
use Rattle.inp_model.specs.declared.event.Event.{Event}
use Rattle.inp_model.specs.declared.taken.Taken.{Taken}
use Rattle.inp_model.specs.declared.step.Step.{Step}
use Rattle.inp_model.specs.declared.step.Step.TheVariants.{Open, Read, Discard, GetKeys, GetSwitches, GetLeds, GetAxis, SyncSlots}
use Rattle.inp_model.specs.declared.reply.Reply.{Reply}
use Rattle.inp_model.specs.declared.reply.Reply.TheVariants.{Opened, Again as NothingVisible, Refused as StepRefused}
use Rattle.inp_model.specs.declared.reply.Refusal.TheVariants.{BadClient, NoDevice as Revoked, LogFull}
use Rattle.inp_model.specs.Description.{Description, has_kind, supports}
use Rattle.inp_model.specs.Reply.{Answer, is_accepted}
use Rattle.inp_recon.specs.declared.view.View.{View}
use Rattle.inp_recon.specs.View.{view_after_event, view_after_events, view_after_answer}
use Rattle.inp_recon.specs.Synchronised.{is_dropped}
use Rattle.inp_reader.specs.declared.call_made.CallMade.{CallMade}
use Rattle.inp_reader.specs.declared.mode.Mode.{Mode}
use Rattle.inp_reader.specs.declared.mode.Mode.TheVariants.{Normal, Sync as Synchronising}
use Rattle.inp_reader.specs.declared.phase.Phase.{Phase}
use Rattle.inp_reader.specs.declared.phase.Phase.TheVariants.{Plain, Needed, Handing}
use Rattle.inp_reader.specs.declared.started.Started.{Started}
use Rattle.inp_reader.specs.declared.started.Started.TheVariants.{Opened as StartedOn, Refused}
use Rattle.inp_reader.specs.declared.next.Next.{Next}
use Rattle.inp_reader.specs.declared.next.Next.TheVariants.{Success, Dropped, Sync, Again, Synced, NoDevice, Closed, Full}
use Rattle.inp_reader.specs.Talk.{Talk, finish, ask, and_then}
use Rattle.inp_reader.specs.Synthesis.{synth}

pub record ReaderState : Type 0 where
  -- the client that it reads as
  pub client : ℕ
  -- the events that it has read and not handed out
  pub queue : List Taken
  -- what the device is, as far as the reader has handed it out
  pub view : View
  pub phase : Phase
  -- the synthesised events that it has not handed out; in another phase than Handing the list is empty
  pub left : List Event

-- what a reader is seen as
pub record ReaderView : Type 0 where
  -- the description of the devices that it reads
  pub description : Description
  pub reading : ReaderState
  -- the calls of the last `start` or `next`, those answered Again left out
  pub made : List CallMade

-- the next call synchronises first
abbrev pub with_sync_needed : ReaderState → ReaderState
with_sync_needed r = record r { phase = Needed; left = [] }

-- Queries

-- the supported axes among so many codes from the first on, ascending
unfoldable pub axes_among : Description → ℕ → ℕ → List ℕ
axes_among d first count = filter (supports d EV_ABS) (range_with_len first count)

-- the axes with a value of their own, ascending: those before and those after the axes of slots
abbrev pub plain_axes : Description → List ℕ
plain_axes d = axes_among d 0 ABS_MT_SLOT ++ axes_among d (ABS_MT_TOOL_Y + 1) (ABS_MAX - ABS_MT_TOOL_Y)

abbrev pub only_if : Bool → Step → List Step
only_if wanted x = if wanted then x ∷ [] else []

-- all keys, LEDs and switches, where the device has their type
abbrev pub bit_queries : Description → ℕ → List Step
bit_queries d client =
    only_if (has_kind d EV_KEY) (GetKeys client) ++ only_if (has_kind d EV_LED) (GetLeds client) ++ only_if (has_kind d EV_SW) (GetSwitches client)

abbrev pub axis_queries : ℕ → List ℕ → List Step
axis_queries client codes = map (GetAxis client) codes

-- all slots, where the device has any
abbrev pub slot_queries : Description → ℕ → List Step
slot_queries d client = only_if (nat_lt 0 d.slots) (SyncSlots client)

-- what a reader asks for to see the device whole: all that the device has, once and in this order
unfoldable pub queries : Description → ℕ → List Step
queries d client = bit_queries d client ++ axis_queries client (plain_axes d) ++ slot_queries d client

-- asks for these steps in order and sets a view by their answers, until one is not accepted
unfoldable pub ask_each : List Step → View → Talk (Result View Reply)
ask_each [] view = finish (Ok view)
ask_each (x ∷ xs) view =
    ask x (λ answer.
    if is_accepted answer.reply then ask_each xs (view_after_answer view x answer.reply answer.cells)
    else finish (Err answer.reply))

-- Starting

-- how a start ends on a step that was not accepted; the reply is a refusal
abbrev pub start_stop_of : Reply → Started
start_stop_of (StepRefused at why) = Refused at why
start_stop_of _ = Refused 0 BadClient

-- a start on this client, once its queries ended
abbrev pub after_queries : ℕ → ℕ → ReaderState → Result View Reply → Started × ReaderState
after_queries client ring r (Ok view) =
    (StartedOn client ring, record { client = client; queue = []; view = view; phase = Plain; left = [] })
after_queries client ring r (Err reply) =
    (start_stop_of reply, record { client = client; queue = []; view = r.view; phase = Needed; left = [] })

-- a start, once its Open was answered
abbrev pub after_open : Description → ReaderState → Reply → Talk (Started × ReaderState)
after_open d r (Opened at client ring) = and_then (ask_each (queries d client) r.view) (λ asked. finish (after_queries client ring r asked))
after_open d r reply = finish (start_stop_of reply, r)

-- opens a client and asks for all that the device has (docs/READER.md, "The reader")
unfoldable pub start_talk : Description → ReaderState → Talk (Started × ReaderState)
start_talk d r = ask Open (λ answer. after_open d r answer.reply)

-- Reading

-- how `next` ends on a step that was not accepted; the reply is Again at a read alone, and else one of three refusals
abbrev pub stop_of : Reply → Next
stop_of (NothingVisible at ends) = Again at ends
stop_of (StepRefused at Revoked) = NoDevice
stop_of (StepRefused at LogFull) = Full at
stop_of _ = Closed

-- hands out an event of the reader's queue, and sets the view by it
abbrev pub hand_out_event : ReaderState → Taken → List Taken → Next × ReaderState
hand_out_event r taken rest =
    let view = view_after_event r.view taken.event in
    if is_dropped taken.event then (Dropped taken, record r { queue = rest; view = view; phase = Needed })
    else (Success taken, record r { queue = rest; view = view })

-- hands out the first event of a queue; a read that was accepted has taken one at least, so an empty queue never comes
abbrev pub hand_out : ReaderState → List Taken → Next × ReaderState
hand_out r [] = (Closed, record r { queue = [] })
hand_out r (taken ∷ rest) = hand_out_event r taken rest

-- after a read
abbrev pub after_read : ReaderState → Answer → Next × ReaderState
after_read r answer = if is_accepted answer.reply then hand_out r answer.events else (stop_of answer.reply, r)

-- in phase Plain: reads where the queue is empty, and hands out the first event (docs/READER.md, "The reader")
abbrev pub read_or_hand_out : ReaderState → List Taken → Talk (Next × ReaderState)
read_or_hand_out r [] = ask (Read r.client 64) (λ answer. finish (after_read r answer))
read_or_hand_out r (taken ∷ rest) = finish (hand_out_event r taken rest)

unfoldable pub read_talk : ReaderState → Talk (Next × ReaderState)
read_talk r = read_or_hand_out r r.queue

-- Handing out in one go what was read

-- the first events of a queue, at most so many, and none after a loss
unfoldable pub first_run : ℕ → List Taken → List Taken
first_run (suc most) (taken ∷ q) = taken ∷ (if is_dropped taken.event then [] else first_run most q)
first_run _ _ = []

abbrev pub is_plain_phase : Phase → Bool
is_plain_phase Plain = true
is_plain_phase _ = false

-- what so many `next` in mode Normal would hand out without a call, one after another
abbrev pub queued_run : ℕ → ReaderState → List Taken
queued_run most r = if is_plain_phase r.phase then first_run most r.queue else []

abbrev pub has_loss : List Taken → Bool
has_loss run = list_any (λ (t : Taken). is_dropped t.event) run

-- this run, the first events of the queue, was handed out
abbrev pub after_run : ReaderState → List Taken → ReaderState
after_run r run = record r {
  queue = drop (length run) r.queue;
  view = view_after_events r.view (map (λ (t : Taken). t.event) run);
  phase = if has_loss run then Needed else r.phase;
}

-- Synchronising

-- hands out the next synthesised event, if one is left
abbrev pub hand_synthesised : ReaderState → List Event → Next × ReaderState
hand_synthesised r [] = (Synced, record r { phase = Plain; left = [] })
hand_synthesised r (event ∷ left) = (Sync event, record r { left = left })

abbrev pub handing : ReaderState → Next × ReaderState
handing r = hand_synthesised r r.left

-- without the synthesised events
abbrev pub as_plain : ReaderState → ReaderState
as_plain r = record r { phase = Plain; left = [] }

-- after the calls of a synchronisation
abbrev pub after_full_sync : ReaderState → View → ReaderState
after_full_sync r view = record r { queue = []; view = view; phase = Handing; left = synth r.view view }

abbrev pub after_failed_sync : ReaderState → ReaderState
after_failed_sync r = record r { queue = []; phase = Needed; left = [] }

-- what a synchronisation leaves
abbrev pub after_sync : ReaderState → Result View Reply → ReaderState
after_sync r (Ok view) = after_full_sync r view
after_sync r (Err reply) = after_failed_sync r

-- removes what is visible to the client, and asks for all that the device has
unfoldable pub sync_talk : Description → ReaderState → Talk (Result View Reply)
sync_talk d r = ask_each (Discard r.client ∷ queries d r.client) r.view

-- how a call goes on after a synchronisation: as in phase Handing, unless that was refused
abbrev pub talk_after_sync : Mode → ReaderState → Result View Reply → Talk (Next × ReaderState)
talk_after_sync mode r (Err reply) = finish (stop_of reply, after_failed_sync r)
talk_after_sync Normal r (Ok view) = read_talk (as_plain (after_full_sync r view))
talk_after_sync Synchronising r (Ok view) = finish (handing (after_full_sync r view))

-- what a call of `next` does, by the mode and the phase (docs/READER.md, "The reader"):
--
--            Normal                                   Sync
--   Plain    hands out an event that it read          asks for nothing and answers Synced
--   Needed   synchronises, then as in Handing         synchronises, then as in Handing
--   Handing  drops synthesised events, and reads on   hands out a synthesised event, or answers Synced
abbrev pub talk_in : Description → Mode → Phase → ReaderState → Talk (Next × ReaderState)
talk_in d Normal Plain r = read_talk r
talk_in d Synchronising Plain r = finish (Synced, r)
talk_in d mode Needed r = and_then (sync_talk d r) (talk_after_sync mode r)
talk_in d Normal Handing r = read_talk (as_plain r)
talk_in d Synchronising Handing r = finish (handing r)

-- the next event
abbrev pub next_talk : Description → Mode → ReaderState → Talk (Next × ReaderState)
next_talk d mode r = talk_in d mode r.phase r

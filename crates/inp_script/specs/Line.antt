-- What the lines of sources and taps do, and the single calls of clients (docs/RUNS.md, "Jobs").
use Rattle.std.specs.Prelude.{ℕ, zero, suc, if◌then◌else◌, List, [], ◌∷◌, ◌++◌, map, Option, Some, None}
use Rattle.inp_model.specs.declared.stamped.Stamped.{Stamped}
use Rattle.inp_model.specs.declared.event.Event.{Event}
use Rattle.inp_model.specs.declared.taken.Taken.{Taken}
use Rattle.inp_model.specs.declared.step.Step.{Step}
use Rattle.inp_model.specs.declared.step.Step.TheVariants.{Inject, Tick as ToTick, Inhibit as ToInhibit, Uninhibit as ToUninhibit, Open as ToOpen, Close as ToClose, Read as ToRead, Discard as ToDiscard, GetKeys, GetSwitches, GetLeds, GetSounds, GetAxis, SetAxis as ToSetAxis, GetSlots, SyncSlots as ToSyncSlots, Write as ToWrite, Grab as ToGrab, Ungrab as ToUngrab, Mask as ToMask, Clock as ToClock, Revoke as ToRevoke, End}
use Rattle.inp_model.specs.declared.reply.Reply.{Reply}
use Rattle.inp_model.specs.declared.reply.Reply.TheVariants.{Opened}
use Rattle.inp_model.specs.Reply.{Answer, is_accepted}
use Rattle.inp_actors.specs.declared.command.Command.{Command}
use Rattle.inp_actors.specs.declared.command.Command.TheVariants.{Event as ToEvent, Tick, Inhibit, Uninhibit, Stream, Stream16, Open, Close, Grab, Ungrab, Revoke, Mask, Clock, Write, SetAxis, Read, Discard, Keys, Switches, Leds, Sounds, SyncSlots, Axis, Slots}
use Rattle.inp_recon.specs.declared.view.View.{View}
use Rattle.inp_recon.specs.View.{view_after_answer, view_after_events}
use Rattle.inp_reader.specs.declared.reader.TheConstants.{NO_CLIENT}
use Rattle.inp_reader.specs.Reader.{ReaderState}
use Rattle.inp_reader.specs.Talk.{Talk, finish, ask}
use Rattle.inp_script.specs.declared.stop.Stop.{Stop}
use Rattle.inp_script.specs.Job.{Job}
use Rattle.inp_script.specs.Sight.{sight_of_call, stop_after, lacks_memory}

-- the step that a command makes, on this client, if it makes one and no more
abbrev pub step_of : ℕ → Command → Option Step
step_of client (ToEvent moment kind code value) = Some (Inject (record { kind = kind; code = code; value = value }) moment)
step_of client (Tick moment) = Some (ToTick moment)
step_of client (Inhibit moment) = Some (ToInhibit moment)
step_of client Uninhibit = Some ToUninhibit
step_of client Open = Some ToOpen
step_of client Close = Some (ToClose client)
step_of client Grab = Some (ToGrab client)
step_of client Ungrab = Some (ToUngrab client)
step_of client Revoke = Some (ToRevoke client)
step_of client (Mask kind word bits) = Some (ToMask client kind word bits)
step_of client (Clock clock moment) = Some (ToClock client clock moment)
step_of client (Write moment kind code value) = Some (ToWrite client (record { kind = kind; code = code; value = value }) moment)
step_of client (SetAxis code info) = Some (ToSetAxis client code info)
step_of client (Read count) = Some (ToRead client count)
step_of client Discard = Some (ToDiscard client)
step_of client Keys = Some (GetKeys client)
step_of client Switches = Some (GetSwitches client)
step_of client Leds = Some (GetLeds client)
step_of client Sounds = Some (GetSounds client)
step_of client SyncSlots = Some (ToSyncSlots client)
step_of client (Axis code) = Some (GetAxis client code)
step_of client (Slots code) = Some (GetSlots client code)
step_of client _ = None

-- Single calls

-- a job after a call of a source, or of a client that makes it by itself
abbrev pub after_call : Job → Step → Answer → Job
after_call j x answer = record j {
  sight = j.sight ++ sight_of_call x answer.reply answer.events;
  stop = stop_after answer.reply;
}

-- A job after so many calls may be given up: no job is left where memory ran out.
abbrev pub unless_lacking : Reply → Job → Option Job
unless_lacking reply j = if lacks_memory reply then None else Some j

-- a call of a source, or of a client that makes it by itself
abbrev pub call_talk : Job → Step → Talk (Option Job)
call_talk j x = ask x (λ answer. finish (Some (after_call j x answer)))

abbrev pub call_if : Job → Option Step → Talk (Option Job)
call_if j None = finish (Some j)
call_if j (Some x) = call_talk j x

-- Sources

-- makes these events, in order, up to the first one that is refused
unfoldable pub stream_talk : List Stamped → Job → Talk (Option Job)
stream_talk [] j = finish (Some j)
stream_talk (stamped ∷ stream) j =
    let x = Inject stamped.event stamped.now in
    ask x (λ answer.
    if is_accepted answer.reply then stream_talk stream (after_call j x answer) else finish (Some (after_call j x answer)))

-- the stream of this number; there is one for each that a record names
abbrev pub stream_numbered : List (List Stamped) → ℕ → List Stamped
stream_numbered [] index = []
stream_numbered (stream ∷ streams) zero = stream
stream_numbered (stream ∷ streams) (suc index) = stream_numbered streams index

-- what a source does at a command; it has no client
abbrev pub source_talk : List (List Stamped) → Command → Job → Talk (Option Job)
source_talk streams (Stream file index) j = stream_talk (stream_numbered streams index) j
source_talk streams (Stream16 file index) j = stream_talk (stream_numbered streams index) j
source_talk streams command j = call_if j (step_of NO_CLIENT command)

-- a source that did not stop is done
abbrev pub end_talk : Option Stop → Job → Talk (Option Job)
end_talk None j = call_talk j End
end_talk (Some stop) j = finish (Some j)

-- Taps

-- a tap's client is the one that it opened last
abbrev pub tap_client_after : Step → Reply → ℕ → ℕ
tap_client_after ToOpen (Opened at opened ring) client = opened
tap_client_after _ _ client = client

abbrev pub event_of_taken : Taken → Event
event_of_taken taken = taken.event

-- a tap's view is set by its answer, and by each event that it read
abbrev pub view_after_call : View → Step → Answer → View
view_after_call view x answer =
    view_after_events (view_after_answer view x answer.reply answer.cells) (map event_of_taken answer.events)

abbrev pub reading_after_call : ReaderState → Step → Answer → ReaderState
reading_after_call r x answer = record r { client = tap_client_after x answer.reply r.client; view = view_after_call r.view x answer }

-- a job after a call of a tap
abbrev pub after_tap_call : Job → Step → Answer → Job
after_tap_call j x answer = record (after_call j x answer) { reading = reading_after_call j.reading x answer }

-- a call of a tap; the job is given up where memory ran out
abbrev pub tap_call : Job → Step → Talk (Option Job)
tap_call j x = ask x (λ answer. finish (unless_lacking answer.reply (after_tap_call j x answer)))

abbrev pub tap_call_if : Job → Option Step → Talk (Option Job)
tap_call_if j None = finish (Some j)
tap_call_if j (Some x) = tap_call j x

-- what a tap does at a command
abbrev pub tap_talk : Command → Job → Talk (Option Job)
tap_talk command j = tap_call_if j (step_of j.reading.client command)

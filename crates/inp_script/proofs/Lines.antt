-- Each stream that a line of a record names is there, and what an actor does at a line, whether it stopped
-- before it or not.
use Rattle.std.proofs.Common.{◌≡◌, ℕ, zero, suc, ◌<◌, true, false, List, [], ◌∷◌, length, refl, sym, ◌∙◌}
use Rattle.std.proofs.Common.{arith, Option, Some, None}
use Rattle.std.specs.Prelude.{is_some}
use Rattle.std.specs.List.{Contains, slice_get, range_with_len}
use Rattle.std.proofs.lemmas.List.Elements.{Contains-append_left, Contains-append_right, Contains-push}
use Rattle.std.proofs.lemmas.List.FromFn.{get_or-range_with_len, length-range_with_len}
use Rattle.inp_model.specs.Injection.{AreInTime}
use Rattle.inp_actors.specs.Command.{stream_of, first_of}
use Rattle.inp_actors.specs.Record.{streams_of}
use Rattle.inp_script.specs.Notes.{IsNoted}
use Rattle.inp_script.specs.DoneLine.{HasStream, DoesCommand}
use Rattle.inp_script.specs.Line.{stream_numbered, source_talk}
use Rattle.inp_script.proofs.Common.{Stamped, Reply, EvdevView, ActorText, Command, Line, Role}
use Rattle.inp_script.proofs.Common.{Source as SourceRole, ReaderState, Talk, finish, Notes, Stop, Waiting}
use Rattle.inp_script.proofs.Common.{RoleState, Job, Stick, ActorView, no_stick, role_of, stick_of}
use Rattle.inp_script.proofs.Common.{is_command_of, RecordView, IsRecord, job_with, IsStepMade, Holds, Begins}
use Rattle.inp_script.proofs.Common.{DoesLine, BeginsLine, IsCommandFor, command_talk}
use Rattle.inp_script.proofs.Common.{unless_stopped, line_talk, inject_talk, stream_talk, end_talk, call_talk}
use Rattle.inp_script.proofs.Common.{Description, Joy, joystick_talk, NO_CLIENT, step_of, call_if}
use Rattle.inp_model.specs.declared.step.Step.TheVariants.{Close as ToClose, End}
use Rattle.inp_actors.specs.declared.command.Command.TheVariants.{Open, Close, Read, Stream, Stream16}
use Rattle.inp_script.specs.declared.role.state.RoleState.TheVariants.{Source}
use Rattle.std.proofs.lemmas.Option.{same_Some, slice_get_within}
use Rattle.inp_script.proofs.TalkCalls.{holds-nothing}
use Rattle.inp_script.proofs.Streams.{holds-noted, begins-call_if}

-- Each stream that a line names is there

in_numbers : (n i : ℕ) → Contains (range_with_len 0 n) i → i < n
in_numbers n i (k, within, same) =
    let long : length (range_with_len 0 n) ≡ n = length-range_with_len 0 n in
    omega (arith, within, long, same, get_or-range_with_len 0 n k i (omega (arith, within, long)))

named : (lines : List Line) (number : ℕ) (line : Line) (i : ℕ) → slice_get lines number ≡ Some line
    → Contains (stream_of line.command) i → Contains (streams_of lines) i
named [] number line i is has = absurd cc
named (first ∷ lines) zero line i is has =
    let same : line ≡ first = cc in
    Contains-append_left (stream_of first.command) (streams_of lines) i
    (rw same at has)
named (first ∷ lines) (suc number) line i is has =
    Contains-append_right (stream_of first.command) (streams_of lines) i (named lines number line i is has)

slice_get-stream_numbered : (streams : List (List Stamped)) (index : ℕ) → index < length streams
    → slice_get streams index ≡ Some (stream_numbered streams index)
slice_get-stream_numbered [] index h = absurd (omega arith)
slice_get-stream_numbered (stream ∷ streams) zero h = refl
slice_get-stream_numbered (stream ∷ streams) (suc index) h =
    slice_get-stream_numbered streams index (omega (arith, h))

stream_there : (r : RecordView) (at : ℕ) → IsRecord r → at < length r.streams → (index : ℕ)
    → Some at ≡ Some index → (index < length r.streams) × AreInTime (stream_numbered r.streams index)
stream_there r at is below index e =
    let same : at ≡ index = cc e in
    let within : index < length r.streams = omega (arith, same, below) in (
      within,
      is.in_time index (stream_numbered r.streams index)
          (slice_get-stream_numbered r.streams index within),
    )

has_stream : (r : RecordView) (command : Command) → IsRecord r
    → ((i : ℕ) → Contains (stream_of command) i → i < length r.streams) → HasStream r.streams command
has_stream r (Stream file at) is below = stream_there r at is (below at (Contains-push [] at))
has_stream r (Stream16 file at) is below = stream_there r at is (below at (Contains-push [] at))
has_stream r _ is below = λ index e. absurd (cc e)

-- a record has only commands that their actors may have, and each stream that they name
pub is_command_for : (r : RecordView) (number : ℕ) (line : Line) (text : ActorText) (role : Role) → IsRecord r
    → slice_get r.lines number ≡ Some line → slice_get r.actors line.actor ≡ Some text → text.role ≡ role
    → IsCommandFor role r.streams line.command
is_command_for r number line text role is has_line has_text same = record {
  of_role = rw (← same) (is.commands number line text has_line has_text);
  in_range = rw (← same) (is.ranges number line text has_line has_text);
  has_stream = has_stream r line.command is (λ i has.
      in_numbers _ i (rw is.numbered at
      (named r.lines number line i has_line has)));
}

-- What a source and a joystick do at a command, by the command

-- the stream of a number that is there
pub stream_numbered-slice_get : (streams : List (List Stamped)) (index : ℕ) (stream : List Stamped)
    → slice_get streams index ≡ Some stream → stream_numbered streams index ≡ stream
stream_numbered-slice_get streams index stream h =
    same_Some _ stream
    (sym (slice_get-stream_numbered streams index (slice_get_within streams index stream h)) ∙ h)

-- a source's command without a stream is a single call
pub source_talk-single : (streams : List (List Stamped)) (command : Command) (j : Job)
    → first_of (stream_of command) ≡ None
    → source_talk streams command j ≡ call_if j (step_of NO_CLIENT command)
source_talk-single streams (Stream file index) j h = absurd (cc h)
source_talk-single streams (Stream16 file index) j h = absurd (cc h)
source_talk-single streams _ j h = refl

stream_is : (streams : List (List Stamped)) (at index : ℕ) (stream : List Stamped) (j : Job)
    → Some at ≡ Some index → slice_get streams index ≡ Some stream
    → stream_talk (stream_numbered streams at) j ≡ stream_talk stream j
stream_is streams at index stream j e is =
    let same : at ≡ index = cc e in
    rw (same, stream_numbered-slice_get streams index stream is)

-- a source's command with a stream injects the events of that stream
pub source_talk-stream : (streams : List (List Stamped)) (command : Command) (index : ℕ)
    (stream : List Stamped) (j : Job) → first_of (stream_of command) ≡ Some index
    → slice_get streams index ≡ Some stream → source_talk streams command j ≡ stream_talk stream j
source_talk-stream streams (Stream file at) index stream j e is = stream_is streams at index stream j e is
source_talk-stream streams (Stream16 file at) index stream j e is = stream_is streams at index stream j e is
source_talk-stream streams _ index stream j e is = absurd (cc e)

-- a joystick that neither opens nor reads closes
pub joystick_talk-close : (d : Description) (n : ℕ) (command : Command) (j : Job)
    → is_command_of Joy command ≡ true → (command ≡ Open → ⊥) → ((count : ℕ) → command ≡ Read count → ⊥)
    → call_talk j (ToClose j.reading.client) ≡ joystick_talk d n command j
joystick_talk-close d n Close j of_role no_open no_read = refl
joystick_talk-close d n Open j of_role no_open no_read = absurd (no_open refl)
joystick_talk-close d n (Read count) j of_role no_open no_read = absurd (no_read count refl)
joystick_talk-close d n command j of_role no_open no_read = absurd cc

-- What an actor does at a line

stopped_talk : (stop : Option Stop) (j : Job) (talk : Talk (Option Job)) → is_some stop ≡ true
    → unless_stopped stop j talk ≡ finish (Some j)
stopped_talk None j talk h = absurd cc
stopped_talk (Some stop) j talk h = refl

going_talk : (stop : Option Stop) (j : Job) (talk : Talk (Option Job)) → is_some stop ≡ false
    → unless_stopped stop j talk ≡ talk
going_talk None j talk h = refl
going_talk (Some stop) j talk h = absurd cc

module _ (a : ActorView) (r : RecordView) (wait : Option Waiting) (number : ℕ) (line : Line)
    (is : slice_get r.lines number ≡ Some line) where
  -- an actor that stopped makes no call at a line
  pub does-nothing : (told : EvdevView) → is_some a.job.stop ≡ true → DoesLine told told a r wait number a.job
  unfolding line_talk
  does-nothing told h =
      record {
        line = line;
        is_line = is;
        rounds = 0;
        holds = holds-nothing told _ (Some a.job) (stopped_talk a.job.stop a.job _ h);
      }

  -- an actor that goes on does the line by doing its command
  pub does-line : (before after : EvdevView) (new : Job) → is_some a.job.stop ≡ false
      → DoesCommand before after a.role a.description r.streams wait line.command a.job new
      → DoesLine before after a r wait number new
  unfolding line_talk
  does-line before after new h does = record {
    line = line;
    is_line = is;
    rounds = does.rounds;
    holds = rw going_talk does.holds;
  }

  -- an actor that goes on begins the line by the first calls of its command
  pub begins-line : (before after : EvdevView) (n : ℕ) → is_some a.job.stop ≡ false
      → Begins before after (command_talk a.role a.description r.streams wait n line.command a.job)
      → BeginsLine before after a r wait number
  unfolding line_talk
  begins-line before after n h begun = record {
    line = line;
    is_line = is;
    rounds = n;
    begins = rw going_talk begun;
  }

-- Events that a source injects one after another

-- a source that stopped injects nothing
pub injects-nothing : (told : EvdevView) (events : List Stamped) (j : Job) → is_some j.stop ≡ true
    → Holds told told (inject_talk events j) (Some j)
injects-nothing told events j h = holds-nothing told _ (Some j) (stopped_talk j.stop j _ h)

-- a source that goes on injects the events as a stream
pub injects-all : (before after : EvdevView) (events : List Stamped) (old new : Job)
    → is_some old.stop ≡ false → Holds before after (stream_talk events old) (Some new)
    → Holds before after (inject_talk events old) (Some new)
injects-all before after events old new h holds = rw going_talk holds

-- a source that goes on begins to inject as a stream does
pub injects-begun : (before after : EvdevView) (events : List Stamped) (old : Job) → is_some old.stop ≡ false
    → Begins before after (stream_talk events old) → Begins before after (inject_talk events old)
injects-begun before after events old h begins = rw going_talk begins

-- a source keeps nothing of a joystick
pub source-stick : (state : RoleState) → role_of state ≡ SourceRole → no_stick ≡ stick_of state
source-stick (Source caps view) h = refl
source-stick _ h = absurd cc

-- The end of a source

end_stopped : (stop : Option Stop) (j : Job) → is_some stop ≡ true → end_talk stop j ≡ finish (Some j)
end_stopped None j h = absurd cc
end_stopped (Some stop) j h = refl

end_going : (stop : Option Stop) (j : Job) → is_some stop ≡ false → end_talk stop j ≡ call_talk j End
end_going None j h = refl
end_going (Some stop) j h = absurd cc

-- a source that stopped makes no call at its end
pub ends-nothing : (told : EvdevView) (j : Job) → is_some j.stop ≡ true
    → Holds told told (end_talk j.stop j) (Some j)
ends-nothing told j h = holds-nothing told _ (Some j) (end_stopped j.stop j h)

-- a source that goes on makes the one call End, which was noted
pub ends-noted : (before after : EvdevView) (r : ReaderState) (stick : Stick) (reply : Reply)
    (old new : Notes) → is_some old.stop ≡ false → IsNoted before after End reply old new
    → Holds before after (end_talk old.stop (job_with r stick old)) (Some (job_with r stick new))
ends-noted before after r stick reply old new h n =
    rw end_going (holds-noted before after End reply old new r stick n)

-- a source that goes on makes the one call End, whether it was noted or not
pub ends-begun : (before after : EvdevView) (r : ReaderState) (stick : Stick) (old : Notes)
    → is_some old.stop ≡ false → IsStepMade before after End
    → Begins before after (end_talk old.stop (job_with r stick old))
ends-begun before after r stick old h made =
    rw end_going (begins-call_if before after End (Some End) (job_with r stick old) refl made)

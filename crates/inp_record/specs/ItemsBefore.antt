-- What came before a line, and what the line depends on: for each kind of line what it changes.
use Rattle.std.specs.Prelude.{ℕ, ◌+◌, ◌≤◌, Bool, true, false, if◌then◌else◌, is_some, unwrap_or, List, [], ◌∷◌, ◌++◌, length, Option, Some, None}
use Rattle.inp_model.specs.declared.event.TheConstants.{EV_ABS}
use Rattle.inp_model.specs.declared.stamped.TheConstants.{MOMENT_MAX}
use Rattle.inp_model.specs.Description.{Description, syn_alone}
use Rattle.inp_caps.specs.Builder.{with_kind, with_code, with_axis, with_filter, built}
use Rattle.inp_actors.specs.declared.device_text.DeviceText.{DeviceText}
use Rattle.inp_actors.specs.declared.command.Command as command
use Rattle.inp_actors.specs.declared.command.Command.TheVariants.{Stream, Stream16}
use Rattle.inp_actors.specs.Command.{is_source, is_owner, is_reading}
use Rattle.inp_record.specs.declared.item.Item as item
use Rattle.inp_record.specs.declared.item.Item.TheVariants.{Header, Device, Hint, Log, Realtime, Boottime, Slots, Kind, Code, Axis, Filter, Actor, Action}
use Rattle.inp_record.specs.declared.place.Place.TheVariants.{Start, Headed, Describing, Naming, Acting}
use Rattle.inp_record.specs.declared.context.Context.{Context}
use Rattle.inp_record.specs.declared.context.Given.{Given}
use Rattle.inp_record.specs.declared.context.TheConstants.{DEVICES_MAX, SOURCES_MAX, READERS_MAX, OWNERS_MAX, STREAMS_MAX}

-- the meanings of the lines before a line, the newest first
abbrev pub ItemsBefore : Type 0
ItemsBefore = List item.Item

-- a device with this name, if there is one, after those before it
abbrev pub with_latest : List DeviceText → Option (List ℕ) → Bool → Description → List DeviceText
with_latest former None requested caps = former
with_latest former (Some name) requested caps = former ++ record { name = name; caps = caps; requested = requested } ∷ []

-- all devices
abbrev pub devices_of : Context → List DeviceText
devices_of c = with_latest c.devices c.name c.requested (built c.builder)

-- how many streams a command takes
abbrev pub streams_in : command.Command → ℕ
streams_in (Stream file index) = 1
streams_in (Stream16 file index) = 1
streams_in _ = 0

-- actors have the command from version 2 on
abbrev pub is_later : command.Command → Bool
is_later (Stream16 file index) = true
is_later _ = false

-- what a device gave that gave nothing
abbrev pub no_given : Given
no_given = record { hint = false; log = false; slots = false; realtime = None; boottime = None; axes = [] }

-- what the first line depends on
abbrev pub first_context : Context
first_context = record {
  place = Start;
  version = 1;
  name = None;
  requested = false;
  builder = syn_alone;
  given = no_given;
  sources = 0;
  readers = 0;
  owners = 0;
  devices = [];
  actors = [];
  lines = [];
  streams = 0;
}

-- the latest device is described so, and gave this
abbrev pub describing : Context → Description → Given → Context
describing c described given = record c { place = Describing; builder = described; given = given }

-- what the next line depends on, after a line of this meaning
abbrev pub after : item.Item → Context → Context
after (Header version) c = record c { place = Headed; version = version }
after (Device requested name) c = record c {
  place = Describing;
  name = Some name;
  requested = requested;
  builder = syn_alone;
  given = no_given;
  sources = 0;
  readers = 0;
  owners = 0;
  devices = devices_of c;
}
after (Hint count) c = describing c (record c.builder { hint = count }) (record c.given { hint = true })
after (Log count) c = describing c (record c.builder { log_limit = count }) (record c.given { log = true })
after (Realtime offset) c = describing c (record c.builder { realtime = offset }) (record c.given { realtime = Some offset })
after (Boottime offset) c = describing c (record c.builder { boottime = offset }) (record c.given { boottime = Some offset })
after (Slots count) c = describing c (record c.builder { slots = count }) (record c.given { slots = true })
after (Kind kind) c = describing c (with_kind c.builder kind) c.given
after (Code kind code) c = describing c (with_code (with_kind c.builder kind) kind code) c.given
after (Axis code info) c =
    describing c (with_axis (with_kind c.builder EV_ABS) code info) (record c.given { axes = c.given.axes ++ code ∷ [] })
after (Filter filter) c = describing c (with_filter c.builder filter) c.given
after (Actor role name) c = record c {
  place = Naming;
  sources = c.sources + (if is_source role then 1 else 0);
  readers = c.readers + (if is_reading role then 1 else 0);
  owners = c.owners + (if is_owner role then 1 else 0);
  actors = c.actors ++ record { name = name; role = role; device = length c.devices } ∷ [];
}
after (Action actor command) c = record c {
  place = Acting;
  lines = c.lines ++ record { actor = actor; command = command } ∷ [];
  streams = c.streams + streams_in command;
}

-- what the line after these depends on
abbrev pub context_of : ItemsBefore → Context
context_of [] = first_context
context_of (item ∷ past) = after item (context_of past)

-- so few devices, actors of the latest one and streams that they can be counted, and offsets within their limit
pub record IsWithinCounts (c : Context) : Type 0 where
  pub devices : length c.devices + (if is_some c.name then 1 else 0) ≤ DEVICES_MAX
  pub sources : c.sources ≤ SOURCES_MAX
  pub readers : c.readers ≤ READERS_MAX
  pub owners : c.owners ≤ OWNERS_MAX
  pub streams : c.streams ≤ STREAMS_MAX
  pub realtime : unwrap_or c.given.realtime 0 ≤ MOMENT_MAX
  pub boottime : unwrap_or c.given.boottime 0 ≤ MOMENT_MAX

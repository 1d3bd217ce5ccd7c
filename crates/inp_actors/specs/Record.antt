-- What a record holds, and what it keeps (docs/FORMATS.md, "The record").
use Rattle.std.specs.Prelude.{◌≡◌, ℕ, ◌^◌, ◌<◌, ◌≤◌, true, List, length, flat_map, slice_get, Some}
use Rattle.std.specs.List.{range_with_len}
use Rattle.inp_model.specs.Injection.{AreInTime}
use Rattle.inp_model.specs.declared.stamped.Stamped.{Stamped}
use Rattle.inp_actors.specs.declared.device_text.DeviceText.{DeviceText}
use Rattle.inp_actors.specs.declared.actor_text.TheConstants.{ACTORS_MAX}
use Rattle.inp_actors.specs.declared.actor_text.ActorText.{ActorText}
use Rattle.inp_actors.specs.declared.role.Role.TheVariants.{Owner}
use Rattle.inp_actors.specs.declared.line.Line.{Line}
use Rattle.inp_actors.specs.declared.record.TheConstants.{VERSION_MAX}
use Rattle.inp_actors.specs.Command.{is_command_of, is_in_range, stream_of}

pub record RecordView : Type 0 where
  -- the version of its text
  pub version : ℕ
  pub devices : List DeviceText
  pub actors : List ActorText
  pub lines : List Line
  -- the events of each stream command, in line order
  pub streams : List (List Stamped)

-- the numbers of the streams that lines take, in line order
abbrev pub streams_of : List Line → List ℕ
streams_of lines = flat_map (λ line. stream_of line.command) lines

-- What each record keeps.
pub record IsRecord (r : RecordView) : Type 0 where
  -- its version is one that there is
  pub version : (1 ≤ r.version) × (r.version ≤ VERSION_MAX)
  -- each actor is one of a device, and each line one of an actor
  pub devices : (i : ℕ) (actor : ActorText) → slice_get r.actors i ≡ Some actor → actor.device < length r.devices
  pub actors : (i : ℕ) (line : Line) → slice_get r.lines i ≡ Some line → line.actor < length r.actors
  -- an owner's device is made by requests, and has no other owner
  pub owners : (i : ℕ) (actor : ActorText) (device : DeviceText) → slice_get r.actors i ≡ Some actor → actor.role ≡ Owner → slice_get r.devices actor.device ≡ Some device → device.requested ≡ true
  pub one_owner : (i k : ℕ) (a b : ActorText) → slice_get r.actors i ≡ Some a → slice_get r.actors k ≡ Some b → a.role ≡ Owner → b.role ≡ Owner → a.device ≡ b.device → i ≡ k
  -- each line's command is one that its actor's role has
  pub commands : (i : ℕ) (line : Line) (actor : ActorText) → slice_get r.lines i ≡ Some line → slice_get r.actors line.actor ≡ Some actor → is_command_of actor.role line.command ≡ true
  -- each number is one that a line of its actor may have
  pub ranges : (i : ℕ) (line : Line) (actor : ActorText) → slice_get r.lines i ≡ Some line → slice_get r.actors line.actor ≡ Some actor → is_in_range actor.role line.command ≡ true
  -- the stream commands have the streams, in line order
  pub numbered : streams_of r.lines ≡ range_with_len 0 (length r.streams)
  pub in_time : (i : ℕ) (stamps : List Stamped) → slice_get r.streams i ≡ Some stamps → AreInTime stamps
  -- there are no more actors than a record may have
  pub few_actors : length r.actors ≤ ACTORS_MAX
  -- the other lists can be numbered by 32 bits
  pub few_devices : length r.devices < 2 ^ 32
  pub few_lines : length r.lines < 2 ^ 32
  pub few_streams : length r.streams < 2 ^ 32

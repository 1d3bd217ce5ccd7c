-- Which commands a role has, which numbers a command may have, and which stream it takes.
use Rattle.std.specs.Prelude.{ℕ, Bool, true, false, ◌&&◌, ◌||◌, nat_le, List, [], ◌∷◌, Option, Some, None}
use Rattle.inp_model.specs.declared.stamped.TheConstants.{MOMENT_MAX}
use Rattle.inp_actors.specs.declared.role.Role.{Role}
use Rattle.inp_actors.specs.declared.role.Role.TheVariants.{Source, Client, Tap, Joy, Owner}
use Rattle.inp_actors.specs.declared.command.TheConstants.{READ_MAX}
use Rattle.inp_actors.specs.declared.command.Command.{Command}
use Rattle.inp_actors.specs.declared.command.Command.TheVariants.{Event, Tick, Inhibit, Uninhibit, Stream, Stream16, Open, Close, Grab, Ungrab, Revoke, Mask, Clock, Write, SetAxis, Read, Discard, Keys, Switches, Leds, Sounds, SyncSlots, Axis, Slots, Next, Skip, Follow, Force, Feedback}

abbrev pub is_source : Role → Bool
is_source Source = true
is_source _ = false

abbrev pub is_client : Role → Bool
is_client Client = true
is_client _ = false

abbrev pub is_tap : Role → Bool
is_tap Tap = true
is_tap _ = false

abbrev pub is_joy : Role → Bool
is_joy Joy = true
is_joy _ = false

abbrev pub is_owner : Role → Bool
is_owner Owner = true
is_owner _ = false

-- it makes calls of its client by itself
abbrev pub is_calling : Role → Bool
is_calling role = is_client role || is_tap role

-- it opens a client
abbrev pub is_reading : Role → Bool
is_reading Source = false
is_reading Owner = false
is_reading _ = true

-- actors of the role have the command
abbrev pub is_command_of : Role → Command → Bool
is_command_of role (Event moment kind code value) = is_source role
is_command_of role (Tick moment) = is_source role
is_command_of role (Inhibit moment) = is_source role
is_command_of role Uninhibit = is_source role
is_command_of role (Stream file index) = is_source role
is_command_of role (Stream16 file index) = is_source role
is_command_of role Open = is_reading role
is_command_of role Close = is_reading role
is_command_of role Grab = is_calling role
is_command_of role Ungrab = is_calling role
is_command_of role Revoke = is_calling role
is_command_of role (Mask kind word bits) = is_calling role
is_command_of role (Clock clock moment) = is_calling role
is_command_of role (Write moment kind code value) = is_calling role
is_command_of role (SetAxis code info) = is_calling role
is_command_of role (Read count) = is_tap role || is_joy role
is_command_of role Discard = is_tap role
is_command_of role Keys = is_tap role
is_command_of role Switches = is_tap role
is_command_of role Leds = is_tap role
is_command_of role Sounds = is_tap role
is_command_of role SyncSlots = is_tap role
is_command_of role (Axis code) = is_tap role
is_command_of role (Slots code) = is_tap role
is_command_of role (Next count) = is_client role
is_command_of role (Skip count) = is_client role
is_command_of role Follow = is_client role
is_command_of role Force = is_client role
is_command_of role (Feedback count) = is_owner role

-- a count that a read of this role may have
abbrev pub is_count_of : Role → ℕ → Bool
is_count_of Joy count = true
is_count_of _ count = nat_le count READ_MAX

-- its moment or its count is one that a line of an actor of this role may have
abbrev pub is_in_range : Role → Command → Bool
is_in_range role (Event moment kind code value) = nat_le moment MOMENT_MAX
is_in_range role (Tick moment) = nat_le moment MOMENT_MAX
is_in_range role (Inhibit moment) = nat_le moment MOMENT_MAX
is_in_range role (Clock clock moment) = nat_le moment MOMENT_MAX
is_in_range role (Write moment kind code value) = nat_le moment MOMENT_MAX
is_in_range role (Read count) = is_count_of role count
is_in_range role (Feedback count) = nat_le 1 count && nat_le count READ_MAX
is_in_range role _ = true

-- the number of the stream that a command takes, if it takes one
abbrev pub stream_of : Command → List ℕ
stream_of (Stream file index) = index ∷ []
stream_of (Stream16 file index) = index ∷ []
stream_of _ = []

-- the room of a feedback call, if a command is one
abbrev pub feedback_room : Command → Option ℕ
feedback_room (Feedback count) = Some count
feedback_room _ = None

abbrev pub first_of : List ℕ → Option ℕ
first_of [] = None
first_of (n ∷ ns) = Some n

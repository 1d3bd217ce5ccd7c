-- The commands of actors (docs/FORMATS.md, "Action lines"): for each its word, whether actors of a role have it,
-- what its words are and what it is.
use Rattle.std.specs.Prelude.{ℕ, ◌-◌, ◌^◌, Bool, ◌||◌, List, [], ◌∷◌, codes, bytes_eq, Option}
use Rattle.std.specs.List.{find}
use Rattle.inp_model.specs.declared.event.TheConstants.{EV_ABS}
use Rattle.inp_actors.specs.declared.role.Role.{Role}
use Rattle.inp_actors.specs.declared.role.Role.TheVariants as roles
use Rattle.inp_actors.specs.declared.command.TheConstants.{READ_MAX}
use Rattle.inp_actors.specs.declared.command.Command as command
use Rattle.inp_actors.specs.declared.command.Command.TheVariants as commands
use Rattle.inp_actors.specs.Command.{is_source, is_client, is_tap, is_joy, is_owner, is_calling, is_reading}
use Rattle.inp_record.specs.Field.{Field, axis_fields, axis_made, Makes, made}
use Rattle.inp_record.specs.Field as field

pub record Row : Type 0 where
  -- the word of the command
  pub word : List ℕ
  -- the actor has it
  pub is_allowed : Bool
  -- what the words after it are
  pub fields : List Field
  -- the command that they make
  pub make : Makes command.Command fields
  -- what the words of a line say, if they have their forms
  pub read : List (List ℕ) → Option command.Command

abbrev pub command_line : List ℕ → Bool → (fields : List Field) → Makes command.Command fields → Row
command_line word is_allowed fields make =
    record { word = word; is_allowed = is_allowed; fields = fields; make = make; read = λ ws. made command.Command fields 0 3 ws make }

-- MOMENT KIND CODE SIGNED
abbrev pub event_fields : List Field
event_fields = field.any_moment ∷ field.Kind ∷ field.Code ∷ field.Signed ∷ []

-- the greatest count of a read of this role
abbrev pub count_max : Role → ℕ
count_max roles.Joy = 2 ^ 32 - 1
count_max _ = READ_MAX

-- each command, of an actor of this role; a stream has this number
unfoldable pub command_rows : ℕ → Role → List Row
command_rows stream role =
    command_line (codes "event") (is_source role) event_fields commands.Event
    ∷ command_line (codes "tick") (is_source role) (field.any_moment ∷ []) commands.Tick
    ∷ command_line (codes "inhibit") (is_source role) (field.any_moment ∷ []) commands.Inhibit
    ∷ command_line (codes "uninhibit") (is_source role) [] commands.Uninhibit
    ∷ command_line (codes "stream") (is_source role) (field.File ∷ []) (λ file. commands.Stream file stream)
    ∷ command_line (codes "stream16") (is_source role) (field.File ∷ []) (λ file. commands.Stream16 file stream)
    ∷ command_line (codes "open") (is_reading role) [] commands.Open
    ∷ command_line (codes "close") (is_reading role) [] commands.Close
    ∷ command_line (codes "grab") (is_calling role) [] commands.Grab
    ∷ command_line (codes "ungrab") (is_calling role) [] commands.Ungrab
    ∷ command_line (codes "revoke") (is_calling role) [] commands.Revoke
    ∷ command_line (codes "mask") (is_calling role) (field.Kind ∷ field.Number 65535 ∷ field.Bits ∷ []) commands.Mask
    ∷ command_line (codes "clock") (is_calling role) (field.Clock ∷ field.any_moment ∷ []) commands.Clock
    ∷ command_line (codes "write") (is_calling role) event_fields commands.Write
    ∷ command_line (codes "setaxis") (is_calling role) axis_fields (axis_made commands.SetAxis)
    ∷ command_line (codes "read") (is_tap role || is_joy role) (field.Number (count_max role) ∷ []) commands.Read
    ∷ command_line (codes "discard") (is_tap role) [] commands.Discard
    ∷ command_line (codes "keys") (is_tap role) [] commands.Keys
    ∷ command_line (codes "switches") (is_tap role) [] commands.Switches
    ∷ command_line (codes "leds") (is_tap role) [] commands.Leds
    ∷ command_line (codes "sounds") (is_tap role) [] commands.Sounds
    ∷ command_line (codes "syncslots") (is_tap role) [] commands.SyncSlots
    ∷ command_line (codes "axis") (is_tap role) (field.CodeOf EV_ABS ∷ []) commands.Axis
    ∷ command_line (codes "slots") (is_tap role) (field.CodeOf EV_ABS ∷ []) commands.Slots
    ∷ command_line (codes "next") (is_client role) (field.count ∷ []) commands.Next
    ∷ command_line (codes "skip") (is_client role) (field.count ∷ []) commands.Skip
    ∷ command_line (codes "follow") (is_client role) [] commands.Follow
    ∷ command_line (codes "force") (is_client role) [] commands.Force
    ∷ command_line (codes "feedback") (is_owner role) (field.Positive READ_MAX ∷ []) commands.Feedback
    ∷ []

-- the row of the command that a word is
abbrev pub row_of : ℕ → Role → List ℕ → Option Row
row_of stream role word = find (λ row. bytes_eq row.word word) (command_rows stream role)

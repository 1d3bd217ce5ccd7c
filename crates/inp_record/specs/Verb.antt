-- The commands of actors as the code names them: each stands for the row at its place, in the order of its type.
use Rattle.std.specs.Prelude.{ℕ, Bool, true, false, ◌&&◌, if◌then◌else◌, nat_eq, List, [], ◌∷◌, map, length, slice_index_or, Option, Some, None}
use denote.Enum.Declared.{tag_of}
use Rattle.inp_actors.specs.declared.role.Role.{Role}
use Rattle.inp_actors.specs.declared.role.Role.TheVariants as roles
use Rattle.inp_actors.specs.declared.command.Command.{Command}
use Rattle.inp_actors.specs.declared.command.Command.TheVariants as commands
use Rattle.inp_texts.specs.Table.{named}
use Rattle.inp_record.specs.contracts.verb.Verb.{the_type}
use Rattle.inp_record.specs.declared.verb.Verb.{Verb}
use Rattle.inp_record.specs.declared.verb.Verb.TheVariants.{Event, Tick, Inhibit, Uninhibit, Stream, Stream16, Open, Close, Grab, Ungrab, Revoke, Mask, Clock, Write, SetAxis, Read, Discard, Keys, Switches, Leds, Sounds, SyncSlots, Axis, Slots, Next, Skip, Follow, Force, Feedback}
use Rattle.inp_record.specs.Action.{Row, command_line, command_rows}

-- what stands at no place
abbrev pub no_row : Row
no_row = command_line [] false [] commands.Open

-- the row of a command, of an actor of this role; a stream has this number
unfoldable pub command_row : ℕ → Role → Verb → Row
unfolding command_rows
command_row stream role verb = slice_index_or (command_rows stream role) (tag_of the_type verb) no_row

-- all commands
abbrev pub verbs : List Verb
verbs =
    Event ∷ Tick ∷ Inhibit ∷ Uninhibit ∷ Stream ∷ Stream16 ∷ Open ∷ Close ∷ Grab ∷ Ungrab ∷ Revoke ∷ Mask ∷ Clock ∷ Write ∷ SetAxis
    ∷ Read ∷ Discard ∷ Keys ∷ Switches ∷ Leds ∷ Sounds ∷ SyncSlots ∷ Axis ∷ Slots ∷ Next ∷ Skip ∷ Follow ∷ Force ∷ Feedback ∷ []

-- actors of the role have the command
abbrev pub is_verb_of : Role → Verb → Bool
is_verb_of role verb = (command_row 0 role verb).is_allowed

-- how many words a command is given
abbrev pub argument_count : Verb → ℕ
argument_count verb = length (command_row 0 roles.Source verb).fields

-- each word with its command
abbrev pub verb_row : Verb → List ℕ × Verb
verb_row verb = ((command_row 0 roles.Source verb).word, verb)

unfoldable pub verb_rows : List (List ℕ × Verb)
verb_rows = map verb_row verbs

-- it takes a stream
abbrev pub is_stream : Verb → Bool
is_stream Stream = true
is_stream Stream16 = true
is_stream _ = false

-- the command, if actors of the role have it and it is given so many words
abbrev pub with_arguments : Role → ℕ → Option Verb → Option Verb
with_arguments role count None = None
with_arguments role count (Some verb) =
    if is_verb_of role verb && nat_eq (argument_count verb) count then Some verb else None

-- the command that a word is, of an actor of this role that is given so many words with it
unfoldable pub verb_of : Role → List ℕ → ℕ → Option Verb
verb_of role word count = with_arguments role count (named verb_rows word)

-- a command with its words, of an actor of this role, if these have their forms; a stream has this number
unfoldable pub command_of : ℕ → Role → Verb → List (List ℕ) → Option Command
command_of stream role verb ws = (command_row stream role verb).read ws

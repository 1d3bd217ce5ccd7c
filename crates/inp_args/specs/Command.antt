-- The command of the program, in clap's own words: which words it takes, and which texts it finds in them.
use Rattle.std.specs.Prelude.{◌≡◌, Bool, true, false, List, [], ◌∷◌, Option, Some, None, codes}
use Rattle.std.specs.List.{fold}
use Rattle.std.specs.Str.{bytes_eq}
use Rattle.clap.specs.Walk.{Rule, Text, is_empty, first_of}
use Rattle.clap.specs.Simple.{App, matches_of, new_app, new_rule, on_top, with_rule}
use Rattle.clap.specs.Faults.{fault_of}
use Rattle.clap.specs.Matches.{first_value, found_of}
use Rattle.clap.specs.declared.builder.action.ArgAction.TheVariants.{Set, SetTrue}
use Rattle.clap.specs.declared.parser.matches.ArgMatches.{ArgMatches}

-- `--NAME`
abbrev pub flag : Text → Rule
flag name = record (new_rule name) { long = Some name; action = Some SetTrue }

-- `--NAME TEXT` or `--NAME=TEXT`
abbrev pub option : Text → Rule
option name = record (new_rule name) { long = Some name; action = Some Set }

-- no argument yet; the words begin after the program's name, and `--help` is no option
abbrev pub no_arguments : App
no_arguments = on_top (λ s. record s { no_binary_name = true; disable_help_flag = true }) (new_app (codes "inputplay"))

-- Its arguments are flags, options and FILE, which has no name on the command line.
unfoldable pub command : App
command =
    fold with_rule no_arguments
    (flag (codes "threads") ∷ flag (codes "history") ∷ flag (codes "migrate")
    ∷ option (codes "idle") ∷ option (codes "make") ∷ option (codes "count") ∷ new_rule (codes "FILE") ∷ [])

-- the command takes the words
unfoldable pub is_taken : List Text → Bool
is_taken words = is_empty (fault_of command words)

-- the text that the command finds for an argument
unfoldable pub found_text : Text → List Text → Option Text
found_text name words = first_of name (matches_of command words)

-- a flag has the text `true` where it is given, and else `false`
abbrev pub is_given : Option Text → Bool
is_given None = false
is_given (Some text) = bytes_eq text (codes "true")

-- a parse found these texts
abbrev pub HasTextsOf : List Text → ArgMatches → Type 0
HasTextsOf words m = (name : Text) → first_value (found_of m) name ≡ found_text name words

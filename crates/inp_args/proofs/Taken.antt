-- What a parse by the command says of words.
use Rattle.std.proofs.Common.{◌≡◌, ◌∙◌, refl, sym, ap, arith, inl, inr, true, false, List, [], ◌∷◌, ne_eqb}
use Rattle.clap.specs.Walk.{Text, first_of, is_empty}
use Rattle.clap.specs.Simple.{App, HasMatchesOf, is_simple, matches_of}
use Rattle.clap.specs.Faults.{fault_of, is_simple_and_free}
use Rattle.clap.specs.Kinds.{HasKind, IsAmong, Kinds}
use Rattle.clap.specs.Matches.{found_of}
use Rattle.clap.specs.Values.{kind_of}
use Rattle.clap.specs.declared.error.Error.{Error}
use Rattle.clap.specs.declared.error.kind.ErrorKind.{ErrorKind}
use Rattle.clap.specs.declared.error.kind.ErrorKind.TheVariants.{OutOfMemory}
use Rattle.clap.specs.declared.parser.matches.ArgMatches.{ArgMatches}
use Rattle.clap.proofs.OnLiterals.{clap_on_literals}
use Rattle.clap.proofs.WalkLemmas.{first_value-rows}
use Rattle.inp_args.specs.Command.{command, is_taken, found_text, HasTextsOf}

-- clap says exactly which words the command takes, and what it finds in them
command_is_simple : is_simple_and_free command ≡ true
unfolding clap_on_literals command
command_is_simple = refl

command_finds : is_simple command ≡ true
unfolding clap_on_literals command
command_finds = refl

pub is_simple_at : (a : App) → a ≡ command → is_simple_and_free a ≡ true
is_simple_at a is = ap is_simple_and_free is ∙ command_is_simple

-- words without a fault are taken
pub taken : (a : App) (words : List Text) → a ≡ command → fault_of a words ≡ [] → is_taken words ≡ true
unfolding is_taken
taken a words is none = ap (λ (b : App). is_empty (fault_of b words)) (sym is) ∙ ap is_empty none

some_kind : (k : ErrorKind) (ks : Kinds) → IsAmong k ks → is_empty ks ≡ false
some_kind k [] h = absurd h
some_kind k (x ∷ xs) h = ne_eqb _ _ (λ e. omega arith)

-- words that fail otherwise than for memory are not
pub refused : (a : App) (words : List Text) (e : Error) → a ≡ command → HasKind (fault_of a words) e
    → (kind_of e ≡ OutOfMemory → ⊥) → is_taken words ≡ false
unfolding is_taken
refused a words e is (inl memory) other = absurd (other memory)
refused a words e is (inr among) other =
    ap (λ (b : App). is_empty (fault_of b words)) (sym is) ∙ some_kind (kind_of e) (fault_of a words) among

-- the texts found
pub found : (a : App) (words : List Text) (m : ArgMatches) → a ≡ command → HasMatchesOf a words m
    → HasTextsOf words m
unfolding found_text
found a words m is matches name =
    let simple : is_simple a ≡ true = ap is_simple is ∙ command_finds in
    first_value-rows (found_of m) name
    ∙ ap (first_of name) ((matches simple).0 ∙ ap (λ (b : App). matches_of b words) is)

-- The words that a worked example unfolds, in one place: `unfolding computing` opens all of them.
use Rattle.clap.proofs.OnLiterals.{clap_on_literals}
use Rattle.inp_args.specs.Command.{command, is_taken, found_text}

unfoldable pub computing : Type 0
unfolding clap_on_literals command is_taken found_text
computing = Unit {0}

-- What comes of a record does not depend on the version of its text.
use Rattle.std.proofs.Common.{◌≡◌, ℕ, List, [], ◌∷◌, Option, Some, None, refl, sym, ◌∙◌}
use Rattle.std.specs.Prelude.{option_and_then}
use Rattle.inp_actors.specs.declared.line.Line.{Line}
use Rattle.inp_actors.specs.Record.{RecordView}
use Rattle.inp_runs.specs.Play.{Stage, first_stage, after_line, after_lines, play}
use Rattle.inp_tool.specs.Upgrade.{upgraded, PlaysAlike}

line_alike : (r : RecordView) (rounds : ℕ) (stage : Stage) (line : Line)
    → after_line (upgraded r) rounds stage line ≡ after_line r rounds stage line
unfolding after_line
line_alike r rounds stage line = refl

lines_alike : (r : RecordView) (rounds : ℕ) (stage : Stage) (lines : List Line)
    → after_lines (upgraded r) rounds stage lines ≡ after_lines r rounds stage lines
unfolding after_lines
lines_alike r rounds stage [] = refl
lines_alike r rounds stage (line ∷ lines) =
    rw (line_alike r rounds stage line)
    (by_stage (after_line r rounds stage line) (λ now. lines_alike r rounds now lines))
  where
    by_stage : (o : Option Stage)
        → ((now : Stage) → after_lines (upgraded r) rounds now lines ≡ after_lines r rounds now lines)
        → option_and_then (λ now. after_lines (upgraded r) rounds now lines) o
        ≡ option_and_then (λ now. after_lines r rounds now lines) o
    by_stage None alike = refl
    by_stage (Some now) alike = alike now

play_alike : (r : RecordView) (rounds : ℕ) → play rounds (upgraded r) ≡ play rounds r
unfolding play
play_alike r rounds = rw (lines_alike r rounds (first_stage r) r.lines)

-- no line looks at the version of the text, so the same rounds play the upgraded record
pub plays_alike : PlaysAlike
plays_alike r played = (
  λ p. record { rounds = p.rounds; plays = sym (play_alike r p.rounds) ∙ p.plays },
  λ p. record { rounds = p.rounds; plays = play_alike r p.rounds ∙ p.plays },
)

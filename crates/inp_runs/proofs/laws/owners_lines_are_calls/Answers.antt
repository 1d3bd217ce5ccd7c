-- The lines of an owner are feedback calls, since a record's are of the roles of their actors.
use Rattle.std.proofs.Common.{◌≡◌, true, List, [], ◌∷◌, map, refl}
use Rattle.std.specs.List.{cons_option}
use Rattle.inp_runs.proofs.Common.{Command, Feedback, Line, Owner, is_command_of, feedback_room, lines_by}
use Rattle.inp_runs.proofs.Common.{rooms_of}
use Rattle.inp_runs.proofs.views.Folded.{AreOfRole, its_lines}
use Rattle.inp_runs.proofs.laws.owners_lines_are_calls.Goals as goal

abbrev commands : List Line → List Command
commands lines = map (λ (line : Line). line.command) lines

are_calls : (lines : List Line) → AreOfRole Owner lines → commands lines ≡ map Feedback (rooms_of lines)
are_calls [] h = refl
are_calls (line ∷ lines) h = by line.command h.0 (are_calls lines h.1)
  where
    by : (command : Command) → is_command_of Owner command ≡ true
        → commands lines ≡ map Feedback (rooms_of lines)
        → command ∷ commands lines ≡ map Feedback (cons_option (feedback_room command) (rooms_of lines))
    by (Feedback count) own e = rw e
    by _ own e = absurd cc

-- a record's lines are of their actors' roles, and an owner has no other command
pub returns : goal.returns
returns c = record {
  calls = λ r number text is_record is_text owner.
      are_calls (lines_by number r.lines)
      (rw owner at (its_lines r number text is_text r.lines is_record.commands));
}

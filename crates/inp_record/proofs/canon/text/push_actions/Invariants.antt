use Rattle.std.proofs.Common.{◌≡◌, ◌++◌, take, string_bytes}
use Rattle.std.specs.Prelude.{map}
use Rattle.inp_record.specs.canon.Words.{lines_text}
use Rattle.inp_record.specs.canon.Text.{action_words}
use Rattle.inp_record.proofs.canon.text.push_actions.Given as goal

-- the actions so far
abbrev pub invariant-loop-line : goal.invariant-loop-line
invariant-loop-line l =
    string_bytes l.text ≡ string_bytes l.initial.text
    ++ lines_text (map (action_words l.actors) (take l.line-index l.lines))

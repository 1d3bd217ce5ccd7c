use Rattle.std.proofs.Common.{◌≡◌, ◌++◌, take, string_bytes}
use Rattle.std.specs.List.{flat_map}
use Rattle.inp_record.specs.canon.Words.{lines_text}
use Rattle.inp_record.specs.canon.Text.{actor_lines}
use Rattle.inp_record.proofs.canon.text.push_actors.Given as goal

-- the actors so far
abbrev pub invariant-loop-actor : goal.invariant-loop-actor
invariant-loop-actor l =
    string_bytes l.text ≡ string_bytes l.initial.text
    ++ lines_text (flat_map (actor_lines l.device) (take l.actor-index l.actor-items))

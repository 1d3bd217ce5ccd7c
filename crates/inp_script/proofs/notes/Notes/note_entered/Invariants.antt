use Rattle.std.proofs.Common.{◌≡◌, ◌+◌, take, None}
use Rattle.inp_script.specs.Notes.{notes_after, entered_calls}
use Rattle.inp_script.proofs.notes.Notes.note_entered.Given as goal

-- but for why the job stopped, so much is noted
abbrev pub invariant-loop-stamped : goal.invariant-loop-stamped
invariant-loop-stamped l = record {
  place : l.at ≡ l.from + l.stamped-index;
  noted : (record l.self { stop = None }) ≡ notes_after (entered_calls l.from (take l.stamped-index l.events))
      (record l.initial.self { stop = None });
}

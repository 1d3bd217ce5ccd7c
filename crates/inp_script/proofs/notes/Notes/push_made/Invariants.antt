use Rattle.std.proofs.Common.{◌≡◌, ◌++◌, map, take}
use Rattle.inp_script.specs.Sight.{made_sight}
use Rattle.inp_script.proofs.notes.Notes.push_made.Given as goal

abbrev pub invariant-loop-call : goal.invariant-loop-call
invariant-loop-call l =
    l.self ≡ record l.initial.self {
      sight = l.initial.self.sight ++ map made_sight (take l.call-index l.made);
    }

use Rattle.std.proofs.Common.{◌≡◌, ◌++◌, take}
use Rattle.inp_reader.proofs.calls_made.CallsMade.add_all.Given as goal

abbrev pub invariant-loop-call : goal.invariant-loop-call
invariant-loop-call g l = l.self ≡ l.initial.self ++ take l.call-index l.calls

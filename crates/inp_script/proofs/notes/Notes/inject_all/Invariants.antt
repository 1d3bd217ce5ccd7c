use Rattle.std.proofs.Common.{length}
use Rattle.inp_script.proofs.Streams.{IsInjected}
use Rattle.inp_script.proofs.notes.Notes.inject_all.Given as goal

abbrev pub invariant-loop-rest : goal.invariant-loop-rest
invariant-loop-rest g l =
    IsInjected (g.E.Evdev.told l.initial.dev) (g.E.Evdev.told l.dev) l.stream l.rest l.initial.self l.self

abbrev pub decreases-loop-rest : goal.decreases-loop-rest
decreases-loop-rest g l = length l.rest

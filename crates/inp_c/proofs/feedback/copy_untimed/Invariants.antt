use Rattle.std.proofs.Common.{◌≡◌, ◌++◌, map, take, drop}
use Rattle.inp_c.specs.Told.{told_untimed}
use Rattle.inp_c.proofs.feedback.copy_untimed.Given as goal

abbrev pub invariant-loop-at : goal.invariant-loop-at
invariant-loop-at l = l.events ≡ map told_untimed (take l.at l.taken) ++ drop l.at l.initial.events

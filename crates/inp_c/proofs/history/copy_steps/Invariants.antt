use Rattle.std.proofs.Common.{◌≡◌, ◌++◌, map, take, drop}
use Rattle.inp_c.specs.ToldStep.{told_step}
use Rattle.inp_c.proofs.history.copy_steps.Given as goal

abbrev pub invariant-loop-at : goal.invariant-loop-at
invariant-loop-at l = l.steps ≡ map told_step (take l.at l.made) ++ drop l.at l.initial.steps

use Rattle.inp_runs.proofs.losses.Causes.{queued-caused, all_taken-caused}
use Rattle.inp_runs.proofs.laws.losses.Goals as goal

pub returns-clause-queued : goal.returns-clause-queued
returns-clause-queued c = queued-caused

-- each loss that a client took was in its queue before, with the same cause
pub returns-clause-taken : goal.returns-clause-taken
returns-clause-taken c = all_taken-caused

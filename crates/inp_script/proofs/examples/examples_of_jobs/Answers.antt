-- Each example computes.
use Rattle.std.proofs.Common.{refl}
use Rattle.inp_feedback.proofs.Computation.{computing as computing_feedback}
use Rattle.inp_script.proofs.examples.examples_of_jobs.Goals as goal

pub returns-clause-owner : goal.returns-clause-owner
unfolding computing_feedback
returns-clause-owner c = (
  record { answer = _; events = _; fed = (refl, refl, refl); noted = refl },
  record { answer = _; events = _; fed = (refl, refl, refl); noted = refl },
)

pub returns-clause-refused_owner : goal.returns-clause-refused_owner
unfolding computing_feedback
returns-clause-refused_owner c =
    (record { answer = _; events = _; fed = (refl, refl, refl); noted = refl }, (refl, refl))

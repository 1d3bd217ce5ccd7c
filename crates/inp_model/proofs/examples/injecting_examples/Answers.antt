-- Each example computes.
use Rattle.std.proofs.Common.{refl}
use Rattle.inp_model.proofs.examples.injecting_examples.Goals as goal

pub returns-clause-counts : goal.returns-clause-counts
returns-clause-counts c = (refl, refl, refl, refl, refl)

pub returns-clause-history : goal.returns-clause-history
returns-clause-history c = refl

pub returns-clause-calls : goal.returns-clause-calls
returns-clause-calls c = (refl, refl, refl, refl)

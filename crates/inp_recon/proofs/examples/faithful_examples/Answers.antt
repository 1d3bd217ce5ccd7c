-- Each example computes.
use Rattle.std.proofs.Common.{refl, arith}
use Rattle.inp_model.proofs.Descriptions.{IsDescription-one_key}
use Rattle.inp_recon.proofs.Computation.{computing}
use Rattle.inp_recon.proofs.examples.faithful_examples.Goals as goal

pub returns-clause-law : goal.returns-clause-law
unfolding computing
returns-clause-law c = (
  IsDescription-one_key,
  ((((((((((tt, refl), refl), refl), refl), refl), refl), refl), refl), refl)),
  _,
  refl,
  record { report = refl; frame = refl },
  record { synchronised = refl; behind = omega arith; undisturbed = refl },
)

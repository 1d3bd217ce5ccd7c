-- Each example computes.
use Rattle.std.proofs.Common.{refl, inl, arith}
use Rattle.inp_model.proofs.Descriptions.{IsDescription-one_key}
use Rattle.inp_model.proofs.Computation.{computing}
use Rattle.inp_model.proofs.examples.examples.Goals as goal

pub returns-clause-run : goal.returns-clause-run
unfolding computing
returns-clause-run c = (
  omega arith,
  record { within = omega arith; exact = inl refl; entered = λ h. refl },
  (
    omega arith,
    record { within = omega arith; exact = inl refl; entered = λ h. refl },
    (omega arith, record { within = omega arith; exact = inl refl; entered = λ h. absurd (cc h) }, tt),
  ),
)

pub returns-clause-keyboard : goal.returns-clause-keyboard
returns-clause-keyboard c = IsDescription-one_key

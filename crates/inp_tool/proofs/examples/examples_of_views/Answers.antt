-- Each row computes.
use Rattle.std.proofs.Common.{refl}
use Rattle.inp_recon.proofs.Computation.{computing}
use Rattle.inp_tool.proofs.examples.examples_of_views.Goals as goal

-- computed: behind a press, and the release that an inhibition makes, the views show the keys
pub returns-clause-follows : goal.returns-clause-follows
unfolding computing
returns-clause-follows c = (
  (_, _, refl, record { report = refl; frame = refl }, refl, refl, refl),
  (_, _, refl, record { report = refl; frame = refl }, refl, refl, refl),
  (_, _, refl, record { report = refl; frame = refl }, refl, refl, refl),
)

pub returns-clause-loss : goal.returns-clause-loss
unfolding computing
returns-clause-loss c = (
  refl,
  (_, _, refl, record { report = refl; frame = refl }, refl, refl, refl),
  refl,
  (_, _, refl, record { report = refl; frame = refl }, refl, refl, refl),
  (_, _, refl, record { report = refl; frame = refl }, refl, refl, refl),
  refl,
  (_, _, refl, record { report = refl; frame = refl }, refl, refl, refl),
  (_, _, refl, record { report = refl; frame = refl }, refl, refl, refl),
)

pub returns-clause-query : goal.returns-clause-query
unfolding computing
returns-clause-query c = (_, _, refl, record { report = refl; frame = refl }, refl, refl, refl)

pub returns-clause-grab : goal.returns-clause-grab
unfolding computing
returns-clause-grab c = (_, _, refl, record { report = refl; frame = refl }, refl, refl, refl)

pub returns-clause-mask : goal.returns-clause-mask
unfolding computing
returns-clause-mask c = (_, _, refl, record { report = refl; frame = refl }, refl, refl, refl)

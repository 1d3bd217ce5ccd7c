-- The law of holds.
use Rattle.inp_filter.proofs.HoldLaws.{eats-chord, eats-bounce}
use Rattle.inp_filter.proofs.laws.holds.Goals as goal

pub returns : goal.returns
returns c = record { whole = (eats-chord, eats-bounce) }

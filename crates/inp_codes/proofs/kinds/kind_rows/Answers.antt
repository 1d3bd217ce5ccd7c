use Rattle.std.proofs.Common.{nat_eq, eqb-true, refl}
use Rattle.inp_codes.proofs.ByNameLemmas.{AreRowsOf-tested, GiveOwnNumbers-tested}
use Rattle.inp_codes.proofs.Computation.{event_codes}
use Rattle.inp_codes.proofs.kinds.kind_rows.Goals as goal

-- the tests of the rows against the table compute
pub returns-clause-numbers : goal.returns-clause-numbers
unfolding event_codes
returns-clause-numbers c = AreRowsOf-tested nat_eq eqb-true _ _ refl refl

pub returns-clause-own : goal.returns-clause-own
unfolding event_codes
returns-clause-own c = GiveOwnNumbers-tested nat_eq eqb-true _ refl

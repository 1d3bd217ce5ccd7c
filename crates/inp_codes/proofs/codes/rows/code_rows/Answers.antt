use Rattle.std.proofs.Common.{refl}
use Rattle.inp_codes.specs.CodeNames.{is_same_code}
use Rattle.inp_codes.proofs.ByNameLemmas.{AreRowsOf-tested, GiveOwnNumbers-tested}
use Rattle.inp_codes.proofs.CodeNamesLemmas.{is_same_code-true}
use Rattle.inp_codes.proofs.Computation.{event_codes}
use Rattle.inp_codes.proofs.codes.rows.code_rows.Goals as goal

-- the tests of the rows against the table compute
pub returns-clause-numbers : goal.returns-clause-numbers
unfolding event_codes
returns-clause-numbers c = AreRowsOf-tested is_same_code is_same_code-true _ _ refl refl

pub returns-clause-own : goal.returns-clause-own
unfolding event_codes
returns-clause-own c = GiveOwnNumbers-tested is_same_code is_same_code-true _ refl

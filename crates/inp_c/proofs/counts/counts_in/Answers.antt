use Rattle.std.proofs.Common.{ap, Some}
use Rattle.inp_c.proofs.counts.counts_in.Goals as goal

-- the numbers are those of the kept record's parts
pub returns-clause-told : goal.returns-clause-told
returns-clause-told c = λ _. record {
  kept = c.in-Record.record;
  is = ap Some c.in-Record.is;
  counts_are = c.c_counts.ensures;
}

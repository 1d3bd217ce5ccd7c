-- The laws of rows.
use Rattle.inp_filter.proofs.RowLaws.{filter-let_through, let_through-no_filter, let_through-row}
use Rattle.inp_filter.proofs.laws.rows.Goals as goal

pub returns : goal.returns
returns c = record {
  syn = filter-let_through;
  none = let_through-no_filter;
  one_after_another = let_through-row;
}

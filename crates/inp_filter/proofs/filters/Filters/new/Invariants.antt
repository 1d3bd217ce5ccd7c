-- What is kept so far stands for the filters so far.
use Rattle.std.proofs.Common.{◌<◌, ◌≤◌, length, take, []}
use Rattle.inp_model.specs.declared.limits.TheConstants.{FILTERS_MAX}
use Rattle.inp_filter.specs.FilterState.{FiltersStandFor}
use Rattle.inp_filter.proofs.filters.Filters.new.Given as goal

abbrev pub invariant-loop-index : goal.invariant-loop-index
invariant-loop-index l = record {
  stands : FiltersStandFor (take l.index l.caps.filters) [] l.kept.items;
  few : 0 < l.index → length l.caps.filters ≤ FILTERS_MAX;
}

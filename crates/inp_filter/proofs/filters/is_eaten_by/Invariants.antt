-- What comes of the filters from this one on comes of all of them, or one of those before ate the event.
use Rattle.inp_model.specs.Filter.{timed}
use Rattle.inp_filter.proofs.Rows.{ComesSoFar}
use Rattle.inp_filter.proofs.filters.is_eaten_by.Given as goal

abbrev pub invariant-loop-filter : goal.invariant-loop-filter
invariant-loop-filter l =
    ComesSoFar (timed l.now l.event) l.initial.filters l.filters l.filter-index l.is_eaten

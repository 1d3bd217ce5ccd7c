-- Each filter takes the event, until one eats it.
use Rattle.std.proofs.Common.{arith}
use Rattle.inp_filter.specs.declared.filter_state.FilterState.{FilterState}
use Rattle.inp_filter.specs.declared.filter_state.FilterState.TheVariants.{Eat as EatState}
use Rattle.inp_model.specs.Filter.{timed}
use Rattle.inp_filter.proofs.Rows.{comes_so_far-more, comes_so_far-all}
use Rattle.inp_filter.proofs.filters.is_eaten_by.Goals as goal

-- what a read of a place gives where there is no filter
abbrev none : FilterState
none = EatState (record { kind = 0; code = 0 })

pub loop-filter-init : goal.loop-filter-init
loop-filter-init c = λ later eaten h. h

pub loop-filter-preserved : goal.loop-filter-preserved
loop-filter-preserved c =
    let here = c.loop-filter in
    let next = c.takes-is_eaten.ensures in
    comes_so_far-more (timed c.args.now c.args.event) c.args.filters.now here.filters here.filter-index none
    c.takes-is_eaten.new.self (omega arith) here.is_eaten c.takes-is_eaten.result here.invariant
    (record { eaten_is = next.eaten; kept = next.kept; eats = next.eats; stands = next.stands })

pub returns : goal.returns
returns c =
    let here = c.loop-filter in
    let all =
    comes_so_far-all (timed c.args.now c.args.event) c.args.filters.now here.filters here.filter-index
    here.is_eaten (omega arith) here.invariant in
    record { eaten = all.eaten_is; stands = all.stands }

use Rattle.std.proofs.Common.{sym, ap, ◌∙◌}
use Rattle.std.specs.List.{slice_get}
use Rattle.inp_model.specs.Description.{Description}
use Rattle.inp_caps.proofs.Filters.{filter-good, filter-none}
use Rattle.inp_caps.proofs.caps.Caps.filter.Goals as goal

pub returns-then-index-self-clause-good : goal.returns-then-index-self-clause-good
returns-then-index-self-clause-good c =
    filter-good c.self.inside.filters c.self.inside.filter_count c.args.index _ c.self.invariant.places
    c.self.invariant.in_use c.if-index-self.true c.self.invariant.description_is.filters.good

pub returns-else-index-self-clause-filter : goal.returns-else-index-self-clause-filter
returns-else-index-self-clause-filter c =
    sym
    (filter-none c.self.inside.filters c.self.inside.filter_count c.args.index c.self.invariant.places
    c.self.invariant.in_use c.if-index-self.false)
    ∙ ap (λ (d : Description). slice_get d.filters c.args.index) c.self.view_is

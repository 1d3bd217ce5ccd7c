use Rattle.std.proofs.Common.{◌≡◌, map, drop}
use Rattle.inp_c.specs.DescriptionOfC.{filter_call, with_calls}
use Rattle.inp_c.proofs.c_description.with_filters.Given as goal

abbrev pub invariant-loop-filter : goal.invariant-loop-filter
invariant-loop-filter l =
    with_calls l.builder (map filter_call (drop l.filter-index l.given))
    ≡ with_calls l.initial.builder (map filter_call l.given)

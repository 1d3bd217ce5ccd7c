-- As many are kept as there are.
use Rattle.std.proofs.Common.{◌≡◌, List, [], ◌∷◌, refl, length, arith}
use Rattle.std.specs.Prelude.{◌==◌}
use Rattle.std.proofs.lemmas.Bool.Decides.{nat_tests}
use Rattle.inp_model.specs.Queue.{is_empty}
use Rattle.inp_filter.specs.declared.filter_state.FilterState.{FilterState}
use Rattle.inp_filter.proofs.Rows.{FiltersStandFor-is_empty}
use Rattle.inp_filter.proofs.filters.Filters.is_empty.Goals as goal

-- there are none where there are 0
none_by_length : (states : List FilterState) → (length states == 0) ≡ is_empty states
none_by_length [] = refl
none_by_length (s ∷ states) = grind (arith, nat_tests)

pub returns : goal.returns
returns c = λ fs given h.
    rw (c.is_empty.ensures, c.self.inside.filters.ok.0, c.self.view_is, none_by_length c.args.self.now)
    (FiltersStandFor-is_empty fs given c.args.self.now h)

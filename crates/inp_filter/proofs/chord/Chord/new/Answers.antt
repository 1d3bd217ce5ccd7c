-- Before any event no key is down, and there is no hold.
use Rattle.std.proofs.Common.{refl}
use Rattle.inp_model.specs.Filter.{is_down, is_chorded}
use Rattle.inp_filter.proofs.chord.Chord.new.Goals as goal

pub returns : goal.returns
unfolding is_down
returns c =
    record {
      fresh =
          record { first_is = refl; down = refl; hold = c.new.ensures.fresh (is_chorded c.args.first) };
    }

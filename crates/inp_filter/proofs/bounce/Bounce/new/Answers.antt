-- Before any event there was no release, and there is no hold.
use Rattle.std.proofs.Common.{refl}
use Rattle.inp_model.specs.Filter.{last_release, is_bounced}
use Rattle.inp_filter.proofs.bounce.Bounce.new.Goals as goal

pub returns : goal.returns
unfolding last_release
returns c = record {
  fresh = record {
    micros_is = refl;
    released = refl;
    hold = c.new.ensures.fresh (is_bounced c.args.code c.args.micros);
  };
}

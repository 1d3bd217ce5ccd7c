-- What a sight tells of the index of its last event, computed.
use Rattle.std.proofs.Common.{refl}
use Rattle.inp_runs.specs.JobViews.{client_after_sight, read_after_sight}
use Rattle.inp_runs.proofs.laws.indices_on_a_short_sight.Goals as goal

-- each index is computed from its sight
pub returns : goal.returns
unfolding client_after_sight read_after_sight
returns c = record {
  counts = λ t. (refl, refl, refl, refl);
  apart = λ d history t. (refl, refl, refl, refl);
  own_client = λ t. (refl, refl);
}

-- A key before any event has no press.
use Rattle.std.proofs.Common.{refl}
use Rattle.inp_model.specs.Filter.{last_press}
use Rattle.inp_filter.proofs.hold.Hold.new.Goals as goal

pub returns : goal.returns
unfolding last_press
returns c = record { fresh = λ test. record { code_is = refl; eaten = refl } }

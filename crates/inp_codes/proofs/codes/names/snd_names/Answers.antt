use Rattle.std.proofs.Common.{refl}
use Rattle.inp_codes.proofs.Computation.{event_codes}
use Rattle.inp_codes.proofs.codes.names.snd_names.Goals as goal

-- the two lists compute to one
pub returns : goal.returns
unfolding event_codes
returns c = refl

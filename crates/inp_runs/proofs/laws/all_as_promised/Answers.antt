use Rattle.inp_runs.proofs.Played.{all-promised}
use Rattle.inp_runs.proofs.laws.all_as_promised.Goals as goal

-- what is promised of each device is promised of the record
pub returns : goal.returns
returns c = record { promised = all-promised }

use Rattle.inp_runs.proofs.Done.{device-promised}
use Rattle.inp_runs.proofs.laws.devices_done_are_promised.Goals as goal

-- what its actors did at their lines gives all that is promised of a device
pub returns : goal.returns
returns c = record { promised = device-promised }

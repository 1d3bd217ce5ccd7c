-- What comes of a record is promised.
use Rattle.inp_runs.proofs.order.Promised.{play-promised}
use Rattle.inp_runs.proofs.laws.each_play_is_promised.Goals as goal

-- lines done in file order leave each device with all that is promised of it
pub returns : goal.returns
returns c = record { promised = play-promised }

use Rattle.inp_record.proofs.RaisedPasts.{reads_again}
use Rattle.inp_tool.proofs.PlayedAlike.{plays_alike}
use Rattle.inp_tool.proofs.upgrade.upgrade.Goals as goal

pub returns-clause-reads_again : goal.returns-clause-reads_again
returns-clause-reads_again c = reads_again

pub returns-clause-plays_alike : goal.returns-clause-plays_alike
returns-clause-plays_alike c = plays_alike

use Rattle.inp_feedback.proofs.Few.{waits_of_all_sent}
use Rattle.inp_feedback.proofs.laws.waiting.Goals as goal

pub returns : goal.returns
returns c = record { all = waits_of_all_sent }

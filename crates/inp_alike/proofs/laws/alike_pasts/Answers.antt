-- The law, step by step.
use Rattle.inp_alike.proofs.Later.{later}
use Rattle.inp_alike.proofs.laws.alike_pasts.Goals as goal

pub returns : goal.returns
returns c = record { answers = later }

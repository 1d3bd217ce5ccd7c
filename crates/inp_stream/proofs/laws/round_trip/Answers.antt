use Rattle.inp_stream.proofs.Spelling.{one_spelling}
use Rattle.inp_stream.proofs.laws.round_trip.Goals as goal

pub returns-clause-one_spelling : goal.returns-clause-one_spelling
returns-clause-one_spelling c = one_spelling 8

pub returns-clause-one_spelling16 : goal.returns-clause-one_spelling16
returns-clause-one_spelling16 c = one_spelling 4

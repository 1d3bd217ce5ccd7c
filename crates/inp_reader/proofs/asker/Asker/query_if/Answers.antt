use Rattle.inp_reader.proofs.TalksInTurn.{says-unwanted}
use Rattle.inp_reader.proofs.asker.Asker.query_if.Goals as goal

pub returns-else-wanted-clause-says : goal.returns-else-wanted-clause-says
returns-else-wanted-clause-says g c =
    says-unwanted c.args.wanted c.args.step c.args.self.now.view c.if-wanted.false

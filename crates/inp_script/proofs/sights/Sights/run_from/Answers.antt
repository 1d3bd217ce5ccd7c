use Rattle.inp_script.specs.KeptSight.{sight_in}
use Rattle.inp_script.proofs.SightLists.{part-of}
use Rattle.inp_script.proofs.sights.Sights.run_from.Goals as goal

-- what is kept in one block stands for a part of what all stands for
pub returns-clause-run : goal.returns-clause-run
returns-clause-run c =
    rw (← c.self.view_is)
    (part-of (sight_in c.self.inside.calls) c.self.inside.kept c.run_from.result.now c.args.start
    c.run_from.ensures.run)

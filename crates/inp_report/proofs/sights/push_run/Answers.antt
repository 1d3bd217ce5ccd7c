use Rattle.inp_script.specs.SightRef.{sight_of}
use Rattle.inp_report.specs.Sights.{sight_line}
use Rattle.inp_report.proofs.SightCounts.{written-more}
use Rattle.inp_report.proofs.sights.push_run.Goals as goal

-- the line of the next entry is written behind those before it
pub loop-index-preserved : goal.loop-index-preserved
loop-index-preserved c =
    rw (c.in_ok-push_sight.ensures.pushed, c.loop-index.invariant)
    (written-more sight_line c.args.text.now c.args.run.now c.loop-index.index (sight_of c.get.result)
    c.get.ensures.item)

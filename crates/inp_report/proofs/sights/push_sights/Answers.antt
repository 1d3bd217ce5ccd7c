use Rattle.std.proofs.Common.{rules}
use Rattle.inp_report.specs.Sights.{sight_line}
use Rattle.inp_report.proofs.SightCounts.{written-part, ends-within}
use Rattle.inp_report.proofs.sights.push_sights.Goals as goal

-- the lines of the next block are written behind those before it
pub loop-start-preserved : goal.loop-start-preserved
loop-start-preserved c =
    let run = c.run_from-run.ensures.run in
    record {
      written =
          rw (c.in_ok-push_run.ensures.pushed, c.loop-start.invariant.written, c.len-start.ensures.length)
          (written-part sight_line c.args.text.now c.args.sights.now c.run_from-run.result c.loop-start.start
          run);
      within =
          rw c.len-start.ensures.length
          (ends-within c.args.sights.now c.run_from-run.result c.loop-start.start run (search rules));
    }

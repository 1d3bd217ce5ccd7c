use Rattle.std.proofs.Common.{rules}
use Rattle.inp_report.specs.Sights.{is_took, is_made, is_again_sight}
use Rattle.inp_report.proofs.SightCounts.{counted-part, ends-within}
use Rattle.inp_report.proofs.sights.sight_counts.Goals as goal

-- the next block adds the entries of each kind that it has
pub loop-start-preserved : goal.loop-start-preserved
loop-start-preserved c =
    let run = c.run_from-run.ensures.run in
    record {
      took =
          rw (c.counts_in-more.ensures.took, c.loop-start.invariant.took, c.len-start.ensures.length)
          (counted-part is_took c.args.sights.now c.run_from-run.result c.loop-start.start run);
      made =
          rw (c.counts_in-more.ensures.made, c.loop-start.invariant.made, c.len-start.ensures.length)
          (counted-part is_made c.args.sights.now c.run_from-run.result c.loop-start.start run);
      again =
          rw (c.counts_in-more.ensures.again, c.loop-start.invariant.again, c.len-start.ensures.length)
          (counted-part is_again_sight c.args.sights.now c.run_from-run.result c.loop-start.start run);
      within =
          rw c.len-start.ensures.length
          (ends-within c.args.sights.now c.run_from-run.result c.loop-start.start run (search rules));
    }

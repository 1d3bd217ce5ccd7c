use Rattle.std.proofs.Common.{rules}
use Rattle.inp_report.specs.Sights.{is_counted_call}
use Rattle.inp_report.proofs.SightCounts.{counted-part, ends-within}
use Rattle.inp_report.proofs.sights.counted_calls.Goals as goal

-- the next block adds the calls that it has
pub loop-start-preserved : goal.loop-start-preserved
loop-start-preserved c =
    let run = c.run_from-run.ensures.run in
    record {
      count =
          rw (c.counted_in-count.ensures.count, c.loop-start.invariant.count, c.len-start.ensures.length)
          (counted-part is_counted_call c.args.sights.now c.run_from-run.result c.loop-start.start run);
      within =
          rw c.len-start.ensures.length
          (ends-within c.args.sights.now c.run_from-run.result c.loop-start.start run (search rules));
    }

use Rattle.inp_report.proofs.Actors.{actor_within}
use Rattle.inp_texts.proofs.Written.{item_at}
use Rattle.inp_report.proofs.brief.push_run_brief.Goals as goal

pub push_job_brief-requires : goal.push_job_brief-requires
push_job_brief-requires c =
    let there =
    item_at c.as_slice-job-items.result.now c.args.run.now.jobs c.loop-job.job-index c.job-item.result
    c.as_slice-job-items.ensures.items c.loop-job-test.true c.job-item.is in
    record {
      actor =
          actor_within c.args.actors.now c.args.index c.args.run.now.jobs c.loop-job.job-index
          c.job-item.result
          c.requires.run.jobs there;
    }

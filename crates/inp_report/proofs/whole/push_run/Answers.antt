use Rattle.inp_report.proofs.Actors.{actor_within}
use Rattle.inp_texts.proofs.Written.{item_at}
use Rattle.inp_report.proofs.whole.push_run.Goals as goal

pub push_job-requires-clause-actor : goal.push_job-requires-clause-actor
push_job-requires-clause-actor c =
    let there =
    item_at c.as_slice-job-items.result.now c.args.run.now.jobs c.loop-job.job-index c.job-item.result
    c.as_slice-job-items.ensures.items c.loop-job-test.true c.job-item.is in
    actor_within c.args.actors.now c.args.index c.args.run.now.jobs c.loop-job.job-index c.job-item.result
    c.requires.run.jobs there

pub push_job-requires-clause-view : goal.push_job-requires-clause-view
push_job-requires-clause-view c =
    c.requires.run.views c.loop-job.job-index c.job-item.result
    (item_at c.as_slice-job-items.result.now c.args.run.now.jobs c.loop-job.job-index c.job-item.result
    c.as_slice-job-items.ensures.items c.loop-job-test.true c.job-item.is)

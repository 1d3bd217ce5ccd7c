use Rattle.std.proofs.Common.{List, length, ap, arith}
use Rattle.inp_actors.specs.declared.actor_text.ActorText.{ActorText}
use Rattle.inp_report.specs.Report.{part_text, run_text, report}
use Rattle.inp_texts.proofs.Written.{zipped_all}
use Rattle.inp_report.proofs.Runs.{run_of, run_more}
use Rattle.inp_report.proofs.whole.push_runs.Goals as goal

pub push_run-requires : goal.push_run-requires
push_run-requires c = record {
  run = run_of c.args.rec.now c.args.runs.now _ _ _ c.loop-index.index _ _
      c.actors.ensures.actors c.devices.ensures.devices c.as_slice-run-items.ensures.items
      c.get-device.ensures.item c.loop-index-test.true c.run-item.is c.requires.runs;
}

-- the next device's part of the report is written behind those before it
pub loop-index-preserved : goal.loop-index-preserved
loop-index-preserved c =
    run_more c.args.rec.now c.args.runs.now _ _ _ c.loop-index.index _ _
    c.actors.ensures.actors c.devices.ensures.devices c.as_slice-run-items.ensures.items
    c.get-device.ensures.item c.loop-index-test.true c.run-item.is
    (λ (them : List ActorText). run_text them c.args.history part_text) _ _ _
    c.loop-index.invariant c.in_ok-push_run.ensures.pushed

-- there are as many runs as devices, and all are written
pub returns : goal.returns
unfolding report
returns c = record {
  pushed =
      zipped_all (run_text c.args.rec.now.actors c.args.history part_text) c.args.rec.now.devices
      c.args.runs.now _ _
      c.loop-index.index (omega (arith, ap length c.as_slice-run-items.ensures.items)) c.loop-index.invariant;
}

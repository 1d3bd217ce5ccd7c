use Rattle.std.proofs.Common.{List, false, length, ap, arith}
use Rattle.inp_model.specs.Description.{Description}
use Rattle.inp_actors.specs.declared.actor_text.ActorText.{ActorText}
use Rattle.inp_report.specs.Report.{run_text}
use Rattle.inp_report.specs.Summary.{brief_line}
use Rattle.inp_texts.proofs.Written.{zipped_all}
use Rattle.inp_report.proofs.Runs.{run_of, run_more}
use Rattle.inp_report.proofs.brief.push_briefs.Goals as goal

pub push_run_brief-requires : goal.push_run_brief-requires
push_run_brief-requires c = record {
  run = run_of c.args.rec.now c.args.runs.now _ _ _ c.loop-index.index _ _
      c.actors.ensures.actors c.devices.ensures.devices c.as_slice-run-items.ensures.items
      c.get-device.ensures.item c.loop-index-test.true c.run-item.is c.requires.runs;
}

-- the next device with its run is written behind those before it
pub loop-index-preserved : goal.loop-index-preserved
loop-index-preserved c =
    run_more c.args.rec.now c.args.runs.now _ _ _ c.loop-index.index _ _
    c.actors.ensures.actors c.devices.ensures.devices c.as_slice-run-items.ensures.items
    c.get-device.ensures.item c.loop-index-test.true c.run-item.is
    (λ (them : List ActorText). run_text them false (λ (d : Description). brief_line)) _ _ _
    c.loop-index.invariant c.in_ok-push_run_brief.ensures.pushed

-- there are as many runs as devices, and all are written
pub returns : goal.returns
returns c = record {
  pushed =
      zipped_all (run_text c.args.rec.now.actors false (λ (d : Description). brief_line))
      c.args.rec.now.devices c.args.runs.now _ _
      c.loop-index.index (omega (arith, ap length c.as_slice-run-items.ensures.items)) c.loop-index.invariant;
}

use Rattle.inp_report.specs.Report.{step_line}
use Rattle.inp_texts.proofs.Written.{enumerated_more, enumerated_all}
use Rattle.inp_report.proofs.whole.push_history.Goals as goal

pub loop-place-preserved : goal.loop-place-preserved
loop-place-preserved c =
    enumerated_more step_line c.args.history.now _ _ _ c.loop-place.place _ c.loop-place-test.true
    c.loop-place.invariant c.in_ok-push_step.ensures.pushed

-- no step is left, so all lines of the history are written
pub returns : goal.returns
returns c =
    record {
      pushed =
          enumerated_all step_line c.args.history.now _ _ c.loop-place.place c.loop-place-test.false
          c.loop-place.invariant;
    }

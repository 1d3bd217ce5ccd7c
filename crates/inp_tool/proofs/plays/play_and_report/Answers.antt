use Rattle.inp_runs.proofs.Results.{promised-runs, promised-joys, promised-owners}
use Rattle.inp_tool.proofs.plays.play_and_report.Goals as goal

-- the result that was promised has the runs, the joysticks and the owners of the record
pub whole_report-requires-clause-runs : goal.whole_report-requires-clause-runs
whole_report-requires-clause-runs g c =
    promised-runs c.args.idle c.args.recorded.now c.in_ok-played.played c.in_ok-played.ensures.came.promised

pub whole_report-requires-clause-joys : goal.whole_report-requires-clause-joys
whole_report-requires-clause-joys g c =
    promised-joys c.args.idle c.args.recorded.now c.in_ok-played.played c.in_ok-played.ensures.came.promised

pub whole_report-requires-clause-owners : goal.whole_report-requires-clause-owners
whole_report-requires-clause-owners g c =
    promised-owners c.args.idle c.args.recorded.now c.in_ok-played.played
    c.in_ok-played.ensures.came.promised

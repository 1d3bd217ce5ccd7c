use Rattle.std.proofs.Common.{None}
use Rattle.inp_runs.proofs.Results.{promised-runs, promised-joys, promised-owners}
use Rattle.inp_c.proofs.made_text.report_of.Goals as goal

-- the result that was promised has the runs, the joysticks and the owners of the record
pub whole_report-requires : goal.whole_report-requires
whole_report-requires c = record {
  runs = promised-runs None c.args.recorded.now c.in_ok-played.played c.in_ok-played.ensures.promised;
  joys = promised-joys None c.args.recorded.now c.in_ok-played.played c.in_ok-played.ensures.promised;
  owners = promised-owners None c.args.recorded.now c.in_ok-played.played c.in_ok-played.ensures.promised;
}

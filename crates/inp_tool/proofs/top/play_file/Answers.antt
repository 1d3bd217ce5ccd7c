use Rattle.std.proofs.Common.{refl, inr}
use Rattle.inp_args.specs.declared.request.Request.TheVariants.{Play}
use Rattle.inp_tool.proofs.Records.{ran_out_after}
use Rattle.inp_tool.proofs.Faults.{names_file}
use Rattle.inp_tool.proofs.top.play_file.Goals as goal

pub returns-in-Ok-play_and_report-clause-cause : goal.returns-in-Ok-play_and_report-clause-cause
returns-in-Ok-play_and_report-clause-cause g c = λ words asked. record {
  request = Play c.args.file.now c.args.history c.args.idle;
  asked = asked;
  recorded = c.in-Ok.recorded;
  had = c.in-Ok.ensures.read;
  untouched = λ none. absurd cc;
  answer = (c.in-Ok-play_and_report.ensures.came, c.in-Ok-play_and_report.ensures.text);
}

pub returns-in-Ok-clause-cause : goal.returns-in-Ok-clause-cause
returns-in-Ok-clause-cause g c = λ words asked. inr (ran_out_after _ _ _ c.in-Ok.ensures.read)

pub returns-clause-cause : goal.returns-clause-cause
returns-clause-cause g c =
    λ words asked. c.without_record.ensures.cause words _ _
    (names_file words (Play c.args.file.now c.args.history c.args.idle) c.args.file.now asked refl)
    c.in-Err.ensures.read

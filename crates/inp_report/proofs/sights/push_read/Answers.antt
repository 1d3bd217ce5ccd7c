use Rattle.std.proofs.lemmas.Result.{on_ok_weaker}
use Rattle.inp_report.specs.Steps.{step_text}
use Rattle.inp_report.specs.Replies.{reply_text}
use Rattle.inp_report.specs.Sights.{sight_line}
use Rattle.inp_report.proofs.ReadLine.{read-line}
use Rattle.inp_report.proofs.sights.push_read.Goals as goal

-- the five pieces are the words of the call and of its reply
pub returns : goal.returns
unfolding sight_line step_text reply_text
returns c = record {
  pushed = on_ok_weaker c.push_str.result
      (read-line c.args.text.now c.push_numbered.new.text c.push_numbered-2.new.text
      c.push_numbered-3.new.text c.push_numbered-4.new.text c.push_str.new.self
      c.args.client c.args.most c.args.at c.args.count
      c.from.result c.from-2.result c.from-3.result c.from-4.result
      c.from.ensures c.from-2.ensures c.from-3.ensures c.from-4.ensures
      c.in_ok-push_numbered.ensures.pushed c.in_ok-push_numbered-2.ensures.pushed
      c.in_ok-push_numbered-3.ensures.pushed c.in_ok-push_numbered-4.ensures.pushed)
      c.push_str.ensures.pushed;
}

use Rattle.std.proofs.Common.{refl, sym}
use Rattle.inp_record.specs.canon.Text.{action_words}
use Rattle.inp_texts.proofs.Written.{item_at}
use Rattle.inp_record.proofs.Written.{line_more, line_all}
use Rattle.inp_record.proofs.canon.text.push_actions.Goals as goal

pub push_action-requires : goal.push_action-requires
push_action-requires c =
    record {
      actor = c.requires.actors c.loop-line.line-index c.line-item.result
          (item_at c.args.lines.now c.args.lines.now c.loop-line.line-index c.line-item.result refl
          c.loop-line-test.true c.line-item.is);
    }

-- the words of the next line stand behind those before it
pub loop-line-preserved : goal.loop-line-preserved
loop-line-preserved c =
    line_more (action_words c.args.actors.now) c.args.lines.now _ _ _ c.loop-line.line-index
    c.line-item.result c.loop-line-test.true
    (sym c.line-item.is) c.loop-line.invariant c.in_ok-push_action.ensures.pushed

-- all lines of actions were gone through
pub returns : goal.returns
returns c =
    record {
      pushed =
          line_all (action_words c.args.actors.now) c.args.lines.now _ _ c.loop-line.line-index
          c.loop-line-test.false c.loop-line.invariant;
    }

use Rattle.std.proofs.Common.{◌-◌, arith}
use Rattle.std.specs.Prelude.{pos, slice_index_or}
use Rattle.inp_texts.proofs.Written.{written_more}
use Rattle.inp_report.specs.Entries.{axis_entry}
use Rattle.inp_report.proofs.Entries.{entries-all}
use Rattle.inp_report.proofs.views.push_axis_entries.Goals as goal

-- what is written of the next axis is behind what was written of those before it
pub loop-code-preserved : goal.loop-code-preserved
loop-code-preserved c =
    written_more (axis_entry c.args.caps.now (λ code. slice_index_or c.args.axes.now code (pos 0)))
    c.args.first _ _ _ c.loop-code.code
    (omega arith) c.loop-code.invariant c.in_ok-push_axis_entry.ensures.pushed

-- all codes were gone through
pub returns : goal.returns
returns c =
    record {
      pushed =
          entries-all c.args.caps.now (λ code. slice_index_or c.args.axes.now code (pos 0)) c.args.first _ _
          c.loop-code.code (c.args.end - c.args.first) (omega arith) c.loop-code.invariant;
    }

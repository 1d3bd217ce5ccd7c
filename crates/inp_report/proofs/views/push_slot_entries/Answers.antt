use Rattle.std.proofs.Common.{arith}
use Rattle.inp_recon.specs.Cells.{cell_of}
use Rattle.inp_texts.proofs.Written.{written_more}
use Rattle.inp_report.specs.Entries.{axis_entry}
use Rattle.inp_report.proofs.Entries.{entries-all}
use Rattle.inp_report.proofs.views.push_slot_entries.Goals as goal

-- what is written of the slot's next axis is behind what was written of those before it
pub loop-code-preserved : goal.loop-code-preserved
loop-code-preserved c =
    written_more (axis_entry c.args.caps.now (cell_of c.args.cells.now c.args.slot)) 48 _ _ _ c.loop-code.code
    (omega arith) c.loop-code.invariant c.in_ok-push_slot_entry.ensures.pushed

-- all 14 axes of a slot were gone through
pub returns : goal.returns
returns c =
    record {
      pushed =
          entries-all c.args.caps.now (cell_of c.args.cells.now c.args.slot) 48 _ _ c.loop-code.code 14
          (omega arith) c.loop-code.invariant;
    }

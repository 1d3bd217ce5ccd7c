use Rattle.std.proofs.Common.{arith}
use Rattle.inp_report.specs.Views.{slot_line}
use Rattle.inp_texts.proofs.Written.{written_more, written_all}
use Rattle.inp_report.proofs.views.push_slot_lines.Goals as goal

-- the line of the next slot is written behind those before it
pub loop-slot-preserved : goal.loop-slot-preserved
loop-slot-preserved c =
    written_more (slot_line c.args.caps.now c.args.cells.now) 0 _ _ _ c.loop-slot.slot
    (omega arith) c.loop-slot.invariant c.in_ok-push_slot_line.ensures.pushed

-- all slots of the device were gone through
pub returns : goal.returns
returns c =
    record {
      pushed =
          written_all (slot_line c.args.caps.now c.args.cells.now) 0 _ _ c.loop-slot.slot
          c.args.caps.now.slots
          (omega arith) c.loop-slot.invariant;
    }

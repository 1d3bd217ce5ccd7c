use Rattle.std.proofs.Common.{arith}
use Rattle.inp_record.specs.canon.Device.{axis_lines, axes_lines}
use Rattle.inp_record.proofs.Written.{numbers_more, numbers_all}
use Rattle.inp_record.proofs.canon.devices.push_axes.Goals as goal

-- what is written of the next axis stands behind what was written of those before it
pub loop-code-preserved : goal.loop-code-preserved
loop-code-preserved c =
    numbers_more (axis_lines c.args.caps.now) 0 _ _ _ c.loop-code.code
    (omega arith) c.loop-code.invariant c.in_ok-push_axis.ensures.pushed

-- all 64 axes were gone through
pub returns : goal.returns
unfolding axes_lines
returns c =
    record {
      pushed =
          numbers_all (axis_lines c.args.caps.now) 0 _ _ c.loop-code.code 64
          (omega arith) c.loop-code.invariant;
    }

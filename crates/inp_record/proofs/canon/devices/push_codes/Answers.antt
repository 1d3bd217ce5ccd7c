use Rattle.std.proofs.Common.{arith}
use Rattle.inp_record.specs.canon.Device.{code_lines, codes_lines}
use Rattle.inp_record.proofs.Written.{numbers_more, numbers_all}
use Rattle.inp_record.proofs.canon.devices.push_codes.Goals as goal

-- what is written of the next code stands behind what was written of those before it
pub loop-code-preserved : goal.loop-code-preserved
loop-code-preserved c =
    numbers_more (code_lines c.args.caps.now c.args.kind) 0 _ _ _ c.loop-code.code
    (omega arith) c.loop-code.invariant c.in_ok-push_code.ensures.pushed

-- all 768 codes were gone through
pub returns : goal.returns
unfolding codes_lines
returns c =
    record {
      pushed =
          numbers_all (code_lines c.args.caps.now c.args.kind) 0 _ _ c.loop-code.code 768
          (omega arith) c.loop-code.invariant;
    }

use Rattle.std.proofs.Common.{arith}
use Rattle.inp_record.specs.canon.Device.{kind_lines, kinds_lines}
use Rattle.inp_record.proofs.Written.{numbers_more, numbers_all}
use Rattle.inp_record.proofs.canon.devices.push_kinds.Goals as goal

-- what is written of the next type stands behind what was written of those before it
pub loop-kind-preserved : goal.loop-kind-preserved
loop-kind-preserved c =
    numbers_more (kind_lines c.args.caps.now) 1 _ _ _ c.loop-kind.kind
    (omega arith) c.loop-kind.invariant c.in_ok-push_kind.ensures.pushed

-- all types from 1 to 31 were gone through
pub returns : goal.returns
unfolding kinds_lines
returns c =
    record {
      pushed =
          numbers_all (kind_lines c.args.caps.now) 1 _ _ c.loop-kind.kind 31
          (omega arith) c.loop-kind.invariant;
    }

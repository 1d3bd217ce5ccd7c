use Rattle.std.proofs.Common.{get_or}
use Rattle.std.proofs.lemmas.List.{get_or_default}
use Rattle.inp_record.specs.canon.Device.{coded_kinds, codes_lines, caps_lines}
use Rattle.inp_record.proofs.Written.{each_more, each_all}
use Rattle.inp_record.proofs.canon.devices.push_caps.Goals as goal

-- the lines of the next type's codes stand behind those of the types before it
pub loop-kind-preserved : goal.loop-kind-preserved
loop-kind-preserved c =
    let at = c.loop-kind.kind-index in
    each_more (codes_lines c.args.caps.now) coded_kinds _ _ _ at (get_or coded_kinds at 0)
    c.loop-kind-test.true (get_or_default coded_kinds at (get_or coded_kinds at 0) 0 c.loop-kind-test.true)
    c.loop-kind.invariant c.in_ok-push_codes.ensures.pushed

-- all types that have codes were gone through
pub returns : goal.returns
unfolding caps_lines
returns c =
    record {
      pushed =
          each_all (codes_lines c.args.caps.now) coded_kinds _ _ c.loop-kind.kind-index c.loop-kind-test.false
          c.loop-kind.invariant;
    }

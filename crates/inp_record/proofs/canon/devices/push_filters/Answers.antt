use Rattle.std.proofs.Common.{arith}
use Rattle.inp_record.specs.canon.Device.{filter_words, filters_lines}
use Rattle.inp_record.proofs.Written.{line_all}
use Rattle.inp_record.proofs.Filters.{filter_more}
use Rattle.inp_record.proofs.canon.devices.push_filters.Goals as goal

-- the line of the next filter stands behind those before it
pub loop-index-preserved : goal.loop-index-preserved
loop-index-preserved c = record {
  written =
      filter_more c.args.caps.now.filters _ _ _ c.loop-index.index c.loop-index.invariant.written
      c.in_ok-push_filter_at.ensures.pushed;
  few = λ h. c.push_filter_at.ensures.few;
}

-- all filters were gone through
pub returns : goal.returns
unfolding filters_lines
returns c =
    record {
      pushed =
          line_all filter_words c.args.caps.now.filters _ _ c.loop-index.index
          (omega (arith, c.loop-index.invariant.few (omega arith))) c.loop-index.invariant.written;
    }

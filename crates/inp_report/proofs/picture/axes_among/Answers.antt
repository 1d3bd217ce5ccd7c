use Rattle.std.proofs.Common.{sym, ◌∙◌, arith}
use Rattle.inp_report.proofs.AxisCounts.{count-none, count-more, count-skip}
use Rattle.inp_report.proofs.picture.axes_among.Goals as goal
use Rattle.inp_report.proofs.picture.axes_among.Goals.{then-supports, else-supports}

-- before the first code no axis was counted
pub loop-code-init : goal.loop-code-init
loop-code-init c = record { count = count-none c.args.caps.now c.args.first; few = omega arith }

-- a supported code is counted and another one is not, so there are at most as many as codes
pub loop-code-preserved : goal.loop-code-preserved
loop-code-preserved c = record {
  count =
      elim c.if-supports.branch [
        | then-supports w ↦ w.count-is
            ∙ count-more c.args.caps.now c.args.first c.loop-code.code c.loop-code.count c.loop-code.auto.code
            (sym w.if-supports.true ∙ c.supports.ensures.supported) c.loop-code.invariant.count
        | else-supports w ↦ w.count-is
            ∙ count-skip c.args.caps.now c.args.first c.loop-code.code c.loop-code.count c.loop-code.auto.code
            (sym w.if-supports.false ∙ c.supports.ensures.supported) c.loop-code.invariant.count
      ];
  few =
      elim c.if-supports.branch [
        | then-supports w ↦ omega (arith, w.count-is, c.loop-code.auto.code, c.loop-code.invariant.few)
        | else-supports w ↦ omega (arith, w.count-is, c.loop-code.auto.code, c.loop-code.invariant.few)
      ];
}

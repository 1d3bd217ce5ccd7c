use Rattle.std.proofs.Common.{sym, ◌∙◌}
use Rattle.inp_script.specs.SightRef.{sight_of}
use Rattle.inp_report.specs.Sights.{is_counted_call}
use Rattle.inp_report.proofs.SightCounts.{counted-yes, counted-no}
use Rattle.inp_report.proofs.sights.counted_in.Goals.{then-is_counted_call, else-is_counted_call}
use Rattle.inp_report.proofs.sights.counted_in.Goals as goal

-- an entry that is a counted call adds one, and another one leaves the count
pub loop-index-preserved : goal.loop-index-preserved
loop-index-preserved c =
    let entries = c.args.run.now in
    let index = c.loop-index.index in
    let before = c.loop-index.invariant in
    elim c.if-is_counted_call.branch [
      | then-is_counted_call w ↦
          w.count-is ∙ counted-yes is_counted_call entries index (sight_of c.get.result) c.loop-index.count
          (sym c.is_counted_call.ensures.counted ∙ w.if-is_counted_call.true) c.get.ensures.item before
      | else-is_counted_call w ↦
          w.count-is ∙ counted-no is_counted_call entries index (sight_of c.get.result) c.loop-index.count
          (sym c.is_counted_call.ensures.counted ∙ w.if-is_counted_call.false) c.get.ensures.item before
    ]

use Rattle.std.proofs.Common.{◌≡◌, ◌<◌, ◌+◌, ◌-◌, true, false, length, get_or, None, sym, arith}
use Rattle.std.proofs.lemmas.List.{length-map, get_or-map}
use Rattle.inp_model.specs.Event.{is_report}
use Rattle.inp_ring.specs.Store.{event_of_cell}
use Rattle.inp_ring.specs.Ring.{cell_at, some_cell, queue_in}
use Rattle.inp_ring.proofs.Counts.{visible_at_report, visible_at_other}
use Rattle.inp_ring.proofs.ring.Ring.visible.Goals as goal
use Rattle.inp_ring.proofs.ring.Ring.visible.Goals.{then-loop-count-test+else-not-is_report_at}
use Rattle.inp_ring.proofs.ring.Ring.visible.Goals.{else-loop-count-test}

pub loop-count-preserved : goal.loop-count-preserved
loop-count-preserved c =
    let q = c.args.self.now.numbers in
    let s = c.args.store.now in
    let at = c.loop-count.count - 1 in
    let some = c.loop-count-test.true in
    let within : at < length q = omega arith in
    let next : at + 1 ≡ c.loop-count.count = omega arith in
    let other : is_report (event_of_cell (get_or (queue_in s q) at (some_cell None))) ≡ false =
    rw (
      get_or-map (cell_at s) q at 0 (some_cell None) within,
      ← c.is_report_at.ensures.report,
    ) c.if-not-is_report_at.true in (
      omega arith,
      rw (next, ← c.loop-count.invariant.1) at (visible_at_other (queue_in s q) at (some_cell None)
          (omega (arith, length-map q (cell_at s))) other),
    )

pub returns-clause-visible : goal.returns-clause-visible
returns-clause-visible c =
    let q = c.args.self.now.numbers in
    let s = c.args.store.now in
    elim c.loop-count-test.branch [
      | then-loop-count-test+else-not-is_report_at w ↦
          let at = c.loop-count.count - 1 in
          let some = w.loop-count-test.true in
          let within : at < length q = omega arith in
          let next : at + 1 ≡ c.loop-count.count = omega arith in
          let report : is_report (event_of_cell (get_or (queue_in s q) at (some_cell None))) ≡ true =
          rw (
            get_or-map (cell_at s) q at 0 (some_cell None) within,
            ← w.is_report_at.ensures.report,
          ) w.if-not-is_report_at.false in
          sym
          (rw (
            c.loop-count.invariant.1,
            ← next,
            visible_at_report (queue_in s q) at (some_cell None)
                (omega (arith, length-map q (cell_at s))) report,
            next,
          ))
      | else-loop-count-test w ↦
          let none : c.loop-count.count ≡ 0 = omega (arith, w.loop-count-test.false) in
          sym (rw (c.loop-count.invariant.1, none, sym none))
    ]

use Rattle.std.proofs.Common.{◌<◌, ◌+◌, ◌∙◌, true, false, length, sym, arith}
use Rattle.std.proofs.lemmas.Bool.Decides.{nat_tests}
use Rattle.inp_reader.proofs.Runs.{run-more, run-lost, run-full, run-whole, run-length, at-index}
use Rattle.inp_reader.proofs.run.run_len.Goals as goal

pub returns-then-is_dropped-clause-run : goal.returns-then-is_dropped-clause-run
returns-then-is_dropped-clause-run c =
    run-lost c.args.most c.loop-taken.count c.args.queue.now _ (let h =
    c.if-count-most.false in grind (arith, nat_tests, h, c.loop-taken.invariant.few))
    (omega (arith, c.loop-taken-test.true, c.loop-taken.invariant.count))
    (at-index c.loop-taken.count c.loop-taken.taken-index c.args.queue.now _ true c.loop-taken.invariant.count
    (sym c.is_dropped.ensures ∙ c.if-is_dropped.true)) c.loop-taken.invariant.run

pub returns-then-is_dropped-clause-len : goal.returns-then-is_dropped-clause-len
returns-then-is_dropped-clause-len c =
    run-length c.args.most (c.loop-taken.count + 1) c.args.queue.now
    (omega (arith, c.loop-taken-test.true, c.loop-taken.invariant.count))
    (returns-then-is_dropped-clause-run c)

-- the run goes on by an event that tells of no loss
pub loop-taken-preserved : goal.loop-taken-preserved
loop-taken-preserved c =
    let few : c.loop-taken.count < c.args.most = let h =
    c.if-count-most.false in grind (arith, nat_tests, h, c.loop-taken.invariant.few) in
    let within : c.loop-taken.count < length c.args.queue.now =
    omega (arith, c.loop-taken-test.true, c.loop-taken.invariant.count) in
    let kept =
    at-index c.loop-taken.count c.loop-taken.taken-index c.args.queue.now _ false c.loop-taken.invariant.count
    (sym c.is_dropped.ensures ∙ c.if-is_dropped.false) in
    record {
      count = rw c.loop-taken.invariant.count;
      few = omega (arith, few);
      within = omega (arith, within);
      run =
          run-more c.args.most c.loop-taken.count c.args.queue.now _ few within kept
          c.loop-taken.invariant.run;
    }

pub returns-after-loop-taken-clause-run : goal.returns-after-loop-taken-clause-run
returns-after-loop-taken-clause-run c =
    run-whole c.args.most c.loop-taken.count c.args.queue.now
    (omega (arith, c.loop-taken-test.false, c.loop-taken.invariant.count, c.loop-taken.invariant.within))
    c.loop-taken.invariant.run

pub returns-after-loop-taken-clause-len : goal.returns-after-loop-taken-clause-len
returns-after-loop-taken-clause-len c =
    run-length c.args.most c.loop-taken.count c.args.queue.now c.loop-taken.invariant.within
    (returns-after-loop-taken-clause-run c)

pub returns-then-count-most-clause-run : goal.returns-then-count-most-clause-run
returns-then-count-most-clause-run c =
    run-full c.args.most c.loop-taken.count c.args.queue.now (let h =
    c.if-count-most.true in grind (arith, nat_tests, h)) c.loop-taken.invariant.run

pub returns-then-count-most-clause-len : goal.returns-then-count-most-clause-len
returns-then-count-most-clause-len c =
    run-length c.args.most c.loop-taken.count c.args.queue.now c.loop-taken.invariant.within
    (returns-then-count-most-clause-run c)

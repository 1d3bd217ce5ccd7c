use Rattle.std.proofs.Common.{◌≤◌, length, arith, ap, IfOk}
use Rattle.std.proofs.lemmas.Result.{IfOk-weaker}
use Rattle.inp_runs.specs.Play.{IsPlay}
use Rattle.inp_play.proofs.PlayerSteps.{done-none, done-more, done-all}
use Rattle.inp_runs.proofs.order.Promised.{promised-if_ok}
use Rattle.inp_play.proofs.one_thread.play.Goals as goal

-- before the first line none is done
pub loop-line-init : goal.loop-line-init
loop-line-init c =
    done-none c.args.rec.now c.in_ok-player.player c.in_ok-player.ensures.player c.in_ok-player.ensures.stage

-- the lines just done follow those done before
pub loop-line-preserved : goal.loop-line-preserved
loop-line-preserved c =
    done-more c.args.rec.now c.loop-line.line c.in_ok-line.field-0 c.loop-line.player
    c.lines-in-loop-line.new.self c.loop-line.invariant c.in_ok-line.ensures.done c.in_ok-line.ensures.player

-- at the end all lines are done, and what was gathered is the play
pub returns : goal.returns
returns c =
    let few = ap length c.lines.ensures.lines in
    let all : length c.args.rec.now.lines ≤ c.loop-line.line =
    omega (arith, c.loop-line-test.false, c.len-count.ensures.length, few) in
    let in_order : IfOk c.finish.result (IsPlay c.args.rec.now) =
    IfOk-weaker c.finish.result _ (IsPlay c.args.rec.now)
    (λ played h. done-all c.args.rec.now c.loop-line.line c.loop-line.player played c.loop-line.invariant all
    h) c.finish.ensures.played in
    record {
      played = in_order;
      promised =
          promised-if_ok c.args.rec.now c.finish.result c.lines.ensures.«record»
          c.in_ok-player.ensures.described in_order;
    }

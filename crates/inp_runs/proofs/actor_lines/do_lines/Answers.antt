use Rattle.std.proofs.Common.{◌≡◌, take, refl, sym, ap, ◌∙◌, arith, take-add}
use Rattle.inp_runs.proofs.Common.{take_all, is_owner, ActorView, OwnerState, lines_by}
use Rattle.std.proofs.lemmas.Result.{on_ok_weaker}
use Rattle.inp_runs.proofs.DoingAll.{acted_on-none, acted_on-next, acted_on-described, done-none, done-more}
use Rattle.inp_runs.proofs.DoingAll.{done-all, own-count}
use Rattle.inp_runs.proofs.actor_lines.do_lines.Goals as goal

pub loop-from-init : goal.loop-from-init
loop-from-init g c = record {
  within = omega arith;
  done = done-none g.D.Evdev.told g.D.Feeds.feeds c.args.rec.now c.args.wait _ _;
  actor = refl;
  left = acted_on-none g.D.Evdev.told g.D.Feeds.feeds _ _;
}

pub do_some-requires-clause-device : goal.do_some-requires-clause-device
do_some-requires-clause-device g c = λ caller.
    let here = ap (λ (a : ActorView). a.role) c.loop-from.invariant.actor in
    acted_on-described g.D.Evdev.told g.D.Feeds.feeds _ _ _ c.loop-from.invariant.left
    (ap is_owner (sym here) ∙ caller)
    ∙ c.requires.device (ap is_owner (sym here) ∙ caller)
    ∙ sym (rw c.loop-from.invariant.actor)

pub returns-in_err-from-clause-left : goal.returns-in_err-from-clause-left
returns-in_err-from-clause-left g c =
    acted_on-next g.D.Evdev.told g.D.Feeds.feeds _ _ _ _ _
    (rw c.loop-from.invariant.actor) c.loop-from.invariant.left c.do_some.ensures.left

pub loop-from-preserved : goal.loop-from-preserved
loop-from-preserved g c =
    let own = lines_by c.args.number c.args.rec.now.lines in
    record {
      within = c.in_ok-from.ensures.within;
      done =
          rw take-add
          (done-more g.D.Evdev.told g.D.Feeds.feeds c.args.rec.now c.args.wait _ _ _ _ _ _ _ _
          c.loop-from.invariant.actor c.loop-from.invariant.done c.in_ok-from.ensures.done);
      actor = rw (c.do_some.ensures.actor, c.loop-from.invariant.actor);
      left =
          acted_on-next g.D.Evdev.told g.D.Feeds.feeds _ _ _ _ _
          (rw c.loop-from.invariant.actor) c.loop-from.invariant.left c.do_some.ensures.left;
    }

pub loop-from-smaller : goal.loop-from-smaller
loop-from-smaller g c = omega (arith, c.in_ok-from.ensures.some, c.in_ok-from.ensures.within)

pub end_lines-requires-clause-device : goal.end_lines-requires-clause-device
end_lines-requires-clause-device g c = λ caller.
    let here = ap (λ (a : ActorView). a.role) c.loop-from.invariant.actor in
    acted_on-described g.D.Evdev.told g.D.Feeds.feeds _ _ _ c.loop-from.invariant.left
    (ap is_owner (sym here) ∙ caller)
    ∙ c.requires.device (ap is_owner (sym here) ∙ caller)
    ∙ sym (rw c.loop-from.invariant.actor)

-- no number is left, so all lines are done, and then what is asked behind them
pub returns : goal.returns
returns g c =
    let own = lines_by c.args.number c.args.rec.now.lines in
    let all : take c.loop-from.from own ≡ lines_by c.args.actor.now.actor c.args.rec.now.lines =
    rw (
      take_all c.loop-from.from own
          (omega (
            arith,
            own-count c.args.rec.now c.args.number c.args.lines.now c.requires.lines,
            c.loop-from-test.false,
          )),
      ← c.requires.number,
    ) in
    record {
      done =
          on_ok_weaker c.end_lines.result
          (done-all g.D.Evdev.told g.D.Feeds.feeds c.args.rec.now c.args.wait _ _ _ _ _ _
          c.loop-from.invariant.actor
          (rw all at c.loop-from.invariant.done))
          c.end_lines.ensures.done;
      actor =
          c.end_lines.ensures.actor
          ∙ ap (λ (x : ActorView). record x { job = c.end_lines.new.actor.job })
          c.loop-from.invariant.actor
          ∙ ap (λ (o : OwnerState). record c.args.actor.now { job = c.end_lines.new.actor.job; owning = o })
          (sym (ap (λ (a : ActorView). a.owning) c.end_lines.ensures.actor));
      left =
          acted_on-next g.D.Evdev.told g.D.Feeds.feeds _ _ _ _ _
          (rw c.loop-from.invariant.actor) c.loop-from.invariant.left c.end_lines.ensures.left;
    }

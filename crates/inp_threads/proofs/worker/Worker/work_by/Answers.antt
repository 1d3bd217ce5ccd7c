use Rattle.std.proofs.Common.{Some, sym, subst}
use Rattle.inp_script.proofs.Common.{HasActor, ActorView}
use Rattle.inp_threads.specs.Worker.{IsFreshPass, IsAtStart}
use Rattle.inp_threads.proofs.WorkerThread.{worked-back, worked-done, has_actor-still, on-ok}
use Rattle.inp_threads.proofs.worker.Worker.work_by.Goals as goal

pub returns-clause-worked : goal.returns-clause-worked
returns-clause-worked g c =
    let r = c.args.rec.now in
    let old : ActorView = c.args.self.now.actor in
    let new : ActorView = c.do_lines-done.new.actor in
    let first = c.new-dev.result in
    let last = c.do_lines-done.new.dev in
    let inner = c.new-dev.ensures.inner in
    let fresh = subst (λ x. IsFreshPass x.client.port.now x.client.pass) (sym inner) c.requires.fresh in
    let start = subst (λ x. IsAtStart x.client.port.now r old) (sym inner) c.requires.start in
    let actor = c.do_lines-done.ensures.actor in
    let left = c.do_lines-done.ensures.left in
    record {
      pass =
          rw inner at
          (worked-back (λ s. s.inner.client.port.now) (λ s. s.inner.client.pass)
          (λ s. s.inner.client.agains) _
          (λ b a room answer events h. h) old.role first last fresh last.inner.client.ready left);
      actor =
          subst (HasActor r) (sym actor) (has_actor-still r old new.job new.owning c.requires.start.actor);
      description = rw actor c.requires.start.description;
      worked = λ good.
          rw inner at
          (worked-done (λ s. s.inner.client.port.now) (λ s. s.inner.client.pass)
          (λ s. s.inner.client.agains) _ (λ b a room answer events h. h) r
          (Some c.args.waiting) first last old new fresh last.inner.client.ready start actor left
          (on-ok _ c.do_lines-done.result c.is_ok-self.result c.is_ok-self.ensures.value good
          c.do_lines-done.ensures.done));
    }

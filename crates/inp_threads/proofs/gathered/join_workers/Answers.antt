use Rattle.std.proofs.Common.{List, [], ◌∷◌, length, sym, ◌∙◌}
use Rattle.std.proofs.lemmas.Iterator.Adapters.{YieldsList-from_vec}
use Rattle.std.proofs.lemmas.Iterator.Consumers.{YieldsList-turn}
use Rattle.std.proofs.lemmas.List.{map-append}
use Rattle.std.proofs.lemmas.List.Elements.{All-push}
use Rattle.inp_script.proofs.Common.{ended_of}
use Rattle.inp_threads.specs.Joined.{IsSizedWorker}
use Rattle.inp_threads.proofs.Common.{view_of, Worker}
use Rattle.inp_threads.proofs.Passes.{done-more, joined-more}
use Rattle.inp_threads.proofs.gathered.join_workers.Goals as goal

pub add-gathered-requires-clause-back : goal.add-gathered-requires-clause-back
add-gathered-requires-clause-back c =
    let gives = c.into_iter-worker-iterator.ensures.into_iter_gives in
    let turn =
    YieldsList-turn
    (YieldsList-from_vec {s = c.into_iter-worker-iterator.result} c.args.workers.items gives.0 (gives.1
    ∙ c.args.workers.ok.0)) c.loop-worker.yielded c.loop-worker.worker-iterator c.loop-worker.yielded_by
    c.next.result c.next.new.self c.in-Some.worker c.in-Some.is c.next.ensures.steps in
    rw turn.1 (c.requires.back (length c.loop-worker.yielded) c.in-Some.worker turn.0)

pub loop-worker-preserved : goal.loop-worker-preserved
loop-worker-preserved c =
    let so_far : List Worker = c.loop-worker.yielded in
    let w : Worker = c.in-Some.worker in
    let is = c.loop-worker.invariant in
    let added = c.add-gathered.ensures in (
      added.ready,
      joined-more so_far (w ∷ []) (view_of c.args.pass) (view_of c.loop-worker.gathered.pass)
          (view_of c.add-gathered.result.pass) is.1 added.joined,
      rw (added.ends, is.2) (sym (map-append (λ (u : Worker). ended_of u.actor) so_far (w ∷ []))),
      added.capacity ∙ is.3,
      All-push IsSizedWorker so_far w is.4 added.sized,
      λ both. done-more so_far w c.loop-worker.gathered.is_done is.5 (sym added.done ∙ both),
    )

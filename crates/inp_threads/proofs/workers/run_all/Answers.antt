use Rattle.std.proofs.Common.{◌≡◌, ℕ, ◌<◌, List, length, get_or, map, sym, ap, subst, ◌∙◌, arith}
use Rattle.std.specs.Prelude.{All}
use Rattle.inp_threads.specs.Worker.{IsWorkedFrom}
use Rattle.inp_threads.proofs.Common.{Worker, actor_number, IsReadyOn}
use Rattle.inp_threads.proofs.WorkerRuns.{ready-to-work, changed, same-numbers}
use Rattle.inp_threads.proofs.workers.run_all.Goals as goal

-- each worker is ready, and waits for the sources of the device
pub for_each_mut-requires-clause-accepts : goal.for_each_mut-requires-clause-accepts
for_each_mut-requires-clause-accepts g c κs within =
    let port = c.args.port.now in
    let r = c.args.rec.now in
    let all : All (IsReadyOn port r c.args.device) c.deref_mut.result.now =
    subst (All (IsReadyOn port r c.args.device)) (sym c.deref_mut.ensures.value) c.requires.ready in
    λ i p below is. (
      ready-to-work port r c.args.lists.now c.requires.lines c.args.device
          (record { idle = c.args.idle; sources = c.source_count.result }) c.source_count.ensures
          c.deref_mut.result.now all c.requires.bound i p.now below is,
      (record { shared = c.type_bounds.sync-R.shared }, record { shared = c.type_bounds.sync-G.shared }),
    )

-- each worker has the same actor when its thread has ended
pub returns-clause-numbers : goal.returns-clause-numbers
returns-clause-numbers g c =
    let items : List Worker = c.args.workers.now.items in
    let slice : List Worker = c.deref_mut.result.now in
    let new : List Worker = c.for_each_mut.new.s in
    let same : slice ≡ items = c.deref_mut.ensures.value in
    let long : length new ≡ length slice = c.for_each_mut.auto.s in
    let each : (i : ℕ) (d : Worker) → i < length slice
    → actor_number (get_or new i d) ≡ actor_number (get_or slice i d) = λ i d below.
    (let k = (c.for_each_mut.ensures i d below).1 in
    let from : IsWorkedFrom c.args.port.now c.args.rec.now
    (record { idle = c.args.idle; sources = c.source_count.result }) k.argument.now k.after_call.now =
    k.call in
    sym (ap actor_number k.left) ∙ from.number ∙ ap actor_number k.argument_is) in
    ap (map actor_number)
    (changed c.args.workers.now.len items new (omega (arith, c.args.workers.now.ok.0)) (long
    ∙ ap length same))
    ∙ same-numbers slice new long each ∙ ap (map actor_number) same

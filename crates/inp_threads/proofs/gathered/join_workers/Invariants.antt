use Rattle.std.proofs.Common.{◌≡◌, vec_capacity, true}
use Rattle.inp_port.specs.Port.{IsReadyAt}
use Rattle.inp_threads.specs.Joined.{AreSized, ends_of_workers}
use Rattle.inp_threads.proofs.Common.{view_of, AreJoined, AreWorkersDone}
use Rattle.inp_threads.proofs.gathered.join_workers.Given as goal

-- the passes of the workers so far were joined, and their actors finished
abbrev pub invariant-loop-worker : goal.invariant-loop-worker
invariant-loop-worker l =
    IsReadyAt l.port l.gathered.pass
    × AreJoined l.yielded (view_of l.fn.pass) (view_of l.gathered.pass)
    × (l.gathered.ends.items ≡ ends_of_workers l.yielded)
    × (vec_capacity l.gathered.ends ≡ vec_capacity l.fn.ends)
    × AreSized l.yielded
    × (l.gathered.is_done ≡ true → AreWorkersDone l.yielded)

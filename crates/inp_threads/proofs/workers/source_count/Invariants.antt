use Rattle.std.proofs.Common.{◌≡◌, ◌&&◌, nat_eq, take}
use Rattle.std.specs.List.{count_by}
use Rattle.inp_actors.specs.Command.{is_source}
use Rattle.inp_script.proofs.Common.{ActorText}
use Rattle.inp_threads.proofs.workers.source_count.Given as goal

-- the sources so far
abbrev pub invariant-loop-actor : goal.invariant-loop-actor
invariant-loop-actor l =
    l.count ≡ count_by (λ (text : ActorText). is_source text.role && nat_eq text.device l.fn.device)
    (take l.actor-index l.actor-items)

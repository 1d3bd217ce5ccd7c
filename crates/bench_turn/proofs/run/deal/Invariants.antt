use Rattle.std.proofs.Common.{◌+◌, ◌≡◌}
use Rattle.inp_turn.specs.Pass.{view_of}
use Rattle.inp_port.specs.Port.{IsReadyAt}
use Rattle.bench_turn.proofs.run.deal.Given as goal

abbrev pub invariant-loop : goal.invariant-loop
invariant-loop g l =
    IsReadyAt l.port l.pass × ((view_of l.pass).share + l.counter ≡ (view_of l.initial.pass).share)
    × ((view_of l.initial.pass).share ≡ (view_of l.fn.pass).share)

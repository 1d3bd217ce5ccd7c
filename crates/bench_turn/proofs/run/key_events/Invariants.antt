use Rattle.inp_model.specs.Injection.{AreInTime}
use Rattle.bench_turn.proofs.run.key_events.Given as goal

abbrev pub invariant-loop-k : goal.invariant-loop-k
invariant-loop-k l = AreInTime l.events.items

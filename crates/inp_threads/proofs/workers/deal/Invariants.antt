use Rattle.inp_threads.specs.Worker.{AreDealtUpTo}
use Rattle.inp_threads.proofs.workers.deal.Given as goal

-- the actors of the device so far have their workers
abbrev pub invariant-loop-number : goal.invariant-loop-number
invariant-loop-number l = AreDealtUpTo l.fn.port l.fn.rec l.fn.device l.number l.pass l.workers.items

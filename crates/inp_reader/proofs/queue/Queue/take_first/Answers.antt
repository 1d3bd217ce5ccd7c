use Rattle.std.proofs.Common.{◌∙◌, sym, arith}
use Rattle.std.proofs.lemmas.Bool.Decides.{nat_tests}
use Rattle.inp_reader.proofs.Queues.{part-first}
use Rattle.inp_reader.proofs.queue.Queue.take_first.Goals as goal

-- the part of the buffer is not empty, and starts with the item at its first index
pub returns-clause-first : goal.returns-clause-first
returns-clause-first c =
    sym c.self.view_is
    ∙ part-first c.self.inside.buffer c.self.inside.next c.self.inside.end _ (let h =
    c.if-self.false in grind (arith, nat_tests, h, c.self.invariant.0))
    (omega (arith, c.self.invariant.1, c.self.invariant.2))

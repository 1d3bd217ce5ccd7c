use Rattle.std.proofs.Common.{◌∙◌, sym, arith, ◌<◌, length}
use Rattle.std.proofs.lemmas.Bool.Decides.{nat_tests}
use Rattle.inp_reader.proofs.Queues.{rest-first}
use Rattle.inp_reader.proofs.synthesis.Synthesis.take_first.Goals as goal

-- the event at the next index is the first of those that are left
pub returns-clause-first : goal.returns-clause-first
returns-clause-first c =
    let within : c.self.inside.next < length c.self.inside.events.events = let h =
    c.if-self-len.false in let l = c.len.ensures in grind (arith, nat_tests, h, l, c.self.invariant) in
    sym (rw (← c.self.view_is))
    ∙ rest-first c.self.inside.events.events c.self.inside.next c.get-first.result within c.get-first.ensures

use Rattle.std.proofs.Common.{◌∙◌, sym, arith}
use Rattle.inp_edge.proofs.FileLemmas.{bytes_of-found}
use Rattle.inp_edge.proofs.mem_input.index_of.Goals as goal

pub returns-then-eq-clause-file : goal.returns-then-eq-clause-file
returns-then-eq-clause-file c =
    sym c.loop-i.invariant
    ∙ bytes_of-found _ _ c.loop-i.i c.index-files-i.result (omega arith) c.index-files-i.is
    (rw c.name.ensures.name at (sym c.eq.ensures ∙ c.if-eq.true))

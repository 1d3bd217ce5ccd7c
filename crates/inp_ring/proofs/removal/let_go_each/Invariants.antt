use Rattle.inp_ring.proofs.Releases.{IsLetGo}
use Rattle.inp_ring.proofs.removal.let_go_each.Given as goal

abbrev pub invariant-loop-number : goal.invariant-loop-number
invariant-loop-number l = IsLetGo l.initial.store l.numbers l.store l.number-index

use Rattle.inp_model.specs.Step.{is_part_of}
use Rattle.inp_ring.specs.Class.{query_of_class}
use Rattle.inp_ring.proofs.Walks.{IsWalked}
use Rattle.inp_ring.proofs.removal.remove_class.Given as goal

abbrev pub invariant-loop : goal.invariant-loop
invariant-loop l =
    IsWalked (is_part_of (query_of_class l.class)) l.initial.store l.initial.numbers.items
    l.initial.numbers.capacity l.store l.numbers l.counter l.report_stays

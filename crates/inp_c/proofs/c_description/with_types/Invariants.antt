use Rattle.std.proofs.Common.{◌≡◌, ◌*◌, length}
use Rattle.inp_c.specs.DescriptionOfC.{has_bit, kind_call, with_calls}
use Rattle.inp_c.proofs.Described.{rest}
use Rattle.inp_c.proofs.c_description.with_types.Given as goal

abbrev pub invariant-loop-kind : goal.invariant-loop-kind
invariant-loop-kind l =
    with_calls l.builder (rest kind_call (has_bit l.words) l.kind (64 * length l.words))
    ≡ with_calls l.initial.builder (rest kind_call (has_bit l.words) 0 (64 * length l.words))

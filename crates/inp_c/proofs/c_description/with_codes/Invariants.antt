use Rattle.std.proofs.Common.{◌≡◌, ◌*◌, length}
use Rattle.inp_c.specs.DescriptionOfC.{has_bit, code_call, with_calls}
use Rattle.inp_c.proofs.Described.{rest}
use Rattle.inp_c.proofs.c_description.with_codes.Given as goal

abbrev pub invariant-loop-code : goal.invariant-loop-code
invariant-loop-code l =
    with_calls l.builder (rest (code_call l.kind) (has_bit l.words) l.code (64 * length l.words))
    ≡ with_calls l.initial.builder (rest (code_call l.kind) (has_bit l.words) 0 (64 * length l.words))

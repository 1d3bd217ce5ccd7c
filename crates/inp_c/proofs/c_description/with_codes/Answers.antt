use Rattle.std.proofs.Common.{◌*◌, ◌+◌, length, ap, sym, ◌∙◌}
use Rattle.std.proofs.lemmas.Result.{err_from_is_err_and}
use Rattle.inp_model.specs.Description.{Description}
use Rattle.inp_c.specs.DescriptionOfC.{has_bit, code_call, with_calls}
use Rattle.inp_c.proofs.Described.{rest, rest_none, taken, stopped, passed, all_codes}
use Rattle.inp_c.proofs.c_description.with_codes.Goals as goal
use Rattle.inp_c.proofs.c_description.with_codes.Goals.{then-has_bit+in_ok-builder, else-has_bit}

-- the code at hand is refused, and the calls with the codes from it on stop there
pub returns-in_err-builder : goal.returns-in_err-builder
returns-in_err-builder c =
    let p = err_from_is_err_and c.from_residual.result c.from_residual.ensures.1 in
    let words = c.args.words.now in
    let refused =
    stopped (code_call c.args.kind) (has_bit words) c.loop-code.builder c.loop-code.code
    (64 * length words) _ c.loop-code-test.true
    (sym c.has_bit.ensures ∙ c.if-has_bit.true) (sym c.with_code.ensures ∙ c.in_err-builder.was) in
    rw (p.1, p.2) (sym refused ∙ c.loop-code.invariant
    ∙ ap (with_calls c.args.builder) (all_codes (code_call c.args.kind) words))

-- a code whose bit is set is added, and one whose bit is not set has no call
pub loop-code-preserved : goal.loop-code-preserved
loop-code-preserved c =
    let words = c.args.words.now in
    elim c.if-has_bit.branch [
      | then-has_bit+in_ok-builder w ↦
          ap (λ (d : Description).
          with_calls d
          (rest (code_call c.args.kind) (has_bit words) (c.loop-code.code + 1) (64 * length words)))
          w.builder-is
          ∙ sym (taken (code_call c.args.kind) (has_bit words) c.loop-code.builder _ c.loop-code.code
          (64 * length words) c.loop-code-test.true (sym c.has_bit.ensures ∙ w.if-has_bit.true)
          (sym w.with_code.ensures ∙ w.in_ok-builder.was))
          ∙ c.loop-code.invariant
      | else-has_bit w ↦
          ap (λ (d : Description).
          with_calls d
          (rest (code_call c.args.kind) (has_bit words) (c.loop-code.code + 1) (64 * length words)))
          w.builder-is
          ∙ sym (passed (code_call c.args.kind) (has_bit words) c.loop-code.builder c.loop-code.code
          (64 * length words) c.loop-code-test.true (sym c.has_bit.ensures ∙ w.if-has_bit.false))
          ∙ c.loop-code.invariant
    ]

-- no code is left, so the calls with all codes of the words were made
pub returns : goal.returns
returns c =
    let words = c.args.words.now in
    ap (with_calls c.loop-code.builder)
    (sym (rest_none (code_call c.args.kind) (has_bit words) c.loop-code.code
    (64 * length words) c.loop-code-test.false))
    ∙ c.loop-code.invariant ∙ ap (with_calls c.args.builder) (all_codes (code_call c.args.kind) words)

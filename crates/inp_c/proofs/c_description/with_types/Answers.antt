use Rattle.std.proofs.Common.{◌*◌, ◌+◌, length, ap, sym, ◌∙◌}
use Rattle.std.proofs.lemmas.Result.{err_from_is_err_and}
use Rattle.inp_model.specs.Description.{Description}
use Rattle.inp_c.specs.DescriptionOfC.{has_bit, kind_call, with_calls}
use Rattle.inp_c.proofs.Described.{rest, rest_none, taken, stopped, passed, all_codes}
use Rattle.inp_c.proofs.c_description.with_types.Goals as goal
use Rattle.inp_c.proofs.c_description.with_types.Goals.{then-has_bit+in_ok-builder, else-has_bit}

-- the type at hand is refused, and the calls with the types from it on stop there
pub returns-in_err-builder : goal.returns-in_err-builder
returns-in_err-builder c =
    let p = err_from_is_err_and c.from_residual.result c.from_residual.ensures.1 in
    let words = c.args.words.now in
    let refused =
    stopped (kind_call) (has_bit words) c.loop-kind.builder c.loop-kind.kind
    (64 * length words) _ c.loop-kind-test.true
    (sym c.has_bit.ensures ∙ c.if-has_bit.true) (sym c.with_type.ensures ∙ c.in_err-builder.was) in
    rw (p.1, p.2) (sym refused ∙ c.loop-kind.invariant
    ∙ ap (with_calls c.args.builder) (all_codes (kind_call) words))

-- a type whose bit is set is added, and one whose bit is not set has no call
pub loop-kind-preserved : goal.loop-kind-preserved
loop-kind-preserved c =
    let words = c.args.words.now in
    elim c.if-has_bit.branch [
      | then-has_bit+in_ok-builder w ↦
          ap (λ (d : Description).
          with_calls d (rest (kind_call) (has_bit words) (c.loop-kind.kind + 1) (64 * length words)))
          w.builder-is
          ∙ sym (taken (kind_call) (has_bit words) c.loop-kind.builder _ c.loop-kind.kind
          (64 * length words) c.loop-kind-test.true (sym c.has_bit.ensures ∙ w.if-has_bit.true)
          (sym w.with_type.ensures ∙ w.in_ok-builder.was))
          ∙ c.loop-kind.invariant
      | else-has_bit w ↦
          ap (λ (d : Description).
          with_calls d (rest (kind_call) (has_bit words) (c.loop-kind.kind + 1) (64 * length words)))
          w.builder-is
          ∙ sym (passed (kind_call) (has_bit words) c.loop-kind.builder c.loop-kind.kind
          (64 * length words) c.loop-kind-test.true (sym c.has_bit.ensures ∙ w.if-has_bit.false))
          ∙ c.loop-kind.invariant
    ]

-- no type is left, so the calls with all types of the word were made
pub returns : goal.returns
returns c =
    let words = c.args.words.now in
    ap (with_calls c.loop-kind.builder)
    (sym (rest_none (kind_call) (has_bit words) c.loop-kind.kind (64 * length words) c.loop-kind-test.false))
    ∙ c.loop-kind.invariant ∙ ap (with_calls c.args.builder) (all_codes (kind_call) words)

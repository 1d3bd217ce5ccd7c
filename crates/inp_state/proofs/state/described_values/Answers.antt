use Rattle.std.proofs.Common.{◌≡◌, ◌<◌, ◌≢◌, ℤ, pos, length, to_z, of_z, w32, FitsSigned, arith, rules}
use Rattle.std.proofs.Common.{get_or-set_other, get_or-set_same, length-set, below_more, ◌∙◌}
use Rattle.std.proofs.lemmas.Int.{to_z-of_z}
use Rattle.inp_state.proofs.state.described_values.Goals as goal

pub loop-code-preserved : goal.loop-code-preserved
loop-code-preserved c =
    let fits : FitsSigned w32 c.axis.result.value = search rules in
    let new : ℤ = to_z w32 (of_z w32 c.axis.result.value) in
    let same : c.from.result ≡ c.loop-code.code = c.from.ensures in
    let long : length c.loop-code.values ≡ 64 = c.loop-code.invariant.long in
    record {
      long = length-set c.loop-code.values c.from.result (to_z w32 (of_z w32 c.axis.result.value)) ∙ long;
      filled = below_more _ _
          (λ k h. let ne : k ≢ c.from.result =
          omega arith in get_or-set_other c.loop-code.values c.from.result k new (pos 0) ne
          ∙ c.loop-code.invariant.filled k h)
          (let lt : c.from.result < length c.loop-code.values = omega arith in
          cc (
            same,
            get_or-set_same c.loop-code.values c.from.result (to_z w32 (of_z w32 c.axis.result.value))
                (pos 0) lt,
            to_z-of_z w32 c.axis.result.value fits,
            c.axis.ensures.axis,
          ));
    }

pub returns : goal.returns
returns c = λ k h. c.loop-code.invariant.filled k (omega arith)

use Rattle.std.proofs.Common.{◌≡◌, ◌<◌, ◌≢◌, length, arith, get_or-set_other, get_or-set_same, length-set}
use Rattle.std.proofs.Common.{below_more, ◌∙◌}
use Rattle.inp_model.specs.Description.{no_info}
use Rattle.inp_state.proofs.state.descriptions.Goals as goal

pub loop-code-preserved : goal.loop-code-preserved
loop-code-preserved c =
    let same : c.from.result ≡ c.loop-code.code = c.from.ensures in
    let long : length c.loop-code.infos ≡ 64 = c.loop-code.invariant.long in
    record {
      long = length-set c.loop-code.infos c.from.result c.axis.result ∙ long;
      filled = below_more _ _
          (λ k h. let ne : k ≢ c.from.result =
          omega arith in get_or-set_other c.loop-code.infos c.from.result k c.axis.result no_info ne
          ∙ c.loop-code.invariant.filled k h)
          (let lt : c.from.result < length c.loop-code.infos = omega arith in
          cc (
            same,
            get_or-set_same c.loop-code.infos c.from.result c.axis.result no_info lt,
            c.axis.ensures.axis,
          ));
    }

pub returns : goal.returns
returns c = λ k h. c.loop-code.invariant.filled k (omega arith)

use Rattle.std.proofs.Common.{◌∙◌}
use Rattle.inp_args.proofs.Numbers.{parsed}
use Rattle.inp_args.proofs.number.number_of.Goals as goal

pub returns : goal.returns
returns c = c.ok.ensures.value ∙ parsed c.args.text.now c.parse.result c.parse.ensures.value.0

use Rattle.std.proofs.Common.{rules}
use Rattle.inp_make.specs.Generated.{lines}
use Rattle.inp_make.proofs.generated_record.lines.Goals as goal

pub returns : goal.returns
unfolding lines
returns c = search rules

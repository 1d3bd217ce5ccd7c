use Rattle.std.proofs.Common.{rules}
use Rattle.inp_make.specs.Generated.{pad}
use Rattle.inp_make.proofs.pad.pad.Goals as goal

pub returns : goal.returns
unfolding pad
returns c = search rules

use Rattle.std.proofs.Common.{sym, subst}
use Rattle.inp_frames.specs.Core.{CoreStandsFor}
use Rattle.inp_frames.specs.contracts.input_core.Core.{the_view}
use Rattle.inp_frames.proofs.KeptCore.{CoreStandsFor-described}
use Rattle.inp_frames.proofs.input_core.Core.describe.Goals as goal

pub returns-clause-stands : goal.returns-clause-stands
returns-clause-stands c = λ d past client h.
    CoreStandsFor-described d past client c.args.code c.args.info (the_view c.self.inside) c.describe.new.self
    (c.describe.ensures.stands d) (subst (CoreStandsFor d past) (sym c.self.view_is) h)

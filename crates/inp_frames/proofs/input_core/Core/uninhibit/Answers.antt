use Rattle.std.proofs.Common.{sym, subst}
use Rattle.inp_frames.specs.Core.{CoreStandsFor}
use Rattle.inp_frames.specs.contracts.input_core.Core.{the_view}
use Rattle.inp_frames.proofs.KeptCore.{CoreStandsFor-uninhibit}
use Rattle.inp_frames.proofs.input_core.Core.uninhibit.Goals as goal

pub returns-clause-stands : goal.returns-clause-stands
returns-clause-stands c =
    λ d past h. CoreStandsFor-uninhibit d past (the_view c.self.inside)
    (subst (CoreStandsFor d past) (sym c.self.view_is) h)

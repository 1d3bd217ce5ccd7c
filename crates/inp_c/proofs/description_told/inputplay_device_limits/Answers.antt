use Rattle.std.proofs.Common.{Option}
use Rattle.inp_c.specs.declared.kept.Kept.{Kept}
use Rattle.inp_c.specs.Contents.{contents}
use Rattle.inp_c.specs.DescriptionTold.{IsToldLimits}
use Rattle.inp_c.proofs.Along.{at_contents}
use Rattle.inp_c.proofs.description_told.inputplay_device_limits.Goals as goal

-- the limits are told of what the handle keeps
pub returns-clause-told : goal.returns-clause-told
returns-clause-told c = λ ok.
    at_contents Kept (λ (k : Option Kept). IsToldLimits k c.limits_in-status.new.limits)
    (contents c.args.handle.now) c.take-kept.result.value c.deref.result.now c.take-kept.ensures.kept
    c.deref.ensures (c.limits_in-status.ensures.told ok)

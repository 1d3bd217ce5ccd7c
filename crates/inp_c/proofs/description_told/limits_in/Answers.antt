use Rattle.std.proofs.Common.{ap, ◌∙◌, Some}
use Rattle.inp_c.specs.DescriptionTold.{told_limits}
use Rattle.inp_c.proofs.description_told.limits_in.Goals as goal

-- the limits are those of the kept device's description
pub returns-clause-told : goal.returns-clause-told
returns-clause-told c = λ _. record {
  device = c.in-Device.device;
  is = ap Some c.in-Device.is;
  limits_are = c.c_limits.ensures ∙ ap told_limits c.caps.ensures.description;
}

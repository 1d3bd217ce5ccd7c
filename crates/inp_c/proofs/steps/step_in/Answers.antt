use Rattle.std.proofs.Common.{ap, sym, refl, Some}
use Rattle.inp_c.proofs.steps.step_in.Goals as goal

-- the kept device made the step that C gave
pub returns-clause-made : goal.returns-clause-made
returns-clause-made c = λ _. record {
  old = c.in-Device.device;
  new = c.step_device.new.device;
  step = c.in-Some.step;
  was = ap Some c.in-Device.is;
  is = refl;
  reads = sym c.in-Some.ensures.step;
  tells = c.step_device.ensures;
}

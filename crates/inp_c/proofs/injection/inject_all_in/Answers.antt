use Rattle.std.proofs.Common.{ap, refl, Some}
use Rattle.inp_c.proofs.injection.inject_all_in.Goals as goal

-- the kept device was injected the events, and C is told from which place and how many
pub returns-clause-made : goal.returns-clause-made
returns-clause-made c = λ _. record {
  old = c.in-Device.device;
  new = c.inject_all-injected.new.self;
  injected = c.inject_all-injected.result;
  was = ap Some c.in-Device.is;
  is = refl;
  injects = c.inject_all-injected.ensures;
  from_is = refl;
  count_is = refl;
}

use Rattle.std.proofs.Common.{ap, refl, Some}
use Rattle.inp_c.proofs.reader.force_in.Goals as goal

-- the kept device's reader needs a synchronisation then, and the rest stays
pub returns-clause-made : goal.returns-clause-made
returns-clause-made c = λ _. record {
  old = c.in-Device.device;
  new = _;
  was = ap Some c.in-Device.is;
  is = refl;
  reader = c.force_sync.ensures.needed;
  udev = refl;
  joy = refl;
}

use Rattle.std.proofs.Common.{ap, refl, Some}
use Rattle.inp_c.proofs.client_read.read_in.Goals as goal

-- the kept device made the read, and C is told the place of its reply
pub returns-clause-made : goal.returns-clause-made
returns-clause-made c = λ _. record {
  old = c.in-Device.device;
  new = c.read_device-reply.new.device;
  reply = c.read_device-reply.result;
  was = ap Some c.in-Device.is;
  is = refl;
  tells = c.read_device-reply.ensures;
  place = c.place_of.ensures;
  count_is = c.read_count.ensures;
  cause = c.told_refusal.ensures;
}

use Rattle.std.proofs.Common.{ap, refl, Some}
use Rattle.inp_c.proofs.feedback.feed_in.Goals as goal

-- the kept device answered its owner's call, and C is told what it answered
pub returns-clause-made : goal.returns-clause-made
returns-clause-made c = λ _. record {
  old = c.in-Device.device;
  new = c.feed_device-fed.new.device;
  answer = c.feed_device-fed.result;
  was = ap Some c.in-Device.is;
  is = refl;
  feeds = c.feed_device-fed.ensures;
  at_is = c.fed_place.ensures;
  count_is = c.fed_count.ensures;
  full_is = c.fed_full.ensures;
}

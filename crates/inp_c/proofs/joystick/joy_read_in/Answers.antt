use Rattle.std.proofs.Common.{ap, refl, Some}
use Rattle.inp_c.proofs.joystick.joy_read_in.Goals as goal

-- the kept device's joystick client made the read, and C is told the number of its answer
pub returns-clause-made : goal.returns-clause-made
returns-clause-made c = λ _. record {
  old = c.in-Device.device;
  new = c.joy_read-read.new.self;
  answer = c.joy_read-read.result;
  was = ap Some c.in-Device.is;
  is = refl;
  read = c.joy_read-read.ensures;
  told_is = c.joy_number.ensures;
  place_is = c.joy_place.ensures;
}

use Rattle.std.proofs.Common.{ap, Some}
use Rattle.inp_c.proofs.joystick.picture_in.Goals as goal

-- the picture is the one that the kept device's joystick client has
pub returns-clause-picture : goal.returns-clause-picture
returns-clause-picture c = λ _. record {
  device = c.in-Device.device;
  picture = c.picture.result.now;
  is = ap Some c.in-Device.is;
  told_is = c.c_picture.ensures;
  stands_for = c.picture.ensures.picture;
}

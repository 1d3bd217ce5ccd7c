use Rattle.std.proofs.Common.{ap, refl, Some}
use Rattle.inp_c.proofs.joystick.joy_start_in.Goals as goal

-- the kept device's joystick client started, and C is told what came of it
pub returns-clause-made : goal.returns-clause-made
returns-clause-made c = λ _. record {
  old = c.in-Device.device;
  new = c.joy_start-started.new.self;
  answer = c.joy_start-started.result;
  was = ap Some c.in-Device.is;
  is = refl;
  started = c.joy_start-started.ensures;
  client_is = c.client.ensures.client;
  why_is = c.start_refusal.ensures;
}

-- The laws of startups and pictures.
use Rattle.std.proofs.Common.{arith}
use Rattle.inp_joy.proofs.Numbers.{length-buttons, length-axes}
use Rattle.inp_joy.proofs.Pictures.{device-pictured, startup-pictured, length-startup}
use Rattle.inp_joy.proofs.Events.{event-pictured}
use Rattle.inp_joy.proofs.Records.{record-back}
use Rattle.inp_joy.proofs.laws.pictures.Goals as goal

-- each law of startups and pictures is shown in a file of its own
pub returns : goal.returns
returns c = record {
  whole = length-startup;
  short = λ d. omega (arith, length-buttons d, length-axes d);
  startup = startup-pictured;
  event = λ d v taken sized. event-pictured d v taken sized.keys sized.axes;
  device = device-pictured;
  bytes = λ r time value. record-back r (record { time = time; value = value });
}

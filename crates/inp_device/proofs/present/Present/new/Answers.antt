use Rattle.std.proofs.Common.{refl, ap}
use Rattle.inp_client.specs.Numbers.{stored_of}
use Rattle.inp_device.proofs.StepParts.{stands_first}
use Rattle.inp_device.proofs.present.Present.new.Goals as goal

-- no step was made yet: nobody is open, nobody has the grab, and nothing is kept or sent
pub returns : goal.returns
returns c = record {
  fresh =
      stands_first c.args.caps _ refl c.in_ok-core.ensures.fresh c.in_ok-core.ensures.made
      c.in_ok-handler.ensures.fresh (rw c.new-3.ensures.free) refl refl;
  stored = ap stored_of c.in_ok-handler.ensures.fresh.clients;
  sent = c.in_ok-core.ensures.sends;
}

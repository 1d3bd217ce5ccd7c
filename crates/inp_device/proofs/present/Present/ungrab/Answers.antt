use Rattle.std.proofs.Common.{refl}
use Rattle.inp_device.proofs.StepParts.{made_call, called, holder_given_up, clients_same}
use Rattle.inp_device.proofs.Growth.{stored_kept}
use Rattle.inp_device.proofs.present.Present.ungrab.Goals as goal

-- the client had the grab, so it gives it up, and no queue changes
pub returns : goal.returns
returns c = record {
  made = made_call refl c.done.ensures.done
      (called c.requires.ready refl refl refl refl refl refl refl refl (clients_same c.requires.ready refl)
      (holder_given_up c.ungrab.new.self c.ungrab.result c.requires.ready c.ungrab.ensures.grabber.1
      c.ungrab.ensures.ok));
  stored = stored_kept c.args.self.now.handler.clients _;
}

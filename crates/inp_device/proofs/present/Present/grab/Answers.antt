use Rattle.std.proofs.Common.{refl}
use Rattle.inp_device.proofs.StepParts.{made_call, called, holder_taken, clients_same}
use Rattle.inp_device.proofs.Growth.{stored_kept}
use Rattle.inp_device.proofs.present.Present.grab.Goals as goal

-- nobody had the grab, so the client takes it, and no queue changes
pub returns : goal.returns
returns c = record {
  made = made_call refl c.done.ensures.done
      (called c.requires.ready refl refl refl refl refl refl refl refl (clients_same c.requires.ready refl)
      (holder_taken c.grab.new.self c.grab.result c.requires.ready c.grab.ensures.free.1 c.grab.ensures.ok));
  stored = stored_kept c.args.self.now.handler.clients _;
}

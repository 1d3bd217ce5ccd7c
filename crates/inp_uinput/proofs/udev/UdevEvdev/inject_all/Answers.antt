use Rattle.std.proofs.Common.{take}
use Rattle.inp_model.proofs.Injection.{evdev_injected}
use Rattle.inp_uinput.specs.UdevView.{device_of}
use Rattle.inp_uinput.proofs.Udevs.{events_entered}
use Rattle.inp_uinput.proofs.udev.UdevEvdev.inject_all.Goals as goal

-- the events are entered as an evdev enters them, by what the call ensures of its steps alone
pub returns : goal.returns
returns c = record {
  injected =
      evdev_injected (device_of c.args.self.now)
      (device_of c.inject_all.new.self) c.args.events.now c.inject_all.result c.inject_all.ensures.description
      c.inject_all.ensures.from c.inject_all.ensures.count c.inject_all.ensures.within
      (rw c.inject_all.ensures.kept
      (events_entered (take c.inject_all.result.count c.args.events.now) c.args.self.now.kept))
      c.inject_all.ensures.agains c.inject_all.ensures.accepted;
}

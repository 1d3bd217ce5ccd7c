use Rattle.inp_model.proofs.Injection.{evdev_injected}
use Rattle.inp_device.specs.Device.{plain_view}
use Rattle.inp_device.proofs.device.DeviceEvdev.inject_all.Goals as goal

-- the device enters many events as an evdev does, by what its call ensures
pub returns : goal.returns
returns c = record {
  injected =
      evdev_injected (plain_view c.args.self.now)
      (plain_view c.inject_all.new.self) c.args.events.now c.inject_all.result
      c.inject_all.ensures.description c.inject_all.ensures.from c.inject_all.ensures.count
      c.inject_all.ensures.within c.inject_all.ensures.entered
      c.inject_all.ensures.agains c.inject_all.ensures.accepted;
}

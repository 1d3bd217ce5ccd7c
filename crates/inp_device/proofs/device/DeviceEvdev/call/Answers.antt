use Rattle.inp_model.proofs.Told.{evdev_called}
use Rattle.inp_device.specs.Device.{plain_view}
use Rattle.inp_device.proofs.device.DeviceEvdev.call.Goals as goal

-- a step of the device is a call of an evdev, by what the step ensures
pub returns : goal.returns
returns c = record {
  called =
      evdev_called (plain_view c.args.self.now)
      (plain_view c.step.new.self) c.args.step c.step.result _ _ _ _ c.step.ensures.step
      c.step.ensures.description c.step.ensures.agains c.step.ensures.before;
}

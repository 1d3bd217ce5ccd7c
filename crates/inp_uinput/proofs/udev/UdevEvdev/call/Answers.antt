use Rattle.inp_model.proofs.Told.{evdev_called}
use Rattle.inp_uinput.specs.UdevView.{device_of}
use Rattle.inp_uinput.proofs.udev.UdevEvdev.call.Goals as goal

-- a step of the device is a call of an evdev, by what the step ensures of its steps alone
pub returns : goal.returns
returns c = record {
  called =
      evdev_called (device_of c.args.self.now)
      (device_of c.step.new.self) c.args.step c.step.result _ _ _ _ c.step.ensures.step
      c.step.ensures.description c.step.ensures.agains c.step.ensures.before;
}

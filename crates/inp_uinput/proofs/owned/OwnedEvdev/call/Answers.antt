use Rattle.inp_model.proofs.Told.{evdev_called}
use Rattle.inp_uinput.specs.UdevView.{device_of}
use Rattle.inp_uinput.proofs.Tied.{numbers-step, owned_called}
use Rattle.inp_uinput.proofs.owned.OwnedEvdev.call.Goals as goal

-- a step of the device is a call of an evdev, and leaves its owner's feedback calls
pub returns : goal.returns
returns c =
    let old = c.self.inside.udev in
    let new = c.step.new.self in
    let called =
    evdev_called (device_of old)
    (device_of new) c.args.step c.step.result c.args.out.now c.step.new.out c.args.cells.now c.step.new.cells
    c.step.ensures.step c.step.ensures.description c.step.ensures.agains c.step.ensures.before in
    let stay = numbers-step c.step.result c.args.step old.kept new.kept c.step.ensures.kept in
    record {
      called = rw c.self.view_is at
          (owned_called old new c.args.step c.step.result c.args.out.now c.step.new.out c.args.cells.now
          c.step.new.cells called stay);
    }

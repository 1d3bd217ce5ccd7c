use Rattle.inp_port.proofs.Devices.{device_served}
use Rattle.inp_port.proofs.device.DeviceServed.serve.Goals as goal

-- what the device's step ensures, said of its steps as entries
pub returns-clause-served : goal.returns-clause-served
returns-clause-served c =
    device_served c.args.self.now.description c.args.self.now.past c.step.new.self.past c.args.step
    c.step.result _ _ _ _ c.step.ensures.step c.step.ensures.before

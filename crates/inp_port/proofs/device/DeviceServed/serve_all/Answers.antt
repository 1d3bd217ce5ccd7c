use Rattle.inp_port.proofs.Devices.{device_served_all}
use Rattle.inp_port.proofs.device.DeviceServed.serve_all.Goals as goal

-- what the device's injection ensures, said of its steps as entries
pub returns-clause-served : goal.returns-clause-served
returns-clause-served c =
    device_served_all c.args.self.now.description c.inject_all.new.self.description c.args.self.now.past
    c.inject_all.new.self.past c.args.events.now c.inject_all.result c.inject_all.ensures.description
    c.inject_all.ensures.from
    c.inject_all.ensures.count c.inject_all.ensures.within c.inject_all.ensures.entered
    c.inject_all.ensures.accepted

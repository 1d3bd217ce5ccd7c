use Rattle.inp_uinput.proofs.ServedEntries.{udev_served}
use Rattle.inp_uinput.proofs.kept.UdevServed.serve.Goals as goal

-- what the device's step ensures, said of the entries oldest first
pub returns-clause-served : goal.returns-clause-served
returns-clause-served c =
    udev_served c.args.self.now.description c.args.self.now.kept c.step.new.self.kept c.args.step
    c.step.result _ _ _ _ c.step.ensures.step c.step.ensures.kept c.step.ensures.before

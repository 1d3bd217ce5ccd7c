use Rattle.inp_uinput.proofs.ServedEntries.{udev_served_all}
use Rattle.inp_uinput.proofs.kept.UdevServed.serve_all.Goals as goal

-- what the device's injection ensures, said of the entries oldest first
pub returns-clause-served : goal.returns-clause-served
returns-clause-served c =
    udev_served_all c.args.self.now.description c.inject_all.new.self.description c.args.self.now.kept
    c.inject_all.new.self.kept c.args.events.now c.inject_all.result c.inject_all.ensures.description
    c.inject_all.ensures.from
    c.inject_all.ensures.count c.inject_all.ensures.within c.inject_all.ensures.kept
    c.inject_all.ensures.accepted

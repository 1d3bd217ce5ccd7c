use Rattle.inp_device.proofs.Injection.{HasEntered}
use Rattle.inp_device.proofs.device.Device.inject_all.Given as goal

abbrev pub invariant-loop-stamped : goal.invariant-loop-stamped
invariant-loop-stamped l = HasEntered l.initial.self l.events l.stamped-index l.self

use Rattle.std.proofs.Common.{◌≡◌}
use Rattle.inp_script.proofs.Common.{effort, joy_job}
use Rattle.inp_script.proofs.JoyReads.{PassedReads}
use Rattle.inp_script.proofs.role.joystick.read_on.Given as goal

abbrev pub invariant-loop : goal.invariant-loop
invariant-loop g l = record {
  passed : PassedReads l.initial.joy.description (joy_job l.initial.joy.joying l.initial.notes)
      (g.E.Evdev.told l.initial.dev) (g.E.Evdev.told l.dev) (joy_job l.joy.joying l.notes);
  joy : l.joy.description ≡ l.initial.joy.description;
  device : (g.E.Evdev.told l.dev).description ≡ l.initial.joy.description;
}

abbrev pub decreases-loop : goal.decreases-loop
decreases-loop g l = effort (g.E.Evdev.told l.dev) l.joy.joying.reading

use Rattle.std.proofs.Common.{◌≡◌, ◌-◌}
use Rattle.inp_script.specs.Notes.{joy_job}
use Rattle.inp_script.proofs.JoyReads.{PassedRecords}
use Rattle.inp_script.proofs.role.joystick.read_records.Given as goal

abbrev pub invariant-loop : goal.invariant-loop
invariant-loop g l = record {
  passed : PassedRecords l.initial.joy.description l.count (joy_job l.initial.joy.joying l.initial.notes)
      (g.E.Evdev.told l.initial.dev) (g.E.Evdev.told l.dev) (l.count - l.counter)
      (joy_job l.joy.joying l.notes);
  joy : l.joy.description ≡ l.initial.joy.description;
  device : (g.E.Evdev.told l.dev).description ≡ l.initial.joy.description;
}

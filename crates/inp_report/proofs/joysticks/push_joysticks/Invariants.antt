use Rattle.std.proofs.Common.{◌≡◌, ◌++◌, take}
use Rattle.std.specs.List.{flat_map}
use Rattle.inp_report.specs.JoyReport.{joy_text}
use Rattle.inp_report.proofs.joysticks.push_joysticks.Given as goal

-- the joysticks so far
abbrev pub invariant-loop-joy : goal.invariant-loop-joy
invariant-loop-joy l = l.text ≡ l.initial.text ++ flat_map (joy_text l.rec) (take l.joy-index l.joy-items)

use Rattle.std.proofs.Common.{◌≡◌}
use Rattle.inp_turn.specs.Pass.{view_of}
use Rattle.inp_port.specs.Port.{IsReadyAt}
use Rattle.tests_device.proofs.port.report_all.Given as goal

abbrev pub invariant-loop : goal.invariant-loop
invariant-loop g l = IsReadyAt l.port l.pass × ((view_of l.pass).share ≡ (view_of l.initial.pass).share)

use Rattle.std.proofs.Common.{◌≡◌, false}
use Rattle.inp_turn.specs.Pass.{view_of, has_turn}
use Rattle.inp_turn.specs.Shared.{IsPassOf}
use Rattle.tests_device.proofs.turn.add_all.Given as goal

abbrev pub invariant-loop-i : goal.invariant-loop-i
invariant-loop-i g l =
    IsPassOf l.shared l.pass × (has_turn l.pass ≡ false)
    × ((view_of l.pass).share ≡ (view_of l.initial.pass).share)

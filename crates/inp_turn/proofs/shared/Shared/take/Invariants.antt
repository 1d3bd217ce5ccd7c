use Rattle.std.proofs.Common.{◌≡◌, false}
use Rattle.inp_turn.specs.Pass.{view_of, has_turn}
use Rattle.inp_turn.specs.Shared.{IsPassOf}
use Rattle.inp_turn.proofs.shared.Shared.take.Given as goal

abbrev pub invariant-loop : goal.invariant-loop
invariant-loop g l =
    IsPassOf l.self l.pass × (has_turn l.pass ≡ false) × (view_of l.pass ≡ view_of l.initial.pass)

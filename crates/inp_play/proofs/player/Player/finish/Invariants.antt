use Rattle.std.proofs.Common.{◌≡◌}
use Rattle.inp_play.proofs.Common.{runs_of, stage_with}
use Rattle.inp_play.proofs.player.Player.finish.Given as goal

abbrev pub invariant-loop-actor : goal.invariant-loop-actor
invariant-loop-actor l = l.gathered.items ≡ runs_of l.rec (stage_with l.fn.self.devices.items l.yielded)

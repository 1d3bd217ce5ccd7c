use Rattle.std.proofs.Common.{◌≡◌, take}
use Rattle.inp_play.specs.Player.{first_actors}
use Rattle.inp_play.proofs.player.first_actors.Given as goal

abbrev pub invariant-loop-actor : goal.invariant-loop-actor
invariant-loop-actor l = l.actors.items ≡ take l.actor (first_actors l.rec)

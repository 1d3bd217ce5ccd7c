use Rattle.std.proofs.Common.{◌-◌}
use Rattle.inp_play.specs.Player.{HasDone}
use Rattle.inp_play.proofs.one_thread.play.Given as goal

abbrev pub invariant-loop-line : goal.invariant-loop-line
invariant-loop-line l = HasDone l.rec l.line l.player

abbrev pub decreases-loop-line : goal.decreases-loop-line
decreases-loop-line l = l.count - l.line

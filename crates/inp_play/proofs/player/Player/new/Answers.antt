use Rattle.std.proofs.Common.{sym, subst}
use Rattle.inp_play.proofs.Common.{HasDevices}
use Rattle.inp_play.proofs.FirstPlayer.{first_has_devices, first_stage_with}
use Rattle.inp_play.proofs.player.Player.new.Goals as goal

pub returns-clause-player : goal.returns-clause-player
returns-clause-player c = record {
  devices =
      subst (HasDevices c.args.rec.now) (sym c.in_ok-first_devices.ensures.devices)
      (first_has_devices c.args.rec.now);
  actors = c.in_ok-first_actors.ensures.actors;
}

pub returns-clause-stage : goal.returns-clause-stage
returns-clause-stage c =
    rw (c.in_ok-first_devices.ensures.devices, c.in_ok-first_actors.ensures.first)
    (first_stage_with c.args.rec.now)

use Rattle.std.proofs.Common.{◌≡◌, ◌<◌, ◌≤◌, length, List, sym, ap, subst, ◌∙◌, arith}
use Rattle.std.proofs.lemmas.List.{take_all}
use Rattle.inp_script.specs.Job.{ActorView}
use Rattle.inp_play.specs.Player.{first_actors, HasActors}
use Rattle.inp_play.proofs.FirstPlayer.{one_more_actor, length-first_actors, first_has_actors}
use Rattle.inp_play.proofs.player.first_actors.Goals as goal

-- one actor more was made, of the next number
pub loop-actor-preserved : goal.loop-actor-preserved
loop-actor-preserved c =
    let few : length c.actors.result.now ≡ length c.args.rec.now.actors = ap length c.actors.ensures.actors in
    let within : c.loop-actor.actor < length c.args.rec.now.actors =
    omega (arith, c.loop-actor-test.true, c.len-actor-end.ensures.length, few) in
    ◌∙◌ {A = List ActorView} c.in_ok-push.ensures.items
    (one_more_actor c.args.rec.now c.loop-actor.actor c.in_ok-new.field-0 c.loop-actor.actors.items within
    c.in_ok-new.ensures.actor c.in_ok-new.ensures.number c.in_ok-new.ensures.job c.in_ok-new.ensures.owning
    c.loop-actor.invariant)

-- an actor was made for each of the record
pub returns-clause-first : goal.returns-clause-first
returns-clause-first c =
    let few : length c.actors.result.now ≡ length c.args.rec.now.actors = ap length c.actors.ensures.actors in
    let all : length (first_actors c.args.rec.now) ≤ c.loop-actor.actor =
    omega (
      arith,
      length-first_actors c.args.rec.now,
      c.loop-actor-test.false,
      c.len-actor-end.ensures.length,
      few,
    ) in
    c.loop-actor.invariant ∙ take_all c.loop-actor.actor (first_actors c.args.rec.now) all

pub returns-clause-actors : goal.returns-clause-actors
returns-clause-actors c =
    let few : length c.actors.result.now ≡ length c.args.rec.now.actors = ap length c.actors.ensures.actors in
    let all : length (first_actors c.args.rec.now) ≤ c.loop-actor.actor =
    omega (
      arith,
      length-first_actors c.args.rec.now,
      c.loop-actor-test.false,
      c.len-actor-end.ensures.length,
      few,
    ) in
    subst (HasActors c.args.rec.now)
    (sym (c.loop-actor.invariant ∙ take_all c.loop-actor.actor (first_actors c.args.rec.now) all))
    (first_has_actors c.args.rec.now c.actors.ensures.record)

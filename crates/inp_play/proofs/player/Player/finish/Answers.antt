use Rattle.std.proofs.Common.{◌≡◌, length, sym, ap, ◌∙◌, arith, Some}
use Rattle.std.specs.Prelude.{slice_get}
use Rattle.std.proofs.lemmas.Iterator.Adapters.{YieldsList-from_vec}
use Rattle.std.proofs.lemmas.Iterator.Consumers.{YieldsList-end, YieldsList-turn}
use Rattle.std.proofs.lemmas.List.{map-id}
use Rattle.std.proofs.lemmas.Option.{slice_get_within}
use Rattle.inp_script.proofs.Common.{ended_of}
use Rattle.inp_play.specs.GatheredRuns.{HasEndMore}
use Rattle.inp_play.proofs.Common.{runs_of, stage_of}
use Rattle.inp_play.proofs.Gathered.{IsNext, is_next, next-device, no_ends, one_more_end}
use Rattle.inp_play.proofs.player.Player.finish.Goals as goal

pub loop-actor-init : goal.loop-actor-init
loop-actor-init c = c.in_ok-gathered.ensures ∙ no_ends c.args.rec.now c.args.self.devices.items

-- the actor's number is one of the record's actors
pub get-requires : goal.get-requires
get-requires c =
    let gives = c.into_iter-actor-iterator.ensures.into_iter_gives in
    let turn =
    YieldsList-turn
    (YieldsList-from_vec {s = c.into_iter-actor-iterator.result} c.args.self.actors.items gives.0 (gives.1
    ∙ c.args.self.actors.ok.0)) c.loop-actor.yielded c.loop-actor.actor-iterator c.loop-actor.yielded_by
    c.next.result c.next.new.self c.in-Some.actor c.in-Some.is c.next.ensures.steps in
    let next : IsNext c.args.rec.now c.args.self.devices.items c.in-Some.actor =
    is_next c.args.rec.now c.args.self.devices.items c.args.self.actors.items
    (length c.loop-actor.yielded) c.in-Some.actor c.actors.ensures.record c.requires.player.devices
    c.requires.player.actors turn in
    let number = c.number.ensures.number in
    let few = ap length c.actors.ensures.actors in
    record {
      within =
          omega (
            arith,
            slice_get_within c.args.rec.now.actors c.in-Some.actor.actor next.text next.is_text,
            number,
            few,
          );
    }

pub push_end-requires : goal.push_end-requires
push_end-requires c =
    let gives = c.into_iter-actor-iterator.ensures.into_iter_gives in
    let turn =
    YieldsList-turn
    (YieldsList-from_vec {s = c.into_iter-actor-iterator.result} c.args.self.actors.items gives.0 (gives.1
    ∙ c.args.self.actors.ok.0)) c.loop-actor.yielded c.loop-actor.actor-iterator c.loop-actor.yielded_by
    c.next.result c.next.new.self c.in-Some.actor c.in-Some.is c.next.ensures.steps in
    let next : IsNext c.args.rec.now c.args.self.devices.items c.in-Some.actor =
    is_next c.args.rec.now c.args.self.devices.items c.args.self.actors.items
    (length c.loop-actor.yielded) c.in-Some.actor c.actors.ensures.record c.requires.player.devices
    c.requires.player.actors turn in
    let number = c.number.ensures.number in
    let there : slice_get c.args.rec.now.actors c.in-Some.actor.actor ≡ Some c.get.result.now =
    rw (← number, ← c.actors.ensures.actors) c.get.ensures.item in
    next-device c.args.rec.now c.args.self.devices.items c.loop-actor.yielded c.in-Some.actor
    c.loop-actor.gathered.items c.get.result.now next there c.loop-actor.invariant

-- one actor more is finished, and its device gains its end
pub loop-actor-preserved : goal.loop-actor-preserved
loop-actor-preserved c =
    let gives = c.into_iter-actor-iterator.ensures.into_iter_gives in
    let turn =
    YieldsList-turn
    (YieldsList-from_vec {s = c.into_iter-actor-iterator.result} c.args.self.actors.items gives.0 (gives.1
    ∙ c.args.self.actors.ok.0)) c.loop-actor.yielded c.loop-actor.actor-iterator c.loop-actor.yielded_by
    c.next.result c.next.new.self c.in-Some.actor c.in-Some.is c.next.ensures.steps in
    let next : IsNext c.args.rec.now c.args.self.devices.items c.in-Some.actor =
    is_next c.args.rec.now c.args.self.devices.items c.args.self.actors.items
    (length c.loop-actor.yielded) c.in-Some.actor c.actors.ensures.record c.requires.player.devices
    c.requires.player.actors turn in
    let number = c.number.ensures.number in
    let there : slice_get c.args.rec.now.actors c.in-Some.actor.actor ≡ Some c.get.result.now =
    rw (← number, ← c.actors.ensures.actors) c.get.ensures.item in
    let more : HasEndMore c.loop-actor.gathered.items c.push_end.new.gathered.items c.get.result.now.device
    (ended_of c.in-Some.actor) =
    rw c.finish.ensures.ended at c.in_ok-push_end.ensures in
    one_more_end c.args.rec.now c.args.self.devices.items c.loop-actor.yielded c.in-Some.actor
    c.loop-actor.gathered.items c.push_end.new.gathered.items c.get.result.now next there
    c.loop-actor.invariant more

-- all actors are finished, so what was gathered is the runs of all devices
pub returns : goal.returns
returns c =
    let gives = c.into_iter-actor-iterator.ensures.into_iter_gives in
    let end =
    YieldsList-end
    (YieldsList-from_vec {s = c.into_iter-actor-iterator.result} c.args.self.actors.items gives.0 (gives.1
    ∙ c.args.self.actors.ok.0)) c.loop-actor.yielded c.loop-actor.actor-iterator c.loop-actor.yielded_by
    c.next.result c.next.new.self c.in-None.is c.next.ensures.steps in
    let all : c.loop-actor.yielded ≡ c.args.self.actors.items = sym (map-id c.loop-actor.yielded) ∙ end.0 in
    let gathered : c.loop-actor.gathered.items ≡ runs_of c.args.rec.now (stage_of c.args.self) =
    rw (c.loop-actor.invariant, all) in
    record { played = rw gathered at c.of.ensures.played }

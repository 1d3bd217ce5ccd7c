use Rattle.std.proofs.Common.{◌≡◌, ◌≤◌, ℕ, ◌+◌, length, take, drop, refl, sym, ap, subst}
use Rattle.std.proofs.Common.{◌∙◌, Some, arith}
use Rattle.std.specs.Prelude.{slice_set}
use Rattle.std.proofs.lemmas.List.{length-take-le}
use Rattle.inp_script.proofs.Common.{ActorText, Line, RecordView, ActorView}
use Rattle.inp_model.proofs.Leaves.{description-kept}
use Rattle.inp_uinput.specs.UdevView.{owned_view}
use Rattle.inp_play.specs.declared.player.Player.{Player}
use Rattle.inp_play.proofs.Common.{UdevView, stage_of, stage_with, HasDevices, HasActors}
use Rattle.inp_play.proofs.Common.{after_lines}
use Rattle.inp_play.proofs.PlayerLines.{IsFound, found-line, found-description, found-same_role, same_item}
use Rattle.inp_play.proofs.PlayerLines.{act_does, act_described, inject_does, devices_stay, actors_stay}
use Rattle.inp_play.proofs.PlayerSteps.{IsDone, found_by, one-line}
use Rattle.inp_runs.proofs.EventLines.{gathered-injects, gathered-within, injects-in_time, injects-source}
use Rattle.inp_play.proofs.player.Player.lines.Goals as goal

-- What lines leave that an actor did on its device

leaves : (r : RecordView) (number count rounds : ℕ) (old new : Player) (line : Line) (text : ActorText)
    (a b : ActorView) (device after : UdevView)
    → IsFound r old.devices.items old.actors.items number line text a device
    → 1 ≤ count → number + count ≤ length r.lines
    → new.devices.items ≡ slice_set old.devices.items text.device after
    → new.actors.items ≡ slice_set old.actors.items line.actor b
    → b ≡ record a { job = b.job; owning = b.owning } → after.description ≡ device.description
    → after_lines r rounds (stage_of old) (take count (drop number r.lines))
    ≡ Some (stage_with (slice_set old.devices.items text.device after)
    (slice_set old.actors.items line.actor b)) → IsDone r number count old new
leaves r number count rounds old new line text a b device after f some within devices actors actor same does =
    record {
      done = record {
        some = some;
        within = within;
        rounds = rounds;
        does = rw (does, ← devices, ← actors);
      };
      player = record {
        devices =
            subst (HasDevices r) (sym devices)
            (devices_stay r old.devices.items text.device device after f.has_devices f.is_device same);
        actors =
            subst (HasActors r) (ap (slice_set old.actors.items line.actor) (sym actor) ∙ sym actors)
            (actors_stay r old.actors.items line.actor a b.job b.owning f.has_actors f.is_actor);
      };
    }

-- One line that injects no event

pub do_line-requires : goal.do_line-requires
do_line-requires c =
    let r = c.args.rec.now in
    let a = c.index_mut-actor.result.now in
    let f =
    found_by r c.args.self.now c.args.line c.get-text.result.now c.get.result.now a c.index_mut-dev.result.now
    _ _ c.lines-lines.ensures.record c.requires.player
    c.lines-lines.ensures.lines c.get-text.ensures.item c.actors.ensures.actors c.get.ensures.item
    c.index_mut-actor.ensures.value c.index_mut-dev.ensures.value in
    record {
      actor = (f.has_actors.each c.get-text.result.now.actor a f.is_actor).1;
      line =
          found-line r c.args.self.now.devices.items c.args.self.now.actors.items c.args.line
          c.get-text.result.now c.get.result.now a c.index_mut-dev.result.now f;
      device =
          λ caller. found-description r c.args.self.now.devices.items c.args.self.now.actors.items c.args.line
          c.get-text.result.now c.get.result.now a c.index_mut-dev.result.now f;
      wait = tt;
    }

pub returns-then-count-eq0 : goal.returns-then-count-eq0
returns-then-count-eq0 c =
    let r = c.args.rec.now in
    let old : Player = c.args.self.now in
    let number = c.args.line in
    let line : Line = c.get-text.result.now in
    let text : ActorText = c.get.result.now in
    let a = c.index_mut-actor.result.now in
    let b = c.do_line.new.self in
    let device = c.index_mut-dev.result.now in
    let after = c.do_line.new.dev in
    let f = found_by r old number line text a device _ _ c.lines-lines.ensures.record c.requires.player
    c.lines-lines.ensures.lines c.get-text.ensures.item c.actors.ensures.actors c.get.ensures.item
    c.index_mut-actor.ensures.value c.index_mut-dev.ensures.value in
    let did = c.in_ok-do_line.ensures.done in
    let acts = rw (same_item r.lines number did.line line did.is_line f.is_line) at did.acts in
    let does =
    act_does r old.devices.items old.actors.items number line text a b device after
    c.lines-lines.ensures.record f acts in
    let all =
    leaves r number 1 does.0 old _ line text a b device after f (omega arith)
    (omega (arith, c.requires.line)) refl refl c.in_ok-do_line.ensures.actor
    (act_described r line a b device after acts)
    (one-line r does.0 number (stage_of old) _ line f.is_line does.1) in
    record { done = all.done; player = all.player }

-- Lines that inject events of one source

-- an event was gathered of the actor's lines, so it is a source
pub inject_all-requires-clause-source : goal.inject_all-requires-clause-source
inject_all-requires-clause-source c =
    let r = c.args.rec.now in
    let count = c.gather_front-count.result in
    let f =
    found_by r c.args.self.now c.args.line c.get-text.result.now c.get.result.now c.index_mut-actor.result.now
    c.index_mut-dev.result.now _ _ c.lines-lines.ensures.record c.requires.player
    c.lines-lines.ensures.lines c.get-text.ensures.item c.actors.ensures.actors c.get.ensures.item
    c.index_mut-actor.ensures.value c.index_mut-dev.ensures.value in
    let are =
    gathered-injects r c.args.line count count c.get-text.result.now.actor c.as_slice.result.now _
    (c.as_slice.ensures.items ∙ c.lines-lines.ensures.lines) (omega arith)
    c.gather_front-count.ensures.gathered in
    sym
    (found-same_role r c.args.self.now.devices.items c.args.self.now.actors.items c.args.line
    c.get-text.result.now c.get.result.now c.index_mut-actor.result.now c.index_mut-dev.result.now f)
    ∙ injects-source r c.args.line count c.get-text.result.now.actor c.get.result.now _
    c.lines-lines.ensures.record f.is_text are
    (omega (
      arith,
      c.if-count-eq0.false,
      length-take-le count c.gather_front-count.new.events c.gather_front-count.ensures.fits,
    ))

-- the events are those of the record's lines, whose moments are within their limit
pub inject_all-requires-clause-moments : goal.inject_all-requires-clause-moments
inject_all-requires-clause-moments c =
    let r = c.args.rec.now in
    let f =
    found_by r c.args.self.now c.args.line c.get-text.result.now c.get.result.now c.index_mut-actor.result.now
    c.index_mut-dev.result.now _ _ c.lines-lines.ensures.record c.requires.player
    c.lines-lines.ensures.lines c.get-text.ensures.item c.actors.ensures.actors c.get.ensures.item
    c.index_mut-actor.ensures.value c.index_mut-dev.ensures.value in
    injects-in_time r c.args.line c.gather_front-count.result c.get-text.result.now.actor c.get.result.now _
    c.lines-lines.ensures.record f.is_text
    (gathered-injects r c.args.line c.gather_front-count.result c.gather_front-count.result
    c.get-text.result.now.actor c.as_slice.result.now _
    (c.as_slice.ensures.items ∙ c.lines-lines.ensures.lines) (omega arith)
    c.gather_front-count.ensures.gathered)

-- the gathered lines were done by one call, which injected their events
pub returns : goal.returns
returns c =
    let r = c.args.rec.now in
    let old : Player = c.args.self.now in
    let number = c.args.line in
    let count = c.gather_front-count.result in
    let line : Line = c.get-text.result.now in
    let text : ActorText = c.get.result.now in
    let a = c.index_mut-actor.result.now in
    let b = c.inject_all.new.self in
    let device = c.index_mut-dev.result.now in
    let after = c.inject_all.new.dev in
    let f = found_by r old number line text a device _ _ c.lines-lines.ensures.record c.requires.player
    c.lines-lines.ensures.lines c.get-text.ensures.item c.actors.ensures.actors c.get.ensures.item
    c.index_mut-actor.ensures.value c.index_mut-dev.ensures.value in
    let same = c.as_slice.ensures.items ∙ c.lines-lines.ensures.lines in
    let are =
    gathered-injects r number count count line.actor c.as_slice.result.now _ same (omega arith)
    c.gather_front-count.ensures.gathered in
    let long = length-take-le count c.gather_front-count.new.events c.gather_front-count.ensures.fits in
    let some : 1 ≤ count = omega (arith, c.if-count-eq0.false) in
    let source = sym (found-same_role r old.devices.items old.actors.items number line text a device f)
    ∙ injects-source r number count line.actor text _ c.lines-lines.ensures.record f.is_text are
    (omega (arith, some, long)) in
    let holds = c.in_ok-inject_all.ensures.done in
    let actor = c.in_ok-inject_all.ensures.actor in
    let owns = ap (λ (x : ActorView). record a { job = b.job; owning = x.owning }) (sym actor) in
    let all =
    leaves r number count 0 old _ line text a b device after f some
    (gathered-within r number count count c.as_slice.result.now same c.requires.line (omega arith)
    c.gather_front-count.ensures.within)
    refl refl (actor ∙ owns)
    (description-kept (owned_view device) (owned_view after) holds.calls holds.are_calls)
    (ap (after_lines r 0 (stage_of old)) are
    ∙ inject_does r old.devices.items old.actors.items number line text a device after _ b.job f source holds
    ∙ ap (λ (x : ActorView).
    Some (stage_with (slice_set old.devices.items text.device after)
    (slice_set old.actors.items line.actor x))) (sym actor)) in
    record { done = all.done; player = all.player }

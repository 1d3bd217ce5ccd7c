use Rattle.std.proofs.Common.{◌≡◌, ◌∙◌, sym, ap}
use Rattle.std.specs.Prelude.{Some}
use Rattle.std.specs.List.{slice_get}
use Rattle.std.proofs.lemmas.Result.{on_ok_weaker}
use Rattle.inp_script.proofs.Common.{Line, RoleState, IsCommandFor, ActorView, Owner as OwnerRole}
use Rattle.inp_script.specs.declared.role.state.RoleState.TheVariants.{Owner}
use Rattle.inp_script.specs.RoleState.{role_of, role_description, job_in, owning_in}
use Rattle.inp_script.proofs.ActorLines.{caller-of, owns-done, owns-begun, calls-done, calls-begun}
use Rattle.inp_script.proofs.ActorLines.{still-actor}
use Rattle.inp_script.proofs.LinesDone.{command-of}
use Rattle.inp_script.proofs.actor.Actor.do_line.Goals as goal

-- A line of an owner

pub returns-in-Owner : goal.returns-in-Owner
returns-in-Owner g c =
    let r = c.args.rec.now in
    let old : ActorView = c.args.self.now in
    let got : Line = c.get.result.now in
    let is_line : slice_get r.lines c.args.line ≡ Some got =
    rw (← c.lines.ensures.lines) c.get.ensures.item in
    let command : IsCommandFor old.role r.streams got.command =
    command-of r old c.args.line got c.lines.ensures.«record» c.requires.actor c.requires.line is_line in
    let owner : old.role ≡ OwnerRole = sym (rw (← c.self.view_is)) ∙ ap role_of c.in-Owner.is in
    let owning : owning_in c.in-Owner.owner ≡ old.owning = rw (← c.self.view_is, c.in-Owner.is) in
    let of_state : RoleState → ActorView =
    λ s. record {
      actor = c.self.inside.actor;
      role = role_of s;
      description = role_description s;
      job = job_in s c.self.inside.notes;
      owning = owning_in c.do_command.new.self;
    } in
    let new : ActorView = of_state (Owner c.in-Owner.caps c.do_command.new.self) in
    let actor : new ≡ record old { owning = new.owning } = rw (← c.self.view_is, c.in-Owner.is) in
    record {
      done =
          on_ok_weaker c.do_command.result
          (owns-done g.D.Evdev.told g.D.Feeds.feeds _ _ r c.args.wait c.args.line old got is_line command
          owner new (owning_in c.in-Owner.owner) owning actor)
          c.do_command.ensures.done;
      begun =
          owns-begun g.D.Evdev.told g.D.Feeds.feeds _ _ r c.args.wait c.args.line old got is_line command
          owner c.do_command.ensures.begun;
      actor = rw (← c.self.view_is, c.in-Owner.is);
    }

-- A line of any other actor

-- an actor that is no owner does its line by calls of an evdev
pub returns-in_default : goal.returns-in_default
returns-in_default g c =
    let old : ActorView = c.args.self.now in
    let caller = caller-of c.self.inside.state c.in_default.not-Owner in
    record {
      done =
          on_ok_weaker c.line.result
          (calls-done g.D.Evdev.told g.D.Feeds.feeds _ _ c.args.rec.now c.args.wait c.args.line old _
          c.self.view_is caller c.line.new.self c.line.ensures.actor) c.line.ensures.done;
      begun =
          calls-begun g.D.Evdev.told g.D.Feeds.feeds _ _ c.args.rec.now c.args.wait c.args.line old _
          c.self.view_is caller c.line.ensures.begun;
      actor = still-actor old _ c.line.new.self c.self.view_is c.line.ensures.actor;
    }

use Rattle.std.proofs.Common.{◌∙◌, sym, rules}
use Rattle.std.specs.Prelude.{Some}
use Rattle.inp_model.proofs.Leaves.{left-none, left-one}
use Rattle.inp_script.proofs.Common.{Begins, Holds, Job, ActorView, end_talk, stick_of, job_in}
use Rattle.inp_script.proofs.TalkCalls.{begins-none}
use Rattle.inp_script.proofs.Lines.{ends-nothing, ends-noted, ends-begun}
use Rattle.inp_script.proofs.LinesDone.{end-done}
use Rattle.inp_script.proofs.actor.Actor.end.Goals as goal
use Rattle.inp_script.specs.RoleState.{role_reading}

-- a source that stopped makes no call at its end
pub returns-then-is_some : goal.returns-then-is_some
returns-then-is_some g c =
    let told = g.E.Evdev.told c.args.dev.now in
    let actor : ActorView = c.args.self.now in
    let all = end-done told told actor actor.job c.requires.device c.requires.source
    (ends-nothing told actor.job (rw (← c.self.view_is, ← c.is_some.ensures) c.if-is_some.true)) in
    record {
      done = all.done;
      begun = begins-none _ _;
      places = all.places;
      legal = all.legal;
      view = all.view;
      actor = search rules;
      left = left-none _;
    }

-- a source that goes on makes the call End, which is noted
pub returns : goal.returns
returns g c =
    let a = g.E.Evdev.told c.args.dev.now in
    let b = g.E.Evdev.told c.call.new.dev in
    let new : Job = job_in c.self.inside.state c.call.new.self in
    let ends : Holds a b (end_talk c.args.self.now.job.stop c.args.self.now.job) (Some new) =
    rw (← c.self.view_is)
    (ends-noted a b (role_reading c.self.inside.state)
    (stick_of c.self.inside.state) c.in_ok-call.field-0 c.self.inside.notes c.call.new.self
    (sym c.is_some.ensures ∙ c.if-is_some.false) c.in_ok-call.ensures.noted) in
    let begun : Begins a b (end_talk c.args.self.now.job.stop c.args.self.now.job) =
    rw (← c.self.view_is)
    (ends-begun a b (role_reading c.self.inside.state) (stick_of c.self.inside.state) c.self.inside.notes
    (sym c.is_some.ensures ∙ c.if-is_some.false) c.in_ok-call.ensures.made) in
    let all = end-done a b c.args.self.now new c.requires.device c.requires.source ends in
    record {
      done = all.done;
      begun = begun;
      places = all.places;
      legal = all.legal;
      view = all.view;
      actor = search rules;
      left = left-one _ _ _ c.in_ok-call.ensures.made.is_call;
    }

-- the call End was made, though memory ran out while it was noted
pub returns-in_err-call-clause-begun : goal.returns-in_err-call-clause-begun
returns-in_err-call-clause-begun g c =
    rw (← c.self.view_is)
    (ends-begun _ _ _ _ _ (sym c.is_some.ensures ∙ c.if-is_some.false) c.in_err-call.ensures.made)

pub returns-in_err-call-clause-left : goal.returns-in_err-call-clause-left
returns-in_err-call-clause-left g c = left-one _ _ _ c.in_err-call.ensures.made.is_call

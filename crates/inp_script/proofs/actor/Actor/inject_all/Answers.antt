use Rattle.std.proofs.Common.{◌≡◌, ◌∙◌, ap, rules, true, false}
use Rattle.std.specs.Prelude.{not, is_some}
use Rattle.std.proofs.lemmas.Result.{on_ok_weaker}
use Rattle.inp_model.proofs.Leaves.{left-none}
use Rattle.inp_script.proofs.Common.{ReaderState, Begins, inject_talk, Job, Stick, job_with}
use Rattle.inp_script.proofs.Common.{stick_of}
use Rattle.inp_script.proofs.TalkCalls.{begins-none, begins-left}
use Rattle.inp_script.proofs.Lines.{injects-nothing, injects-all, injects-begun, source-stick}
use Rattle.inp_script.proofs.actor.Actor.inject_all.Goals as goal
use Rattle.inp_script.specs.RoleState.{role_reading}

-- a source that stopped injects nothing
pub returns : goal.returns
returns g c =
    let told = g.E.Evdev.told c.args.dev.now in
    let j : Job = c.args.self.now.job in
    let stopped : is_some j.stop ≡ true = rw (← c.self.view_is, c.is_none.ensures, c.if-is_none.false) in
    record {
      done = injects-nothing told c.args.events.now j stopped;
      begun = begins-none _ _;
      actor = search rules;
      left = left-none _;
    }

-- a source that goes on injects the events as a stream
pub returns-then-is_none : goal.returns-then-is_none
returns-then-is_none g c =
    let a = g.E.Evdev.told c.args.dev.now in
    let b = g.E.Evdev.told c.inject_all.new.dev in
    let events = c.args.events.now in
    let r : ReaderState = role_reading c.self.inside.state in
    let stick : Stick = stick_of c.self.inside.state in
    let old : Job = job_with r stick c.self.inside.notes in
    let new : Job = job_with r stick c.inject_all.new.self in
    let none = source-stick c.self.inside.state (rw (← c.self.view_is) at c.requires.source) in
    let same : old ≡ c.args.self.now.job = rw (← c.self.view_is) in
    let goes : is_some old.stop ≡ false = c.is_none.ensures ∙ ap not c.if-is_none.true in
    let begun : Begins a b (inject_talk events c.args.self.now.job) =
    rw (← same)
    (injects-begun a b events old goes (rw none at (c.inject_all.ensures.begun r))) in
    record {
      done =
          on_ok_weaker c.inject_all.result
          (λ h. rw (← same)
          (injects-all a b events old new goes
          (rw none at (h r))))
          c.inject_all.ensures.done;
      begun = begun;
      actor = search rules;
      left = begins-left _ _ _ begun;
    }

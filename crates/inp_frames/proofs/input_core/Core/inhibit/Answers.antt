use Rattle.std.proofs.Common.{List, sym, ◌∙◌}
use Rattle.inp_model.specs.declared.event.Event.{Event}
use Rattle.inp_model.specs.Raw.{raw, releases}
use Rattle.inp_frames.proofs.EnteredSteps.{enters-inhibit, stays-inhibited}
use Rattle.inp_frames.proofs.input_core.Core.inhibit.Goals as goal

pub returns-else-not-self-clause-enters : goal.returns-else-not-self-clause-enters
returns-else-not-self-clause-enters g c = λ past h.
    stays-inhibited c.args.caps.now past c.args.now g.F.Frames.takes c.args.self.now c.args.to.now
    (sym (rw (← c.self.view_is)) ∙ c.if-not-self.false) h

pub returns-then-not-self-clause-enters : goal.returns-then-not-self-clause-enters
returns-then-not-self-clause-enters g c = λ past h.
    let all : List Event = releases c.args.caps.now (raw c.args.caps.now past) in
    rw (← c.self-then-not-self.view_is) at
    (enters-inhibit c.args.caps.now past c.args.now all g.F.Frames.takes c.args.self.now
    c.release_all.new.self c.args.to.now c.release_all.new.to h
    (simp (← c.self.view_is, c.if-not-self.true))
    (c.release_all.ensures.handled (sym (rw (← c.self.view_is)) ∙ c.if-not-self.true)
    (raw c.args.caps.now past) h.raw_events))

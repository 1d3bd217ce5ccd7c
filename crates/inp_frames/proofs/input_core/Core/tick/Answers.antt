use Rattle.std.proofs.Common.{[], ◌∷◌, sym, ◌∙◌}
use Rattle.inp_model.specs.Raw.{raw}
use Rattle.inp_frames.proofs.EnteredSteps.{tick-waits, tick-disarms, tick-fires, begins, awake_repeating}
use Rattle.inp_frames.proofs.input_core.Core.tick.Goals as goal

pub returns-then-not-is_due-clause-enters : goal.returns-then-not-is_due-clause-enters
returns-then-not-is_due-clause-enters g c = λ past h.
    tick-waits c.args.caps.now past c.args.now g.F.Frames.takes c.args.self.now c.args.to.now
    (sym c.is_due.ensures ∙ c.if-not-is_due.true) h

pub returns-then-not-may_repeat-clause-enters : goal.returns-then-not-may_repeat-clause-enters
returns-then-not-may_repeat-clause-enters g c = λ past h.
    tick-disarms c.args.caps.now past c.args.now g.F.Frames.takes c.args.self.now
    c.disarm.new.self c.args.to.now
    (sym c.is_due.ensures ∙ c.if-not-is_due.false) (sym c.may_repeat.ensures
    ∙ c.if-not-may_repeat.true) h c.disarm.ensures

pub returns-clause-enters : goal.returns-clause-enters
returns-clause-enters g c = λ past h.
    tick-fires c.args.caps.now past c.args.now g.F.Frames.takes c.args.self.now c.disarm.new.self
    c.inject_two.new.self c.rearm.new.self
    (c.repeat_event-repeat.result ∷ c.core_report.result ∷ []) c.args.to.now c.inject_two.new.to
    (sym c.is_due.ensures ∙ c.if-not-is_due.false) (sym c.may_repeat.ensures
    ∙ c.if-not-may_repeat.false) h c.disarm.ensures
    (rw (c.repeat_event-repeat.ensures, c.core_report.ensures))
    (c.inject_two.ensures.handled
    (awake_repeating c.disarm.new.self (sym c.may_repeat.ensures ∙ c.if-not-may_repeat.false))
    (raw c.args.caps.now past)
    (begins c.args.caps.now past c.args.self.now c.disarm.new.self h c.disarm.ensures))
    c.rearm.ensures.timer_rearmed

use Rattle.std.proofs.Common.{◌≡◌, length, reverse, ap, ◌∙◌, sym, subst, arith}
use Rattle.std.proofs.lemmas.List.{length-reverse}
use Rattle.inp_model.specs.declared.reply.Reply.TheVariants.{Done}
use Rattle.inp_model.specs.declared.step.Step.{Step}
use Rattle.inp_model.specs.Reply.{IsDeviceStep}
use Rattle.inp_model.specs.DeviceView.{DeviceView}
use Rattle.inp_device.specs.declared.present.Present.{Present}
use Rattle.inp_device.proofs.EnteredSteps.{inject_refused, inject_entered}
use Rattle.inp_device.proofs.device.Device.step.Goals as goal

pub returns-then-at-log-clause-step : goal.returns-then-at-log-clause-step
returns-then-at-log-clause-step c =
    let limit = c.log.ensures.log ∙ ap (λ (p : Present). p.caps.log_limit) c.deref.ensures in
    let long = length-reverse c.self.inside.steps.items in
    let P : Step → Type 0 =
    λ x. IsDeviceStep c.self.inside.present.value.caps
    (reverse c.self.inside.steps.items) x c.refuse.result c.args.out.now c.args.out.now c.args.cells.now
    c.args.cells.now (reverse c.self.inside.steps.items) in
    rw (← c.self.view_is) (subst P (sym c.in-Inject.is)
    (inject_refused _ _ _ _ c.refuse.result _ _
    (omega (arith, limit, long, c.len-at.ensures, c.if-at-log.true))
    (rw (c.refuse.ensures.refused, c.deref-then-at-log.ensures.value, ← long))))

pub returns-clause-step : goal.returns-clause-step
returns-clause-step c =
    let v = c.args.self.now in
    let limit : c.log.result ≡ v.description.log_limit =
    rw (← c.self.view_is, ← c.deref.ensures, ← c.log.ensures.log) in
    let long : length c.self.inside.steps.items ≡ length v.past = rw (← c.self.view_is, length-reverse) in
    let at : c.len-at.result ≡ length v.past = omega (arith, long, c.len-at.ensures) in
    let P : Step → Type 0 =
    λ x. IsDeviceStep v.description v.past x
    (Done c.len-at.result) c.args.out.now c.args.out.now c.args.cells.now c.args.cells.now
    c.enter.new.self.past in
    subst P (sym c.in-Inject.is)
    (inject_entered v.description v.past c.enter.new.self.past _ _ (Done c.len-at.result) _ _
    (omega (arith, limit, at, c.if-at-log.false)) (ap Done at)
    (ap (λ (d : DeviceView). d.past) c.enter.ensures.entered))

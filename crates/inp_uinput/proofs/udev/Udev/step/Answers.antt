use Rattle.std.proofs.Common.{ap, sym, ◌∙◌, ◌∷◌, if◌then◌else◌, reverse, option_to_list}
use Rattle.std.specs.Prelude.{vec_capacity}
use Rattle.inp_uinput.proofs.Udevs.{step_over, history_over, step_kept, beside_same, beside_made}
use Rattle.inp_device.specs.Device.{TellsSent}
use Rattle.inp_uinput.proofs.SentEvents.{sends}
use Rattle.inp_uinput.proofs.udev.Udev.step.Goals as goal

-- the event that the accepted step sent waits for the owner, and no feedback call was made
pub invariant_of-self : goal.invariant_of-self
invariant_of-self c =
    let d = c.self.inside.device.description in
    let past = c.self.inside.device.past in
    let calls = reverse c.self.inside.feedbacks.items in
    let room = vec_capacity c.self.inside.feedbacks in
    let new = c.step-reply.new.self in
    let entered =
    c.step-reply.ensures.step.entered
    ∙ ap (λ b. if b then c.args.step ∷ past else past) (sym c.is_accepted.ensures.accepted
    ∙ c.if-is_accepted.true) in
    let tells : TellsSent d past c.args.step new.sent =
    c.step-reply.ensures.sent (sym c.is_accepted.ensures.accepted ∙ c.if-is_accepted.true) in
    let sent =
    ap option_to_list (rw (c.sent_by-sent.ensures.sent, c.sent.ensures.sent))
    ∙ sends d past c.args.step new.sent tells in
    beside_same d new.description
    (c.args.step ∷ past) new.past calls room c.keep.new.waiting c.step-reply.ensures.description entered
    (beside_made d past calls room c.args.step c.sent_by-sent.result c.self.inside.waiting.value
    c.deref_mut.result.now c.keep.new.waiting
    c.self.invariant c.deref_mut.ensures.value sent c.keep.ensures.kept)

pub returns-then-is_accepted-clause-step : goal.returns-then-is_accepted-clause-step
returns-then-is_accepted-clause-step c =
    rw (← c.self.view_is)
    (step_over c.self.inside.device.description c.self.inside.device.past c.step-reply.new.self.past
    (reverse c.self.inside.feedbacks.items) c.args.step c.step-reply.result _ _ _ _ c.step-reply.ensures.step)

pub returns-then-is_accepted-clause-kept : goal.returns-then-is_accepted-clause-kept
returns-then-is_accepted-clause-kept c =
    rw (
      ← c.self.view_is,
      ← step_kept c.self.inside.device.past c.step-reply.new.self.past
          (reverse c.self.inside.feedbacks.items) c.args.step c.step-reply.result c.self.invariant.within
          c.step-reply.ensures.step.entered,
    )

pub returns-then-is_accepted-clause-accepted : goal.returns-then-is_accepted-clause-accepted
returns-then-is_accepted-clause-accepted c =
    history_over c.step-reply.new.self.description c.step-reply.new.self.past
    (reverse c.self.inside.feedbacks.items) c.step-reply.ensures.accepted

pub returns-then-is_accepted-clause-before : goal.returns-then-is_accepted-clause-before
returns-then-is_accepted-clause-before c =
    rw (← c.self.view_is)
    (history_over c.self.inside.device.description c.self.inside.device.past
    (reverse c.self.inside.feedbacks.items) c.step-reply.ensures.before)

pub returns-else-is_accepted-clause-step : goal.returns-else-is_accepted-clause-step
returns-else-is_accepted-clause-step c =
    rw (← c.self.view_is)
    (step_over c.self.inside.device.description c.self.inside.device.past c.step-reply.new.self.past
    (reverse c.self.inside.feedbacks.items) c.args.step c.step-reply.result _ _ _ _ c.step-reply.ensures.step)

pub returns-else-is_accepted-clause-accepted : goal.returns-else-is_accepted-clause-accepted
returns-else-is_accepted-clause-accepted c =
    history_over c.step-reply.new.self.description c.step-reply.new.self.past
    (reverse c.self.inside.feedbacks.items) c.step-reply.ensures.accepted

pub returns-else-is_accepted-clause-before : goal.returns-else-is_accepted-clause-before
returns-else-is_accepted-clause-before c =
    rw (← c.self.view_is)
    (history_over c.self.inside.device.description c.self.inside.device.past
    (reverse c.self.inside.feedbacks.items) c.step-reply.ensures.before)

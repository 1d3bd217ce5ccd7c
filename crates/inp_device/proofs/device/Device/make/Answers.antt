use Rattle.std.proofs.Common.{◌≡◌, Some, sym, reverse, [], ◌∷◌, ◌++◌, ◌<◌, length, if◌then◌else◌, ap, ◌∙◌}
use Rattle.std.proofs.Common.{arith}
use Rattle.std.specs.Prelude.{Ok, is_ok, vec_capacity}
use Rattle.inp_device.specs.declared.present.Present.{Present}
use Rattle.std.proofs.lemmas.Bool.{true≢false}
use Rattle.inp_model.specs.Reply.{is_accepted, refused}
use Rattle.inp_model.proofs.Refused.{refused-not_accepted}
use Rattle.inp_client.specs.Numbers.{stored_of}
use Rattle.inp_device.proofs.EnteredSteps.{device_stored, told_of, made_of, refused_step, ready, room}
use Rattle.inp_device.proofs.EnteredSteps.{entered_kept, device_made, device_lacks}
use Rattle.inp_device.proofs.device.Device.make.Goals as goal

pub returns-in-Some-clause-step : goal.returns-in-Some-clause-step
returns-in-Some-clause-step c =
    rw (← c.self.view_is) (refused_step _ _ c.args.step c.in-Some.reply _ _
    (told_of c.deref.result.now _ c.deref-2.result.now _ c.args.step c.refusal.result c.deref.ensures
    c.deref-2.ensures.value c.refusal.ensures.exact ∙ c.in-Some.is))

pub accept-requires-clause-ready : goal.accept-requires-clause-ready
accept-requires-clause-ready c =
    let none =
    told_of c.deref.result.now _ c.deref-2.result.now _ c.args.step c.refusal.result c.deref.ensures
    c.deref-2.ensures.value c.refusal.ensures.exact ∙ c.in_default.is in
    rw (c.deref_mut.ensures.value, c.deref-3.ensures.value) (ready c.args.step c.self.invariant none)

-- the capacity is above the number of steps, so the push succeeds
pub unwrap-requires : goal.unwrap-requires
unwrap-requires c =
    let none =
    told_of c.deref.result.now _ c.deref-2.result.now _ c.args.step c.refusal.result c.deref.ensures
    c.deref-2.ensures.value c.refusal.ensures.exact ∙ c.in_default.is in
    let below : length c.self.inside.steps.items < vec_capacity c.self.inside.steps =
    room c.args.step c.self.invariant none in
    c.push.ensures.succeeds (omega (arith, below, c.deref-2.ensures.len, ap length c.deref-2.ensures.value))

pub invariant_of-self-in-Ok : goal.invariant_of-self-in-Ok
invariant_of-self-in-Ok c =
    let none =
    told_of c.deref.result.now _ c.deref-2.result.now _ c.args.step c.refusal.result c.deref.ensures
    c.deref-2.ensures.value c.refusal.ensures.exact ∙ c.in_default.is in
    entered_kept c.args.step c.self.invariant none
    (made_of (Ok c.in-Ok.reply) c.deref_mut.result.now _ _ c.deref-3.result.now _ c.args.step _ _ _ _
    c.deref_mut.ensures.value c.deref-3.ensures.value c.in-Ok.ensures.made)
    (rw (c.push.ensures.items, c.unwrap.ensures))
    c.push.ensures.capacity

pub returns-in-Ok-clause-step : goal.returns-in-Ok-clause-step
returns-in-Ok-clause-step c =
    let none =
    told_of c.deref.result.now _ c.deref-2.result.now _ c.args.step c.refusal.result c.deref.ensures
    c.deref-2.ensures.value c.refusal.ensures.exact ∙ c.in_default.is in
    rw (← c.self.view_is)
    (device_made none
    (made_of (Ok c.in-Ok.reply) c.deref_mut.result.now _ _ c.deref-3.result.now _ c.args.step _ _ _ _
    c.deref_mut.ensures.value c.deref-3.ensures.value c.in-Ok.ensures.made)
    (c.push.ensures.items
    ∙ ap (λ r. if is_ok r then c.self.inside.steps.items ++ c.args.step ∷ [] else c.self.inside.steps.items)
    c.unwrap.ensures))

pub returns-in-Err-clause-step : goal.returns-in-Err-clause-step
returns-in-Err-clause-step c =
    let none =
    told_of c.deref.result.now _ c.deref-2.result.now _ c.args.step c.refusal.result c.deref.ensures
    c.deref-2.ensures.value c.refusal.ensures.exact ∙ c.in_default.is in
    rw (← c.self.view_is)
    (device_lacks none c.in-Err.ensures.made.0 c.in-Err.ensures.made.1 c.in-Err.ensures.made.2
    c.deref-in-Err.ensures.value c.refuse.ensures.refused)

pub returns-in-Ok-clause-stored : goal.returns-in-Ok-clause-stored
returns-in-Ok-clause-stored c =
    rw (← c.self.view_is)
    (device_stored _ c.deref_mut.result.now c.accept.new.self _ c.deref-3.result.now c.args.step
    c.deref_mut.ensures.value c.deref-3.ensures.value c.in-Ok.ensures.stored)

pub returns-in-Err-clause-stored_stays : goal.returns-in-Err-clause-stored_stays
returns-in-Err-clause-stored_stays c refused =
    rw (← c.self.view_is, c.in-Err.ensures.stored, c.deref_mut.ensures.value)

pub returns-in-Err-clause-stored : goal.returns-in-Err-clause-stored
returns-in-Err-clause-stored c =
    rw (← c.self.view_is)
    (omega (
      arith,
      c.in-Err.ensures.stored
          ∙ ap (λ (p : Present). stored_of p.handler.clients) c.deref_mut.ensures.value,
    ))

pub returns-in-Some-clause-sent : goal.returns-in-Some-clause-sent
returns-in-Some-clause-sent c accepted =
    let caps = c.self.inside.present.value.caps in
    let past = reverse c.self.inside.steps.items in
    let refuses : refused caps past c.args.step ≡ Some c.in-Some.reply =
    told_of c.deref.result.now _ c.deref-2.result.now _ c.args.step c.refusal.result c.deref.ensures
    c.deref-2.ensures.value c.refusal.ensures.exact ∙ c.in-Some.is in
    absurd (true≢false (sym accepted ∙ refused-not_accepted caps past c.args.step c.in-Some.reply refuses))

pub returns-in-Ok-clause-sent : goal.returns-in-Ok-clause-sent
returns-in-Ok-clause-sent c accepted =
    rw (← c.self.view_is) (rw (c.deref_mut.ensures.value, c.deref-3.ensures.value) at c.in-Ok.ensures.sent)

pub returns-in-Err-clause-sent : goal.returns-in-Err-clause-sent
returns-in-Err-clause-sent c accepted =
    absurd (true≢false (sym accepted ∙ ap is_accepted c.refuse.ensures.refused))

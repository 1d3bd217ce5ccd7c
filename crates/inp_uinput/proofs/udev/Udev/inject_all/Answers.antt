use Rattle.std.proofs.Common.{◌≡◌, ◌<◌, ◌-◌, length, take, get_or, reverse, refl, ap, ◌∙◌, arith}
use Rattle.std.specs.Prelude.{min, vec_capacity}
use Rattle.std.proofs.lemmas.List.{length-take, length-reverse}
use Rattle.inp_model.specs.Injection.{inject_of}
use Rattle.inp_device.specs.Device.{plain_view}
use Rattle.inp_device.proofs.Injection.{no_stamped}
use Rattle.inp_feedback.specs.UEntry.{steps_in, kept_after_events}
use Rattle.inp_feedback.specs.KeptList.{kept_of}
use Rattle.inp_uinput.specs.contracts.udev.Udev.{the_view}
use Rattle.inp_uinput.specs.UdevView.{UdevView}
use Rattle.inp_feedback.proofs.Lists.{steps_in-kept_of}
use Rattle.inp_uinput.proofs.Udevs.{history_over, view_entered, beside_entered, kept-room, kept-more}
use Rattle.inp_uinput.proofs.udev.Udev.inject_all.Goals as goal

-- before the first event all is as it was
pub loop-stamped-init : goal.loop-stamped-init
loop-stamped-init c = record {
  kept = record {
    kept = c.self.view_is;
    accepted =
        history_over c.self.inside.device.description c.self.inside.device.past
        (reverse c.self.inside.feedbacks.items) c.history-from.ensures.accepted;
  };
  beside = c.self.invariant;
}

-- as many events are tried as the history has room for, so there is room for each
pub enter-sent-requires-clause-room : goal.enter-sent-requires-clause-room
enter-sent-requires-clause-room c =
    let v : UdevView = c.args.self.now in
    let limit : c.log.result ≡ v.description.log_limit =
    rw (← c.self.view_is, ← c.caps.ensures.description, ← c.log.ensures.log) in
    let from : length c.history-from.result.now ≡ length (steps_in v.kept) =
    rw (
      ← c.self.view_is,
      steps_in-kept_of c.self.inside.device.past (reverse c.self.inside.feedbacks.items),
      ← length-reverse c.self.inside.device.past,
      ← c.history-from.ensures.history,
    ) in
    let inside = c.loop-stamped.self-inside in
    let calls = reverse inside.feedbacks.items in
    let below : length (steps_in (kept_of inside.device.past calls)) < inside.device.description.log_limit =
    kept-room v c.args.events.now c.min-count.result c.loop-stamped.stamped-index (the_view inside)
    c.loop-stamped.invariant.kept
    (c.min-count.ensures
    ∙ ap (min (length c.args.events.now)) (c.saturating_sub-room.ensures ∙ (λ i. limit i - from i)))
    c.loop-stamped-test.true in
    omega (arith, below, ap length (steps_in-kept_of inside.device.past calls))

-- the event is one entry more, after those that were entered before it, and waits if it goes to the device
pub loop-stamped-preserved : goal.loop-stamped-preserved
loop-stamped-preserved c =
    let inside = c.loop-stamped.self-inside in
    let new = c.enter-sent.new.self in
    let calls = reverse inside.feedbacks.items in
    let stamped =
    get_or (take c.min-count.result c.args.events.now) c.loop-stamped.stamped-index no_stamped in
    let beside = c.loop-stamped.invariant.beside in
    record {
      kept =
          kept-more c.args.self.now c.args.events.now c.min-count.result c.loop-stamped.stamped-index
          (the_view inside) _ stamped c.loop-stamped.invariant.kept c.loop-stamped-test.true refl
          (view_entered (plain_view inside.device) (plain_view new) calls (inject_of stamped) beside.within
          c.enter-sent.ensures.entered)
          (history_over new.description new.past calls c.enter-sent.ensures.accepted);
      beside =
          beside_entered (plain_view inside.device) (plain_view new) calls (vec_capacity inside.feedbacks)
          stamped c.enter-sent.result inside.waiting.value c.deref_mut.result.now c.keep.new.waiting beside
          c.enter-sent.ensures.entered c.enter-sent.ensures.answer c.deref_mut.ensures.value
          (rw c.then_some.ensures at c.keep.ensures.kept);
    }

pub returns-clause-from : goal.returns-clause-from
returns-clause-from c =
    rw (
      ← c.self.view_is,
      steps_in-kept_of c.self.inside.device.past (reverse c.self.inside.feedbacks.items),
      ← length-reverse c.self.inside.device.past,
      ← c.history-from.ensures.history,
    )

-- as many events are entered as there are, or as the history has room for
pub returns-clause-count : goal.returns-clause-count
returns-clause-count c =
    let limit : c.log.result ≡ c.args.self.now.description.log_limit =
    rw (← c.self.view_is, ← c.caps.ensures.description, ← c.log.ensures.log) in
    c.min-count.ensures
    ∙ ap (min (length c.args.events.now)) (c.saturating_sub-room.ensures
    ∙ (λ i. limit i - length c.history-from.result.now))

pub returns-clause-kept : goal.returns-clause-kept
returns-clause-kept c =
    ap (λ (u : UdevView). u.kept) c.loop-stamped.invariant.kept.kept
    ∙ ap (λ n. kept_after_events (take n c.args.events.now) c.args.self.now.kept)
    (omega (arith, length-take c.min-count.result c.args.events.now))

-- no event changes the description
pub returns-clause-description : goal.returns-clause-description
returns-clause-description c = ap (λ (u : UdevView). u.description) c.loop-stamped.invariant.kept.kept

-- no event is answered Again, so the count of such answers stays
pub returns-clause-agains : goal.returns-clause-agains
returns-clause-agains c = ap (λ (u : UdevView). u.agains) c.loop-stamped.invariant.kept.kept

-- each event that was entered is an accepted step
pub returns-clause-accepted : goal.returns-clause-accepted
returns-clause-accepted c = c.loop-stamped.invariant.kept.accepted

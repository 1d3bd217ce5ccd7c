use Rattle.std.proofs.Common.{◌≡◌, ◌≤◌, ◌<◌, ◌∙◌, ap, sym, subst, reverse, length, ◌++◌, ◌∷◌, [], true, false}
use Rattle.std.proofs.Common.{arith, drop, rules}
use Rattle.std.specs.Prelude.{vec_capacity, min}
use Rattle.std.proofs.lemmas.List.{length-reverse}
use Rattle.circular_buffer.specs.Buffer.{Buffer, buffer}
use Rattle.inp_model.specs.declared.event.Event.{Event}
use Rattle.inp_model.specs.Description.{Description}
use Rattle.inp_feedback.specs.declared.feedback_call.FeedbackCall.{FeedbackCall}
use Rattle.inp_feedback.specs.declared.fed.TheConstants.{FEEDBACK_MAX}
use Rattle.inp_feedback.specs.Feedback.{feedback_queue, is_full_of_feedback}
use Rattle.inp_feedback.specs.KeptList.{kept_of}
use Rattle.inp_uinput.specs.KeptBeside.{IsKeptBeside}
use Rattle.inp_uinput.proofs.Udevs.{queue_within, at_limit, full_answer, full_taken, full_kept, below_limit}
use Rattle.inp_uinput.proofs.Udevs.{some_answer, some_written, some_kept, calls_pushed, beside_fed}
use Rattle.inp_uinput.proofs.udev.Udev.feedback.Goals as goal

pub returns-then-len-log : goal.returns-then-len-log
returns-then-len-log c =
    let d = c.self.inside.device.description in
    let past = c.self.inside.device.past in
    let calls = reverse c.self.inside.feedbacks.items in
    let room = length c.args.out.now in
    let limit : d.log_limit ≤ length calls =
    omega (
      arith,
      length-reverse c.self.inside.feedbacks.items,
      c.log.ensures.log,
      ap (λ (d : Description). d.log_limit) c.caps.ensures.description,
    ) in
    let full : is_full_of_feedback d (kept_of past calls) ≡ true = at_limit d past calls room limit in
    let place : length c.history.result.now ≡ length past =
    ap length c.history.ensures.history ∙ length-reverse past in
    rw (← c.self.view_is) (record {
      answer = rw place (full_answer d past calls room full);
      written = rw (full_taken d past calls room full);
      kept = rw (← full_kept d past calls room full);
    })

pub overflow_cast-count : goal.overflow_cast-count
overflow_cast-count c =
    let d = c.self.inside.device.description in
    let past = c.self.inside.device.past in
    let calls = reverse c.self.inside.feedbacks.items in
    let room = length c.args.out.now in
    let waits : c.deref_mut.result.now ≡ buffer (feedback_queue d (kept_of past calls)) FEEDBACK_MAX =
    c.deref_mut.ensures.value ∙ c.self.invariant.waits in
    let count : c.read_into-count.result ≡ min room (length (feedback_queue d (kept_of past calls))) =
    rw (c.read_into-count.ensures.count, waits) in
    let few = queue_within d (kept_of past calls) in
    search rules

-- the events that were taken wait no longer, and the call is kept behind the others
pub invariant_of-self : goal.invariant_of-self
invariant_of-self c =
    let d = c.self.inside.device.description in
    let past = c.self.inside.device.past in
    let calls = reverse c.self.inside.feedbacks.items in
    let below : length calls < d.log_limit =
    omega (
      arith,
      length-reverse c.self.inside.feedbacks.items,
      c.log.ensures.log,
      ap (λ (d : Description). d.log_limit) c.caps.ensures.description,
    ) in
    let place : length c.history.result.now ≡ length past =
    ap length c.history.ensures.history ∙ length-reverse past in
    let call : FeedbackCall = record { at = length c.history.result.now; count = c.read_into-count.result } in
    let pushed : c.push.new.self.items ≡ c.self.inside.feedbacks.items ++ call ∷ [] =
    rw (c.push.ensures.items, c.unwrap.ensures) in
    let turned : call ∷ calls ≡ reverse c.push.new.self.items =
    calls_pushed c.self.inside.feedbacks.items call ∙ ap reverse (sym pushed) in
    let old : Buffer Event = c.self.inside.waiting.value in
    let left : buffer (drop c.read_into-count.result old.items) old.capacity ≡ c.read_into-count.new.self =
    rw (← c.deref_mut.ensures.value) (sym c.read_into-count.ensures.items) in
    subst (IsKeptBeside d past (reverse c.push.new.self.items) (vec_capacity c.push.new.self)) left
    (rw turned at
    (beside_fed d past calls call (vec_capacity c.self.inside.feedbacks)
    (vec_capacity c.push.new.self) old c.self.invariant place below c.push.ensures.capacity))

-- there is room for the call, so it takes the first events that wait, and is kept
pub returns : goal.returns
returns c =
    let d = c.self.inside.device.description in
    let past = c.self.inside.device.past in
    let calls = reverse c.self.inside.feedbacks.items in
    let room = length c.args.out.now in
    let below : length calls < d.log_limit =
    omega (
      arith,
      length-reverse c.self.inside.feedbacks.items,
      c.log.ensures.log,
      ap (λ (d : Description). d.log_limit) c.caps.ensures.description,
    ) in
    let some : is_full_of_feedback d (kept_of past calls) ≡ false = below_limit d past calls room below in
    let place : length c.history.result.now ≡ length past =
    ap length c.history.ensures.history ∙ length-reverse past in
    let waits : c.deref_mut.result.now ≡ buffer (feedback_queue d (kept_of past calls)) FEEDBACK_MAX =
    c.deref_mut.ensures.value ∙ c.self.invariant.waits in
    let count : c.read_into-count.result ≡ min room (length (feedback_queue d (kept_of past calls))) =
    rw (c.read_into-count.ensures.count, waits) in
    let call : FeedbackCall = record { at = length c.history.result.now; count = c.read_into-count.result } in
    let pushed : c.push.new.self.items ≡ c.self.inside.feedbacks.items ++ call ∷ [] =
    rw (c.push.ensures.items, c.unwrap.ensures) in
    let turned : call ∷ calls ≡ reverse c.push.new.self.items =
    calls_pushed c.self.inside.feedbacks.items call ∙ ap reverse (sym pushed) in
    rw (← c.self.view_is) (record {
      answer = rw place (some_answer d past calls room c.read_into-count.result some count);
      written =
          rw (c.read_into-count.ensures.read, waits)
          (some_written d past calls room c.read_into-count.result c.args.out.now some count);
      kept = rw (← turned, some_kept d past calls room call some place count);
    })

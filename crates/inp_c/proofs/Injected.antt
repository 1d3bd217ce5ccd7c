-- An event that is injected by the call for many is a step of the device.
use Rattle.std.proofs.Common.{◌≡◌, ◌<◌, ◌≤◌, ℕ, zero, suc, ◌-◌, Bool, true, false, nat_le, List, [], ◌∷◌}
use Rattle.std.proofs.Common.{length, take, min, Option, Some, None, refl, sym, ap, ◌∙◌, arith}
use Rattle.std.proofs.lemmas.Bool.{cond-true, cond-false}
use Rattle.std.proofs.lemmas.Bool.Decides.{nat_tests}
use Rattle.std.proofs.Math.Nat.{min-le_right, min-eq_left}
use Rattle.inp_model.specs.declared.event.Event.{Event}
use Rattle.inp_model.specs.declared.stamped.Stamped.{Stamped}
use Rattle.inp_model.specs.declared.stamped.TheConstants.{MOMENT_MAX}
use Rattle.inp_model.specs.declared.step.Step.TheVariants.{Inject}
use Rattle.inp_model.specs.declared.reply.Reply.{Reply}
use Rattle.inp_model.specs.declared.reply.Reply.TheVariants.{Refused}
use Rattle.inp_model.specs.declared.reply.Refusal.TheVariants.{LogFull}
use Rattle.inp_model.specs.Description.{Description}
use Rattle.inp_model.specs.Injection.{AreInTime, entered_count}
use Rattle.inp_model.specs.Reply.{Answer, answer, answer_by, alone, done_answer}
use Rattle.inp_model.specs.Run.{place_of}
use Rattle.inp_model.specs.Evdev.{agains_after}
use Rattle.inp_feedback.specs.declared.u_entry.UEntry.{UEntry}
use Rattle.inp_feedback.specs.UEntry.{steps_in, kept_after_step, kept_after_events}
use Rattle.inp_c.specs.Told.{told_refusal}
use Rattle.inp_c.specs.Injection.{inject_cause}

-- one event that is in time
pub one_in_time : (stamped : Stamped) → stamped.now ≤ MOMENT_MAX → AreInTime (stamped ∷ [])
one_in_time stamped h zero s there = grind (arith, h, there)
one_in_time stamped h (suc i) s there = grind (arith, there)

-- what the device's step leaves and tells, said of the history's length and of how many events were entered
pub record IsOneStep (d : Description) (kept new_kept : List UEntry) (e : Event)
    (now from count : ℕ) : Type 0 where
  -- the kept list is the one after the step that injects the event
  pub enters : new_kept ≡ kept_after_step (answer d (steps_in kept) (Inject e now)).reply (Inject e now) kept
  -- injecting is never answered Again, so the count of such answers stays
  pub stays : (agains : ℕ) → agains_after (answer d (steps_in kept) (Inject e now)).reply agains ≡ agains
  -- the history's length before it is the place that the step's reply tells
  pub place : from ≡ place_of (answer d (steps_in kept) (Inject e now)).reply
  -- the cause of a refusal is the reply's, and 0 where the event was entered
  pub cause : inject_cause count ≡ told_refusal (answer d (steps_in kept) (Inject e now)).reply

-- what follows of an answer that is known
of_answer : (d : Description) (kept new_kept : List UEntry) (e : Event) (now from count : ℕ) (given : Answer)
    → answer d (steps_in kept) (Inject e now) ≡ given
    → new_kept ≡ kept_after_step given.reply (Inject e now) kept
    → ((agains : ℕ) → agains_after given.reply agains ≡ agains) → from ≡ place_of given.reply
    → inject_cause count ≡ told_refusal given.reply
    → IsOneStep d kept new_kept e now from count
of_answer d kept new_kept e now from count given is enters stays place cause = record {
  enters = enters ∙ ap (λ (a : Answer). kept_after_step a.reply (Inject e now) kept) (sym is);
  stays = λ agains. ap (λ (a : Answer). agains_after a.reply agains) is ∙ stays agains;
  place = place ∙ ap (λ (a : Answer). place_of a.reply) (sym is);
  cause = cause ∙ ap (λ (a : Answer). told_refusal a.reply) (sym is);
}

by_room : (d : Description) (kept new_kept : List UEntry) (e : Event) (now from count : ℕ) (full : Bool)
    → nat_le d.log_limit (length (steps_in kept)) ≡ full
    → from ≡ length (steps_in kept) → count ≡ entered_count d from (record { event = e; now = now } ∷ [])
    → new_kept ≡ kept_after_events (take count (record { event = e; now = now } ∷ [])) kept
    → IsOneStep d kept new_kept e now from count
by_room d kept new_kept e now from count true h f n k =
    let past = steps_in kept in
    let few : d.log_limit ≤ length past = grind (arith, nat_tests, h) in
    let counted : count ≡ min 1 (d.log_limit - from) = n in
    let none : count ≡ 0 = omega (arith, few, f, counted, min-le_right 1 (d.log_limit - from)) in
    of_answer d kept new_kept e now from count (alone (Refused (length past) LogFull))
    (ap (λ (o : Option Reply). answer_by o (done_answer past))
    (cond-true (nat_le d.log_limit (length past)) (Some (Refused (length past) LogFull)) None h))
    (k ∙ ap (λ (m : ℕ). kept_after_events (take m (record { event = e; now = now } ∷ [])) kept) none)
    (λ agains. refl)
    f
    (ap inject_cause none)
by_room d kept new_kept e now from count false h f n k =
    let past = steps_in kept in
    let room : length past < d.log_limit = grind (arith, nat_tests, h) in
    let left : 1 ≤ d.log_limit - from = omega (arith, room, f) in
    let counted : count ≡ min 1 (d.log_limit - from) = n in
    let one : count ≡ 1 = counted ∙ min-eq_left left in
    of_answer d kept new_kept e now from count (done_answer past)
    (ap (λ (o : Option Reply). answer_by o (done_answer past))
    (cond-false (nat_le d.log_limit (length past)) (Some (Refused (length past) LogFull)) None h))
    (k ∙ ap (λ (m : ℕ). kept_after_events (take m (record { event = e; now = now } ∷ [])) kept) one)
    (λ agains. refl)
    f
    (ap inject_cause one)

-- the event is entered where the history has room, and else refused as full, as the step is
pub one_step : (d : Description) (kept new_kept : List UEntry) (e : Event) (now from count : ℕ)
    → from ≡ length (steps_in kept) → count ≡ entered_count d from (record { event = e; now = now } ∷ [])
    → new_kept ≡ kept_after_events (take count (record { event = e; now = now } ∷ [])) kept
    → IsOneStep d kept new_kept e now from count
one_step d kept new_kept e now from count f n k =
    by_room d kept new_kept e now from count (nat_le d.log_limit (length (steps_in kept))) refl f n k

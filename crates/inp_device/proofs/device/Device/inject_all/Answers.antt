use Rattle.std.proofs.Common.{◌≡◌, ◌≤◌, ℕ, ◌+◌, ◌-◌, length, reverse, get_or, take, refl, ap, ◌∙◌, arith}
use Rattle.std.proofs.Common.{rules, subst}
use Rattle.std.specs.Prelude.{min, vec_len}
use Rattle.std.proofs.lemmas.List.{length-take, length-reverse}
use Rattle.inp_model.specs.Injection.{history_with}
use Rattle.inp_device.specs.Device.{stored_since}
use Rattle.inp_device.proofs.Injection.{no_stamped, entered-none, entered-room, entered-more}
use Rattle.inp_device.proofs.device.Device.inject_all.Goals as goal

-- before the first event none was entered
pub loop-stamped-init : goal.loop-stamped-init
loop-stamped-init c =
    entered-none c.args.self.now c.args.events.now (rw (← c.self.view_is) c.self.invariant.accepted)

-- as many events are tried as the history has room for, so there is room for each
pub enter-requires-clause-room : goal.enter-requires-clause-room
enter-requires-clause-room c =
    let long : length c.self.inside.steps.items ≡ length c.args.self.now.past =
    rw (← c.self.view_is, length-reverse) in
    let limit : c.log.result ≡ c.args.self.now.description.log_limit =
    rw (← c.self.view_is, ← c.deref.ensures, ← c.log.ensures.log) in
    let len : vec_len c.self.inside.steps ≡ length c.self.inside.steps.items = search rules in
    let from : c.len-from.result ≡ length c.args.self.now.past = c.len-from.ensures ∙ len ∙ long in
    entered-room c.args.self.now c.args.events.now c.min-count.result c.loop-stamped.stamped-index
    c.loop-stamped.self c.loop-stamped.invariant
    (c.min-count.ensures ∙ (λ i. min (length c.args.events.now) (limit i - from i))) c.loop-stamped-test.true

-- the event comes behind those that were entered before it
pub loop-stamped-preserved : goal.loop-stamped-preserved
loop-stamped-preserved c =
    entered-more c.args.self.now c.args.events.now c.min-count.result c.loop-stamped.stamped-index
    c.loop-stamped.self c.enter.new.self
    (get_or (take c.min-count.result c.args.events.now) c.loop-stamped.stamped-index no_stamped)
    c.loop-stamped.invariant c.loop-stamped-test.true refl c.enter.ensures.entered c.enter.ensures.stored
    c.enter.ensures.accepted

-- the loop goes through all events for which there is room
pub returns-clause-entered : goal.returns-clause-entered
returns-clause-entered c =
    c.loop-stamped.invariant.entered
    ∙ ap (λ n. history_with (reverse c.args.self.now.past) n c.args.events.now)
    (omega (arith, length-take c.min-count.result c.args.events.now))

-- no event changes the description
pub returns-clause-description : goal.returns-clause-description
returns-clause-description c = c.loop-stamped.invariant.description

-- no event is answered Again, so the count of such answers stays
pub returns-clause-agains : goal.returns-clause-agains
returns-clause-agains c = c.loop-stamped.invariant.agains

-- each event that was entered is an accepted step
pub returns-clause-accepted : goal.returns-clause-accepted
returns-clause-accepted c = c.loop-stamped.invariant.accepted

-- no more was added to what is kept than the entered events may add
pub returns-clause-stored : goal.returns-clause-stored
returns-clause-stored c =
    let device = c.loop-stamped.self in
    let first = c.args.self.now in
    let P : ℕ → Type 0 = λ n. device.stored ≤ first.stored + stored_since device.description n device.past in
    subst P (omega (arith, length-take c.min-count.result c.args.events.now)) c.loop-stamped.invariant.stored

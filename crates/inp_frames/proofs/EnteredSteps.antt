-- What the core stands for behind a step that it made.
use Rattle.std.proofs.Common.{◌≡◌, ℕ, ◌*◌, Bool, true, false, ◌&&◌, if◌then◌else◌, ℤ, List, [], ◌∷◌}
use Rattle.std.specs.Prelude.{not, slice_index_or}
use Rattle.std.proofs.Common.{unsigned_abs, refl, sym, ap, subst, ◌∙◌, map}
use Rattle.inp_model.specs.declared.event.TheConstants.{REP_PERIOD}
use Rattle.inp_model.specs.declared.event.Event.{Event}
use Rattle.inp_model.specs.declared.step.Step.{Step}
use Rattle.inp_model.specs.declared.step.Step.TheVariants.{Inject, Tick, Write, Inhibit}
use Rattle.inp_model.specs.declared.timer.Timer.{Timer}
use Rattle.inp_model.specs.RawItem.{RawItem, Occurred}
use Rattle.inp_model.specs.Description.{Description}
use Rattle.inp_model.specs.Step.{moment_of}
use Rattle.inp_model.specs.Past.{is_inhibited}
use Rattle.inp_model.specs.Cut.{raw_after, cuts}
use Rattle.inp_model.specs.Timer.{repeats_keys, first_timer, is_due, timer_disarmed, setting, timer_at_cuts}
use Rattle.inp_model.specs.Timer.{timer_rearmed}
use Rattle.inp_model.specs.Raw.{raw, timer, raw_of_step, raw_and_timer, fires, releases, repeat_of}
use Rattle.inp_model.specs.Frame.{cuts_of_step}
use Rattle.inp_frames.specs.Core.{CoreValues, StandsAfter, CoreStandsFor, IsEntered}
use Rattle.inp_frames.specs.Frames.{TakesAll}
use Rattle.inp_frames.specs.HandledEvents.{Handles, timer_after_cuts, may_repeat}
use Rattle.inp_frames.proofs.HandledEvents.{either, Handles-none, Handles-from}

-- ---- any step

raw-step : (d : Description) (past : List Step) (x : Step)
    → raw d (x ∷ past) ≡ raw_after (raw d past) (raw_of_step d past x)
unfolding raw raw_of_step raw_and_timer
raw-step d past x = refl

-- by what the step stands for, the timer and the inhibition after it
entered : {T : Type 0} (d : Description) (past : List Step) (x : Step) (items : List RawItem) (takes : T
    → List Event → ℕ → T → Type 0) (new : CoreValues) (to_old to_new : T) → raw_of_step d past x ≡ items
    → StandsAfter d (raw_after (raw d past) items) new
    → TakesAll takes (moment_of x) (cuts d (raw d past) items) to_old to_new → new.timer ≡ timer d (x ∷ past)
    → new.inhibited ≡ is_inhibited (x ∷ past) → IsEntered d past x new takes to_old to_new
entered d past x items takes new to_old to_new e s f t i = record {
  stands_for = record {
    raw_events = rw (raw-step, e) s;
    timer = t;
    inhibited = i;
  };
  takes_all = rw e f;
}

-- ---- an event that is injected or written, and an inhibition

-- the timer after a step that no tick is
abbrev timer_of : Description → List Step → Step → Timer
timer_of d past x = timer_after_cuts d (moment_of x) (cuts_of_step d past x) (timer d past)

-- what the core is with another flag
abbrev flagged : Bool → CoreValues → CoreValues
flagged flag core = record core { inhibited = flag }

by_events : {T : Type 0} (d : Description) (past : List Step) (x : Step) (es : List Event) (takes : T
    → List Event → ℕ → T → Type 0) (old new : CoreValues) (flag : Bool) (to_old to_new : T)
    → CoreStandsFor d past old → raw_of_step d past x ≡ map Occurred es
    → timer d (x ∷ past) ≡ timer_of d past x → flag ≡ is_inhibited (x ∷ past)
    → Handles d (raw d past) es (moment_of x) takes old new to_old to_new
    → IsEntered d past x (flagged flag new) takes to_old to_new
by_events d past x es takes old new flag to_old to_new h e t i k =
    entered d past x (map Occurred es) takes (flagged flag new) to_old to_new e
    (assumption k.stands_after)
    k.takes_all
    (k.timer
    ∙ ap (timer_after_cuts d (moment_of x) (cuts d (raw d past) (map Occurred es))) h.timer
    ∙ ap (λ (ys : List RawItem).
    timer_after_cuts d (moment_of x) (cuts d (raw d past) ys) (timer d past)) (sym e)
    ∙ sym t)
    i

unless : {d : Description} {past : List Step} {core : CoreValues} (xs es : List Event)
    → CoreStandsFor d past core → (if core.inhibited then [] else xs) ≡ es
    → (if is_inhibited past then [] else xs) ≡ es
unless xs es h e = rw (← h.inhibited) e

pub enters-inject : {T : Type 0} (d : Description) (past : List Step) (e : Event) (now : ℕ) (es : List Event)
    (takes : T → List Event → ℕ → T → Type 0) (old new : CoreValues) (to_old to_new : T)
    → CoreStandsFor d past old → (if old.inhibited then [] else e ∷ []) ≡ es
    → Handles d (raw d past) es now takes old new to_old to_new
    → IsEntered d past (Inject e now) new takes to_old to_new
unfolding timer raw raw_of_step raw_and_timer is_inhibited
enters-inject d past e now es takes old new to_old to_new h i k =
    by_events d past (Inject e now) es takes old new new.inhibited to_old to_new h
    (ap (map Occurred) (unless (e ∷ []) es h i)) refl (k.inhibited ∙ h.inhibited) k

pub enters-write : {T : Type 0} (d : Description) (past : List Step) (client : ℕ) (e : Event) (now : ℕ)
    (es : List Event) (takes : T → List Event → ℕ → T → Type 0) (old new : CoreValues) (to_old to_new : T)
    → CoreStandsFor d past old → (if old.inhibited then [] else e ∷ []) ≡ es
    → Handles d (raw d past) es now takes old new to_old to_new
    → IsEntered d past (Write client e now) new takes to_old to_new
unfolding timer raw raw_of_step raw_and_timer is_inhibited
enters-write d past client e now es takes old new to_old to_new h i k =
    by_events d past (Write client e now) es takes old new new.inhibited to_old to_new h
    (ap (map Occurred) (unless (e ∷ []) es h i)) refl (k.inhibited ∙ h.inhibited) k

pub enters-inhibit : {T : Type 0} (d : Description) (past : List Step) (now : ℕ) (es : List Event) (takes : T
    → List Event → ℕ → T → Type 0) (old new : CoreValues) (to_old to_new : T) → CoreStandsFor d past old
    → (if old.inhibited then [] else releases d (raw d past)) ≡ es
    → Handles d (raw d past) es now takes old new to_old to_new
    → IsEntered d past (Inhibit now) (flagged true new) takes to_old to_new
unfolding timer raw raw_of_step raw_and_timer is_inhibited
enters-inhibit d past now es takes old new to_old to_new h i k =
    by_events d past (Inhibit now) es takes old new true to_old to_new h
    (ap (map Occurred) (unless (releases d (raw d past)) es h i)) refl refl k

-- an inhibited core stays as it is
pub stays-inhibited : {T : Type 0} (d : Description) (past : List Step) (now : ℕ) (takes : T → List Event → ℕ
    → T → Type 0) (core : CoreValues) (to : T) → core.inhibited ≡ true → CoreStandsFor d past core
    → IsEntered d past (Inhibit now) core takes to to
stays-inhibited d past now takes core to i h =
    rw i
    (enters-inhibit d past now [] takes core core to to h (rw i)
    (Handles-none d (raw d past) now takes core to h.raw_events))

-- ---- a tick

-- the timer after a tick, by whether it was due and fired and by what it stands for
abbrev ticked : Description → ℕ → List RawItem → Timer → Bool → Bool → List RawItem → Timer
ticked d now r t due fired items =
    let armed : Timer = timer_at_cuts d now (cuts d r items) (if due then timer_disarmed t else t) in
    let after : Timer =
    if fired then timer_rearmed now (setting d (raw_after r items) REP_PERIOD) armed else armed in
    if repeats_keys d then after else t

timer-tick : (d : Description) (past : List Step) (now : ℕ)
    → timer d (Tick now ∷ past) ≡ ticked d now (raw d past) (timer d past) (is_due (timer d past) now)
    (fires d past (raw_and_timer d past) now) (raw_of_step d past (Tick now))
unfolding timer raw raw_of_step raw_and_timer
timer-tick d past now = refl

timer-tick-by : (d : Description) (past : List Step) (now : ℕ) (due fired : Bool) (items : List RawItem)
    → is_due (timer d past) now ≡ due → fires d past (raw_and_timer d past) now ≡ fired
    → raw_of_step d past (Tick now) ≡ items
    → timer d (Tick now ∷ past) ≡ ticked d now (raw d past) (timer d past) due fired items
timer-tick-by d past now due fired items u f e = rw (timer-tick, u, f, e)

raw_of_step-tick : (d : Description) (past : List Step) (now : ℕ) (fired : Bool)
    → fires d past (raw_and_timer d past) now ≡ fired
    → raw_of_step d past (Tick now) ≡ map Occurred (if fired then repeat_of (timer d past).key else [])
unfolding raw_of_step timer
raw_of_step-tick d past now fired f = rw f

all_of : (a b c : Bool) → ((a && b) && c) ≡ (a && (b && c))
all_of true b c = refl
all_of false b c = refl

-- it fires where it is due and its key may repeat
fires-by : (d : Description) (past : List Step) (now : ℕ) (core : CoreValues) → CoreStandsFor d past core
    → fires d past (raw_and_timer d past) now ≡ (is_due core.timer now && may_repeat core)
unfolding raw timer
fires-by d past now core h = rw (all_of, ← h.inhibited, ← h.raw_events.state.keys, ← h.timer)

-- a device that repeats no keys never arms the timer
timer-idle : (d : Description) (past : List Step) → repeats_keys d ≡ false → timer d past ≡ first_timer
unfolding timer raw_and_timer
timer-idle d [] h = refl
timer-idle d (x ∷ past) h = rw h (timer-idle d past h)

due_only : (b : Bool) (t : Timer) (now : ℕ) → (b ≡ false → t ≡ first_timer) → is_due t now ≡ true → b ≡ true
due_only true t now f h = refl
due_only false t now f h = let late : false ≡ true = rw f at h in absurd (cc late)

-- so a timer that is due is one of a device that repeats keys
repeats : (d : Description) (past : List Step) (now : ℕ) (core : CoreValues) → CoreStandsFor d past core
    → is_due core.timer now ≡ true → repeats_keys d ≡ true
repeats d past now core h u =
    due_only (repeats_keys d) (timer d past) now (timer-idle d past) (rw (← h.timer) u)

-- it is not due
pub tick-waits : {T : Type 0} (d : Description) (past : List Step) (now : ℕ) (takes : T → List Event → ℕ → T
    → Type 0) (core : CoreValues) (to : T) → is_due core.timer now ≡ false → CoreStandsFor d past core
    → IsEntered d past (Tick now) core takes to to
unfolding cuts is_inhibited
tick-waits d past now takes core to u h =
    let fired : fires d past (raw_and_timer d past) now ≡ false = rw (fires-by d past now core h, u) in
    let due : is_due (timer d past) now ≡ false = rw (← h.timer) u in
    let none : raw_of_step d past (Tick now) ≡ [] = raw_of_step-tick d past now false fired in
    entered d past (Tick now) [] takes core to to none h.raw_events refl
    (h.timer ∙ sym (timer-tick-by d past now false false [] due fired none
    ∙ either (repeats_keys d) (timer d past)))
    h.inhibited

-- it is due and its key repeats no more
disarms_alone : {T : Type 0} (d : Description) (past : List Step) (now : ℕ) (takes : T → List Event → ℕ → T
    → Type 0) (core : CoreValues) (to : T) → is_due core.timer now ≡ true → may_repeat core ≡ false
    → CoreStandsFor d past core
    → IsEntered d past (Tick now) (record core { timer = timer_disarmed core.timer }) takes to to
unfolding cuts is_inhibited
disarms_alone d past now takes core to u m h =
    let fired : fires d past (raw_and_timer d past) now ≡ false = rw (fires-by d past now core h, u) m in
    let due : is_due (timer d past) now ≡ true = rw (← h.timer) u in
    let none : raw_of_step d past (Tick now) ≡ [] = raw_of_step-tick d past now false fired in
    entered d past (Tick now) [] takes (record core { timer = timer_disarmed core.timer }) to to none
    (assumption h.raw_events)
    refl
    (ap timer_disarmed h.timer
    ∙ sym (rw (timer-tick-by d past now true false [] due fired none, repeats d past now core h u)))
    h.inhibited

pub tick-disarms : {T : Type 0} (d : Description) (past : List Step) (now : ℕ) (takes : T → List Event → ℕ → T
    → Type 0) (core new : CoreValues) (to : T) → is_due core.timer now ≡ true → may_repeat new ≡ false
    → CoreStandsFor d past core → new ≡ record core { timer = timer_disarmed core.timer }
    → IsEntered d past (Tick now) new takes to to
tick-disarms d past now takes core new to u m h n =
    let may_not : may_repeat core ≡ false = ap may_repeat (sym n) ∙ m in
    rw n (disarms_alone d past now takes core to u may_not h)

-- it is due and its key repeats
fires_on : {T : Type 0} (d : Description) (past : List Step) (now : ℕ) (takes : T → List Event → ℕ → T
    → Type 0) (core new : CoreValues) (to_old to_new : T) → is_due core.timer now ≡ true
    → may_repeat core ≡ true → CoreStandsFor d past core
    → Handles d (raw d past) (repeat_of core.timer.key) now takes
    (record core { timer = timer_disarmed core.timer }) new to_old to_new
    → IsEntered d past (Tick now)
    (record new { timer = timer_rearmed now (1000 * unsigned_abs new.state.period) new.timer })
    takes to_old to_new
unfolding is_inhibited
fires_on d past now takes core new to_old to_new u m h k =
    let items : List RawItem = map Occurred (repeat_of core.timer.key) in
    let fired : fires d past (raw_and_timer d past) now ≡ true = rw (fires-by d past now core h, u) m in
    let due : is_due (timer d past) now ≡ true = rw (← h.timer) u in
    let some : raw_of_step d past (Tick now) ≡ items =
    rw (raw_of_step-tick d past now true fired, ← h.timer) in
    let on : repeats_keys d ≡ true = repeats d past now core h u in
    let armed : Timer = timer_at_cuts d now (cuts d (raw d past) items) (timer_disarmed (timer d past)) in
    let timer_is : new.timer ≡ armed = rw (k.timer, on, h.timer) in
    entered d past (Tick now) items takes
    (record new { timer = timer_rearmed now (1000 * unsigned_abs new.state.period) new.timer })
    to_old to_new some
    (assumption k.stands_after)
    k.takes_all
    (ap (timer_rearmed now (1000 * unsigned_abs new.state.period)) timer_is
    ∙ ap (λ (x : ℤ). timer_rearmed now (1000 * unsigned_abs x) armed) k.stands_after.state.period
    ∙ sym (rw (timer-tick-by d past now true true items due fired some, on)))
    (k.inhibited ∙ h.inhibited)

-- the same, of the core that began with the timer timer_disarmed
pub tick-fires : {T : Type 0} (d : Description) (past : List Step) (now : ℕ) (takes : T → List Event → ℕ → T
    → Type 0) (core begun handled new : CoreValues) (es : List Event) (to_old to_new : T)
    → is_due core.timer now ≡ true → may_repeat begun ≡ true → CoreStandsFor d past core
    → begun ≡ record core { timer = timer_disarmed core.timer }
    → es ≡ repeat_of begun.timer.key
    → Handles d (raw d past) es now takes begun handled to_old to_new
    → new ≡ record handled {
      timer = timer_rearmed now (1000 * unsigned_abs handled.state.period) handled.timer;
    }
    → IsEntered d past (Tick now) new takes to_old to_new
tick-fires d past now takes core begun handled new es to_old to_new u m h b e k n =
    let same : es ≡ repeat_of core.timer.key = rw (e, b) in
    let by_key : Handles d (raw d past) (repeat_of core.timer.key) now takes begun handled to_old to_new =
    rw same at k in
    let may : may_repeat core ≡ true = ap may_repeat (sym b) ∙ m in
    rw n (fires_on d past now takes core handled to_old to_new u may h (Handles-from b by_key))

-- a core whose key repeats is not inhibited
pub awake_repeating : (core : CoreValues) → may_repeat core ≡ true → core.inhibited ≡ false
awake_repeating core m = awake (slice_index_or core.state.keys core.timer.key false) core.inhibited m
  where
    awake : (down inhibited : Bool) → (down && not inhibited) ≡ true → inhibited ≡ false
    awake true false h = refl
    awake true true h = absurd (cc h)
    awake false inhibited h = absurd (cc h)

-- what the core with its timer timer_disarmed stands for
pub begins : (d : Description) (past : List Step) (core begun : CoreValues) → CoreStandsFor d past core
    → begun ≡ record core { timer = timer_disarmed core.timer } → StandsAfter d (raw d past) begun
begins d past core begun h b = subst (StandsAfter d (raw d past)) (sym b) (assumption h.raw_events)

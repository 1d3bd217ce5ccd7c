-- A step stands for the same raw events and descriptions after alike pasts. It leaves the core and the timer
-- alike.
use Rattle.std.proofs.Common.{◌≡◌, ℕ, ◌+◌, List, ◌∷◌, length, refl, ap, ◌∙◌, arith}
use Rattle.std.specs.Prelude.{pos}
use Rattle.std.specs.List.{range_with_len}
use Rattle.inp_model.specs.declared.event.TheConstants.{KEY_MAX, REP_PERIOD}
use Rattle.inp_model.specs.declared.multi_touch.TheConstants.{ABS_MT_TRACKING_ID}
use Rattle.inp_model.specs.declared.timer.Timer.{Timer}
use Rattle.inp_model.specs.declared.step.Step.{Step}
use Rattle.inp_model.specs.declared.step.Step.TheVariants.{Inject, Tick, Open, Close, Read, Discard, GetKeys}
use Rattle.inp_model.specs.declared.step.Step.TheVariants.{GetSwitches, GetLeds, GetSounds, GetAxis, SetAxis}
use Rattle.inp_model.specs.declared.step.Step.TheVariants.{GetSlots, SyncSlots, Write, Grab, Ungrab, Mask}
use Rattle.inp_model.specs.declared.step.Step.TheVariants.{Clock as ToClock, Revoke, Inhibit, Uninhibit, End}
use Rattle.inp_model.specs.Description.{Description}
use Rattle.inp_model.specs.RawItem.{RawItem}
use Rattle.inp_model.specs.Step.{moment_of}
use Rattle.inp_model.specs.Past.{is_inhibited}
use Rattle.inp_model.specs.Cut.{raw_after, cuts}
use Rattle.inp_model.specs.Timer.{timer_at_cuts}
use Rattle.inp_model.specs.Raw.{RawAndTimer, raw, timer, raw_and_timer, raw_of_step, items_after, fires}
use Rattle.inp_model.specs.Raw.{releases, slot_releases, slot_release, key_releases, key_release, timer_after}
use Rattle.inp_model.specs.Raw.{rearmed_by, disarmed_by}
use Rattle.inp_alike.specs.Alike.{AreItemsAlike, AreAlike}
use Rattle.inp_alike.proofs.Pointwise.{flat_map_same}
use Rattle.inp_alike.proofs.Items.{items_more}
use Rattle.inp_alike.proofs.Cuts.{cuts_alike, timers_alike}

released : (d : Description) (r s : List RawItem) → AreItemsAlike d r s → releases d r ≡ releases d s
released d r s h =
    let slots : slot_releases d r 0 d.slots ≡ slot_releases d s 0 d.slots
    =
    flat_map_same (slot_release d r) (slot_release d s) (range_with_len 0 d.slots)
    (λ slot. cc (h.cells (pos slot) ABS_MT_TRACKING_ID)) in
    let keys : key_releases d r 0 (KEY_MAX + 1) ≡ key_releases d s 0 (KEY_MAX + 1)
    =
    flat_map_same (key_release d r) (key_release d s) (range_with_len 0 (KEY_MAX + 1))
    (λ key. cc (h.keys key)) in
    cc (slots, keys)

fires_alike : (d : Description) (past other : List Step) (a b : RawAndTimer) (now : ℕ)
    → AreItemsAlike d a.raw b.raw → a.timer ≡ b.timer → is_inhibited past ≡ is_inhibited other
    → fires d past a now ≡ fires d other b now
fires_alike d past other a b now h t i = cc (h.keys b.timer.key, t, i)

items_alike : (d : Description) (past other : List Step) (x : Step) (a b : RawAndTimer)
    → AreItemsAlike d a.raw b.raw → a.timer ≡ b.timer → is_inhibited past ≡ is_inhibited other
    → items_after d past x a ≡ items_after d other x b
items_alike d past other (Inject e now) a b h t i = cc i
items_alike d past other (Write client e now) a b h t i = cc i
items_alike d past other (Tick now) a b h t i = cc (fires_alike d past other a b now h t i, t)
items_alike d past other (Inhibit now) a b h t i = cc (released d a.raw b.raw h, i)
items_alike d past other (SetAxis client code axis) a b h t i = refl
items_alike d past other Open a b h t i = refl
items_alike d past other (Close client) a b h t i = refl
items_alike d past other (Read client count) a b h t i = refl
items_alike d past other (Discard client) a b h t i = refl
items_alike d past other (GetKeys client) a b h t i = refl
items_alike d past other (GetSwitches client) a b h t i = refl
items_alike d past other (GetLeds client) a b h t i = refl
items_alike d past other (GetSounds client) a b h t i = refl
items_alike d past other (GetAxis client code) a b h t i = refl
items_alike d past other (GetSlots client code) a b h t i = refl
items_alike d past other (SyncSlots client) a b h t i = refl
items_alike d past other (Grab client) a b h t i = refl
items_alike d past other (Ungrab client) a b h t i = refl
items_alike d past other (Mask client kind word bits) a b h t i = refl
items_alike d past other (ToClock client clock now) a b h t i = refl
items_alike d past other (Revoke client) a b h t i = refl
items_alike d past other Uninhibit a b h t i = refl
items_alike d past other End a b h t i = refl

rearmed_alike : (d : Description) (past other : List Step) (x : Step) (a b : RawAndTimer)
    (r s : List RawItem) (t : Timer) → fires d past a (moment_of x) ≡ fires d other b (moment_of x)
    → AreItemsAlike d r s → rearmed_by d past x a r t ≡ rearmed_by d other x b s t
rearmed_alike d past other (Tick now) a b r s t f h = cc (f, h.settings REP_PERIOD)
rearmed_alike d past other x a b r s t f h = refl

timer_alike : (d : Description) (past other : List Step) (x : Step) (a b : RawAndTimer) (xs : List RawItem)
    → AreItemsAlike d a.raw b.raw → a.timer ≡ b.timer → is_inhibited past ≡ is_inhibited other
    → timer_after d past x a xs ≡ timer_after d other x b xs
timer_alike d past other x a b xs h t i =
    let armed : timer_at_cuts d (moment_of x) (cuts d a.raw xs) (disarmed_by x a.timer) ≡ timer_at_cuts d
    (moment_of x) (cuts d b.raw xs) (disarmed_by x b.timer)
    = ap (λ (u : Timer). timer_at_cuts d (moment_of x) (cuts d a.raw xs) (disarmed_by x u)) t
    ∙ timers_alike d (length a.raw) (length b.raw) (moment_of x) (cuts d a.raw xs) (cuts d b.raw xs)
    (disarmed_by x b.timer) (cuts_alike d (length a.raw) (length b.raw) a.raw b.raw xs h (omega arith))
    in
    let rearmed =
    rearmed_alike d past other x a b (raw_after a.raw xs) (raw_after b.raw xs)
    (timer_at_cuts d (moment_of x) (cuts d b.raw xs) (disarmed_by x b.timer))
    (fires_alike d past other a b (moment_of x) h t i) (items_more d a.raw b.raw xs h) in
    cc (armed, rearmed, t)

-- what a step stands for
pub raws_alike : (d : Description) (past other : List Step) (x : Step) → AreAlike d past other
    → raw_of_step d past x ≡ raw_of_step d other x
unfolding raw timer raw_of_step
raws_alike d past other x h =
    items_alike d past other x (raw_and_timer d past) (raw_and_timer d other) h.items h.timers h.inhibited

-- the core after a step
pub core_alike : (d : Description) (past other : List Step) (x : Step) → AreAlike d past other
    → AreItemsAlike d (raw d (x ∷ past)) (raw d (x ∷ other))
unfolding raw timer raw_and_timer
core_alike d past other x h =
    rw (← items_alike d past other x (raw_and_timer d past)
    (raw_and_timer d other) h.items h.timers h.inhibited)
    (items_more d (raw d past) (raw d other) (items_after d past x (raw_and_timer d past)) h.items)

-- the timer after a step
pub timer_more : (d : Description) (past other : List Step) (x : Step) → AreAlike d past other
    → timer d (x ∷ past) ≡ timer d (x ∷ other)
unfolding raw timer raw_and_timer
timer_more d past other x h =
    let a = raw_and_timer d past in
    let b = raw_and_timer d other in
    ap (timer_after d past x a) (items_alike d past other x a b h.items h.timers h.inhibited)
    ∙ timer_alike d past other x a b (items_after d other x b) h.items h.timers h.inhibited

-- What a step sends.
use Rattle.std.proofs.Common.{◌≡◌, ℕ, ◌+◌, Bool, true, false, ◌&&◌, if◌then◌else◌, pos, List, [], ◌∷◌, ◌++◌}
use Rattle.std.proofs.Common.{refl, sym, ◌∙◌, map, flat_map, Option, Some, None, option_to_list}
use Rattle.std.specs.Prelude.{not}
use Rattle.std.specs.Bool.{then_some}
use Rattle.std.specs.List.{range_with_len}
use Rattle.inp_model.specs.declared.event.TheConstants.{KEY_MAX}
use Rattle.inp_model.specs.declared.event.Event.{Event}
use Rattle.inp_model.specs.declared.step.Step.{Step}
use Rattle.inp_model.specs.declared.step.Step.TheVariants.{Inject, Tick, Write, Inhibit, SetAxis}
use Rattle.inp_model.specs.RawItem.{RawItem, Occurred, Described}
use Rattle.inp_model.specs.Description.{Description}
use Rattle.inp_model.specs.Event.{slot_event, core_report}
use Rattle.inp_model.specs.State.{key_down}
use Rattle.inp_model.specs.Passed.{is_output, goes_to_device}
use Rattle.inp_model.specs.Past.{is_inhibited}
use Rattle.inp_model.specs.Raw.{raw, raw_of_step, raw_and_timer, repeat_of, has_contact, lift_event}
use Rattle.inp_model.specs.Raw.{slot_release, slot_releases, key_event, key_release, key_releases, releases}
use Rattle.inp_model.specs.Raw.{fires}
use Rattle.inp_feedback.specs.Sent.{sent_for, sent_for_all, sent_at_step}
use Rattle.inp_device.specs.Device.{event_brought, goes_out, TellsSent}
use Rattle.inp_uinput.proofs.PassedOutputs.{sent_for-event}

-- items that are no outputs

abbrev IsNoOutput : RawItem → Type 0
IsNoOutput (Occurred e) = is_output e ≡ false
IsNoOutput (Described axis i) = Unit {0}

abbrev AreNoOutputs : List RawItem → Type 0
AreNoOutputs [] = Unit {0}
AreNoOutputs (x ∷ xs) = IsNoOutput x × AreNoOutputs xs

sent_for-none : (d : Description) (r : List RawItem) (x : RawItem) → IsNoOutput x → sent_for d r x ≡ []
sent_for-none d r (Occurred e) h = rw (sent_for-event d r e, h)
sent_for-none d r (Described axis i) h = refl

sent-none : (d : Description) (r xs : List RawItem) → AreNoOutputs xs → sent_for_all d r xs ≡ []
unfolding sent_for_all
sent-none d r [] h = refl
sent-none d r (x ∷ xs) h = rw (sent_for-none d r x h.0) (sent-none d (x ∷ r) xs h.1)

-- What the core makes itself are no outputs

append : (xs ys : List Event) → AreNoOutputs (map Occurred xs) → AreNoOutputs (map Occurred ys)
    → AreNoOutputs (map Occurred (xs ++ ys))
append [] ys h k = k
append (x ∷ xs) ys h k = (h.0, append xs ys h.1 k)

all_of : (f : ℕ → List Event) → ((n : ℕ) → AreNoOutputs (map Occurred (f n))) → (ns : List ℕ)
    → AreNoOutputs (map Occurred (flat_map f ns))
all_of f each [] = tt
all_of f each (n ∷ ns) = append (f n) (flat_map f ns) (each n) (all_of f each ns)

one_slot : (slot : ℕ) (b : Bool)
    → AreNoOutputs (map Occurred (if b then slot_event (pos slot) ∷ lift_event ∷ [] else []))
one_slot slot true = (refl, (refl, tt))
one_slot slot false = tt

one_key : (key : ℕ) (b : Bool) → AreNoOutputs (map Occurred (if b then key_event key 0 ∷ [] else []))
one_key key true = (refl, tt)
one_key key false = tt

of_releases : (d : Description) (r : List RawItem) → AreNoOutputs (map Occurred (releases d r))
of_releases d r =
    append (slot_releases d r 0 d.slots ++ key_releases d r 0 (KEY_MAX + 1)) (core_report ∷ [])
    (append (slot_releases d r 0 d.slots) (key_releases d r 0 (KEY_MAX + 1))
    (all_of (slot_release d r) (λ slot. one_slot slot (has_contact d r slot)) (range_with_len 0 d.slots))
    (all_of (key_release d r) (λ key. one_key key (key_down d r key)) (range_with_len 0 (KEY_MAX + 1))))
    (refl, tt)

of_inhibit : (d : Description) (r : List RawItem) (b : Bool)
    → AreNoOutputs (map Occurred (if b then [] else releases d r))
of_inhibit d r true = tt
of_inhibit d r false = of_releases d r

of_tick : (key : ℕ) (b : Bool) → AreNoOutputs (map Occurred (if b then repeat_of key else []))
of_tick key true = (refl, (refl, tt))
of_tick key false = tt

-- A step that brings no event from outside sends nothing

of_step : (d : Description) (past : List Step) (x : Step) → event_brought x ≡ None
    → AreNoOutputs (raw_of_step d past x)
unfolding raw_of_step
of_step d past (Inject e now) h = absurd (cc h)
of_step d past (Write client e now) h = absurd (cc h)
of_step d past (Tick now) h = of_tick _ (fires d past (raw_and_timer d past) now)
of_step d past (Inhibit now) h = of_inhibit d _ (is_inhibited past)
of_step d past (SetAxis client code axis) h = (tt, tt)
of_step d past _ h = tt

nothing_sent : (d : Description) (past : List Step) (x : Step) → event_brought x ≡ None
    → [] ≡ sent_at_step d past x
nothing_sent d past x h = sym (sent-none d (raw d past) (raw_of_step d past x) (of_step d past x h))

-- One that brings an event sends it, where the event goes to the device and the device is not inhibited

gated : (e : Event) (goes inhibited : Bool)
    → option_to_list (if goes && not inhibited then Some e else None)
    ≡ (if inhibited then [] else (if goes then e ∷ [] else []) ++ [])
gated e true true = refl
gated e true false = refl
gated e false true = refl
gated e false false = refl

heard : (d : Description) (r : List RawItem) (e : Event) (inhibited : Bool)
    → (if inhibited then [] else (if goes_to_device d r e then e ∷ [] else []) ++ [])
    ≡ sent_for_all d r (map Occurred (if inhibited then [] else e ∷ []))
unfolding sent_for_all
heard d r e true = refl
heard d r e false = rw (← sent_for-event d r e)

one_sent : (d : Description) (past : List Step) (e : Event) (sent : Bool) → sent ≡ goes_out d past e
    → option_to_list (if sent then Some e else None)
    ≡ sent_for_all d (raw d past) (map Occurred (if is_inhibited past then [] else e ∷ []))
one_sent d past e sent h =
    rw (h, gated e (goes_to_device d (raw d past) e) (is_inhibited past))
    (heard d (raw d past) e (is_inhibited past))

no_event : (sent : Bool) → (let none : Option Event = if sent then None else None in option_to_list none ≡ [])
no_event true = refl
no_event false = refl

-- there is an event where the test holds, and none elsewhere
pub some_if : (b : Bool) (e : Event) → then_some b e ≡ (if b then Some e else None)
some_if true e = refl
some_if false e = refl

-- what a step sends: the event that it brings, if that goes to the device
pub sends : (d : Description) (past : List Step) (x : Step) (sent : Bool) → TellsSent d past x sent
    → option_to_list (if sent then event_brought x else None) ≡ sent_at_step d past x
unfolding raw_of_step
sends d past (Inject e now) sent h = one_sent d past e sent h
sends d past (Write client e now) sent h = one_sent d past e sent h
sends d past x sent h = no_event sent ∙ nothing_sent d past x refl

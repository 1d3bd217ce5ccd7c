-- One call that injects several events is as many calls of one event each, and what is noted of it is what is
-- noted of these.
use Rattle.std.proofs.Common.{◌≡◌, ℕ, zero, suc, ◌+◌, ◌-◌, ◌<◌, ◌≤◌, nat_lt, nat_le, List, [], ◌∷◌, ◌++◌}
use Rattle.std.proofs.Common.{length, take, drop, get_or, length-drop, refl, sym, subst, ◌∙◌, true, false}
use Rattle.std.proofs.Common.{Some, None, arith, pos}
use Rattle.std.specs.Prelude.{min}
use Rattle.std.specs.List.{slice_get}
use Rattle.std.proofs.lemmas.Bool.Decides.{nat_tests}
use Rattle.std.proofs.lemmas.List.{take_more, take_all, length-take-le}
use Rattle.inp_script.specs.Notes.{entered_calls, injected_calls, notes_after}
use Rattle.inp_script.proofs.Common.{Stamped, EvdevView, Call, Notes, AreCalls}
use Rattle.inp_model.specs.declared.injected.Injected.{Injected}
use Rattle.inp_model.specs.Injection.{AreInTime, IsInjectAll, entered_call, full_call, calls_of}
use Rattle.inp_model.proofs.Injection.{injected-calls}
use Rattle.std.proofs.lemmas.Bool.{lt-ltb, le-ltb, cond_both}
use Rattle.std.proofs.lemmas.Option.{slice_get_within}

abbrev pub no_stamped : Stamped
no_stamped = record { event = record { kind = 0; code = 0; value = pos 0 }; now = 0 }

-- Which calls they are

-- how many are entered says as much as the limit
calls-limit : (limit count from : ℕ) (events : List Stamped) → count ≡ min (length events) (limit - from)
    → calls_of limit from events ≡ calls_of (from + count) from events
calls-limit limit count from [] is = refl
calls-limit limit count from (stamped ∷ events) is =
    cond_both (nat_lt from limit) _ _ (λ calls. calls ≡ calls_of (from + count) from (stamped ∷ events))
    (λ room.
    let there : from < limit = grind (arith, nat_tests, room) in
    let same : suc from + (count - 1) ≡ from + count = omega (arith, there, is) in
    rw (
      lt-ltb from (from + count) (omega (arith, there, is)),
      calls-limit limit (count - 1) (suc from) events (omega (arith, is, there)),
      same,
    ))
    (λ room.
    let full : limit ≤ from = grind (arith, nat_tests, room) in
    rw (le-ltb from (from + count) (omega (arith, is, full))))

-- all are entered
pub calls-entered : (limit from : ℕ) (events : List Stamped) → from + length events ≤ limit
    → calls_of limit from events ≡ entered_calls from events
calls-entered limit from [] h = refl
calls-entered limit from (stamped ∷ events) h =
    rw (lt-ltb from limit (omega (arith, h)), calls-entered limit (suc from) events (omega (arith, h)))

-- or one is refused behind those that are entered
pub calls-refused : (limit count from : ℕ) (events : List Stamped) (stamped : Stamped) → limit ≡ from + count
    → slice_get (drop count events) 0 ≡ Some stamped
    → calls_of limit from events ≡ entered_calls from (take count events) ++ full_call limit stamped ∷ []
calls-refused limit zero from [] stamped is h = absurd (cc h)
calls-refused limit (suc count) from [] stamped is h = absurd (cc h)
calls-refused limit zero from (first ∷ events) stamped is h =
    let same : Some first ≡ Some stamped = h in
    let one : first ≡ stamped = cc same in
    let here : from ≡ limit = omega (arith, is) in
    rw (le-ltb from limit (omega (arith, is)), here, one)
calls-refused limit (suc count) from (first ∷ events) stamped is h =
    rw (
      lt-ltb from limit (omega (arith, is)),
      calls-refused limit count (suc from) events stamped (omega (arith, is)) h,
    )

-- one call that injects events is as many calls, each at the next place, up to a refused one
pub made-calls : (before after : EvdevView) (events : List Stamped) (injected : Injected) → 1 ≤ length events
    → IsInjectAll before after events injected → AreCalls before after (injected_calls injected events)
made-calls before after [] injected some all = absurd (omega (arith, some))
made-calls before after (first ∷ events) injected some all =
    subst (AreCalls before after)
    (calls-limit before.description.log_limit injected.count injected.from (first ∷ events) all.count)
    (injected-calls before after first events injected all)

-- What is noted

pub notes-append : (calls more : List Call) (notes : Notes)
    → notes_after (calls ++ more) notes ≡ notes_after more (notes_after calls notes)
notes-append [] more notes = refl
notes-append (call ∷ calls) more notes = notes-append calls more (notes_after (call ∷ []) notes)

entered-append : (from : ℕ) (events : List Stamped) (stamped : Stamped)
    → entered_calls from (events ++ stamped ∷ []) ≡ entered_calls from events
    ++ entered_call (from + length events) stamped ∷ []
entered-append from [] stamped = let same : from ≡ from + 0 = omega arith in rw (← same)
entered-append from (first ∷ events) stamped =
    let same : suc from + length events ≡ from + suc (length events) = omega arith in
    rw (entered-append (suc from) events stamped, same)

-- one event more
pub entered-more : (from count at : ℕ) (events : List Stamped) (stamped : Stamped) (old mid new : Notes)
    → count < length events → stamped ≡ get_or events count no_stamped → at ≡ from + count
    → mid ≡ notes_after (entered_calls from (take count events)) old
    → new ≡ notes_after (entered_call at stamped ∷ []) mid
    → new ≡ notes_after (entered_calls from (take (count + 1) events)) old
entered-more from count at events stamped old mid new h is place before noted =
    let long : length (take count events) ≡ count = length-take-le count events (omega (arith, h)) in
    let here : at ≡ from + length (take count events) = omega (arith, place, long) in
    rw (take_more events count no_stamped h, ← is, entered-append, ← here, notes-append, ← before) noted

-- what is noted of an event at least is so whatever stopped the job before
pub noted-anew : (from : ℕ) (events : List Stamped) (notes : Notes) → 1 ≤ length events
    → notes_after (entered_calls from events) (record notes { stop = None })
    ≡ notes_after (entered_calls from events) notes
noted-anew from [] notes some = absurd (omega (arith, some))
noted-anew from (stamped ∷ events) notes some = refl

none_left : (count : ℕ) (events : List Stamped) → slice_get (drop count events) 0 ≡ None
    → length events ≤ count
none_left count [] h = omega arith
none_left zero (first ∷ events) h = absurd (cc h)
none_left (suc count) (first ∷ events) h = omega (arith, none_left count events h)

one_left : (count : ℕ) (events : List Stamped) (stamped : Stamped)
    → slice_get (drop count events) 0 ≡ Some stamped → count < length events
one_left count events stamped h =
    omega (arith, slice_get_within (drop count events) 0 stamped h, length-drop count events)

le_true : (m n : ℕ) → m ≤ n → true ≡ nat_le m n
le_true m n h = grind (arith, nat_tests, h)

le_false : (m n : ℕ) → n < m → false ≡ nat_le m n
le_false m n h = grind (arith, nat_tests, h)

-- all were entered
pub all-entered : (count : ℕ) (events : List Stamped) → slice_get (drop count events) 0 ≡ None
    → true ≡ nat_le (length events) count
all-entered count events none = le_true _ count (none_left count events none)

pub all-noted : (injected : Injected) (events entered : List Stamped) (old new : Notes)
    → entered ≡ take injected.count events → slice_get (drop injected.count events) 0 ≡ None
    → new ≡ notes_after (entered_calls injected.from entered) old
    → new ≡ notes_after (injected_calls injected events) old
all-noted injected events entered old new front none noted =
    let few : length events ≤ injected.count = none_left injected.count events none in
    let whole : entered ≡ events = front ∙ take_all injected.count events few in
    let calls : injected_calls injected events ≡ entered_calls injected.from events =
    calls-entered _ injected.from events (omega (arith, few)) in
    rw (noted, whole) (sym (rw calls))

-- or one was refused
pub some-entered : (count : ℕ) (events : List Stamped) (stamped : Stamped)
    → slice_get (drop count events) 0 ≡ Some stamped → false ≡ nat_le (length events) count
some-entered count events stamped one = le_false _ count (one_left count events stamped one)

pub some-noted : (injected : Injected) (events entered : List Stamped) (stamped : Stamped)
    (old mid new : Notes) → entered ≡ take injected.count events
    → slice_get (drop injected.count events) 0 ≡ Some stamped
    → mid ≡ notes_after (entered_calls injected.from entered) old
    → new ≡ notes_after (full_call (injected.from + injected.count) stamped ∷ []) mid
    → new ≡ notes_after (injected_calls injected events) old
some-noted injected events entered stamped old mid new front one before_it noted =
    let limit : ℕ = injected.from + injected.count in
    let calls : injected_calls injected events
    ≡ entered_calls injected.from (take injected.count events) ++ full_call limit stamped ∷ [] =
    calls-refused limit injected.count injected.from events stamped refl one in
    rw (calls, notes-append, ← front, ← before_it) noted

-- Moments

take-front : (n i : ℕ) (events : List Stamped) (s : Stamped) → slice_get (take n events) i ≡ Some s
    → slice_get events i ≡ Some s
take-front zero i events s h = absurd (cc h)
take-front (suc n) i [] s h = absurd (cc h)
take-front (suc n) zero (first ∷ events) s h = h
take-front (suc n) (suc i) (first ∷ events) s h = take-front n i events s h

drop-back : (n i : ℕ) (events : List Stamped) (s : Stamped) → slice_get (drop n events) i ≡ Some s
    → slice_get events (n + i) ≡ Some s
drop-back zero i events s h = let same : i ≡ 0 + i = omega arith in rw same at h
drop-back (suc n) i [] s h = absurd (cc h)
drop-back (suc n) i (first ∷ events) s h =
    let same : suc (n + i) ≡ suc n + i = omega arith in
    rw (← same) (drop-back n i events s h)

-- an event of the front is one of the whole list, so its moment is within the limit
pub take-in_time : (n : ℕ) (events : List Stamped) → AreInTime events → AreInTime (take n events)
take-in_time n events h i s is = h i s (take-front n i events s is)

-- an event of what is left is one of the whole list, so its moment is within the limit
pub drop-in_time : (n : ℕ) (events : List Stamped) → AreInTime events → AreInTime (drop n events)
drop-in_time n events h i s is = h (n + i) s (drop-back n i events s is)

-- What is left of the frames of a past: what the filters let through of those that were passed while no
-- client held the grab, and all of the others.
use Rattle.std.proofs.Common.{◌≡◌, ℕ, suc, ◌+◌, Bool, true, false, ◌||◌, nat_eq, List, [], ◌∷◌, refl, sym, ap}
use Rattle.std.proofs.Common.{◌∙◌, arith, Some, None}
use Rattle.inp_model.specs.declared.event.TheConstants.{EV_SYN}
use Rattle.inp_model.specs.declared.event.Event.{Event}
use Rattle.inp_model.specs.declared.filter.Filter.{Filter}
use Rattle.inp_model.specs.Description.{Description}
use Rattle.inp_model.specs.Filter.{Timed, timed, is_eaten, with_event}
use Rattle.inp_model.specs.Frame.{moment}
use Rattle.inp_model.specs.RawItem.{Frame}
use Rattle.inp_model.specs.Past.{holder}
use Rattle.inp_model.specs.Left.{eaten, eaten_by, eaten_from, given_before, is_left, left_from, left}
use Rattle.inp_filter.specs.Row.{is_let_through, let_through}
use Rattle.inp_filter.proofs.RowLaws.{let_through-no_filter}

-- the events of a frame from an index on

is_left-through : (fs : List Filter) (eats : ℕ → Bool) (now : ℕ) (before : List Timed) (k : ℕ) (e : Event)
    → eats k ≡ is_eaten fs (timed now e) before → is_left eats k e ≡ is_let_through fs now before e
is_left-through fs eats now before k e h = rw h

left_from-through : (fs : List Filter) (eats : ℕ → Bool) (now : ℕ) (before : List Timed) (k : ℕ)
    (es : List Event) → ((i : ℕ) → eats (k + i) ≡ eaten_from fs now before es i)
    → left_from eats k es ≡ let_through fs now before es
unfolding let_through
left_from-through fs eats now before k [] h = refl
left_from-through fs eats now before k (e ∷ es) h =
    let here : is_left eats k e ≡ is_let_through fs now before e =
    is_left-through fs eats now before k e (ap eats (omega arith) ∙ h 0) in
    let rest : left_from eats (suc k) es ≡ let_through fs now (with_event now e before) es =
    left_from-through fs eats now (with_event now e before) (suc k) es (λ i. ap eats (omega arith)
    ∙ h (suc i)) in
    rw (here, rest)

left_from-none : (eats : ℕ → Bool) (k : ℕ) (es : List Event) → ((i : ℕ) → eats i ≡ false)
    → left_from eats k es ≡ es
left_from-none eats k [] h = refl
left_from-none eats k (e ∷ es) h =
    rw (h k, or_true (nat_eq e.kind EV_SYN), left_from-none eats (suc k) es h)
  where
    or_true : (b : Bool) → (b || true) ≡ true
    or_true true = refl
    or_true false = refl

-- a frame, by whether a client holds the grab

nobody : (fs : List Filter) (d : Description) (f : Frame) → holder f.before ≡ None
    → left (eaten_by fs d) f ≡ let_through fs (moment f) (given_before d f) f.cut.events
unfolding eaten_by
nobody [] d f h =
    left_from-none (eaten_by [] d f) 0 f.cut.events (λ i. refl)
    ∙ sym (let_through-no_filter (moment f) (given_before d f) f.cut.events)
nobody (x ∷ fs) d f h =
    left_from-through (x ∷ fs) (eaten_by (x ∷ fs) d f) (moment f) (given_before d f) 0 f.cut.events
    (λ i. rw h (ap (eaten_from (x ∷ fs) (moment f) (given_before d f) f.cut.events) (omega arith)))

held : (fs : List Filter) (d : Description) (f : Frame) (client : ℕ) → holder f.before ≡ Some client
    → left (eaten_by fs d) f ≡ f.cut.events
unfolding eaten_by
held [] d f client h = left_from-none (eaten_by [] d f) 0 f.cut.events (λ i. refl)
held (x ∷ fs) d f client h = left_from-none (eaten_by (x ∷ fs) d f) 0 f.cut.events (λ i. rw h refl)

-- the frame came to the filters
pub left-let_through : (d : Description) (f : Frame) → holder f.before ≡ None
    → left (eaten d) f ≡ let_through d.filters (moment f) (given_before d f) f.cut.events
unfolding eaten
left-let_through d f h = nobody d.filters d f h

-- the frame was passed to the holder of the grab
pub left-held : (d : Description) (f : Frame) (client : ℕ) → holder f.before ≡ Some client
    → left (eaten d) f ≡ f.cut.events
unfolding eaten
left-held d f client h = held d.filters d f client h

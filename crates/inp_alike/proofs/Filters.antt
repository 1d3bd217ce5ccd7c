-- The filters eat the same of the frames of a step after alike pasts.
use Rattle.std.proofs.Common.{◌≡◌, ℕ, zero, suc, ◌+◌, Bool, true, false, List, [], ◌∷◌, ◌++◌, length, refl}
use Rattle.std.proofs.Common.{sym, ap, ◌∙◌, arith, if◌then◌else◌, nat_lt}
use Rattle.std.proofs.lemmas.List.{append_assoc}
use Rattle.std.specs.Prelude.{map, filter, is_some}
use Rattle.inp_model.specs.declared.event.Event.{Event}
use Rattle.inp_model.specs.declared.filter.Filter.{Filter}
use Rattle.inp_model.specs.declared.step.Step.{Step}
use Rattle.inp_model.specs.Description.{Description}
use Rattle.inp_model.specs.Filter.{Timed, timed, is_eaten, is_syn, with_event, given_after}
use Rattle.inp_model.specs.RawItem.{Cut, Frame}
use Rattle.inp_model.specs.Step.{moment_of}
use Rattle.inp_model.specs.Past.{holder}
use Rattle.inp_model.specs.Frame.{moment, frame_of, frames_of_step, cuts_of_step}
use Rattle.inp_model.specs.Left.{given_by, given_in, given_before, ends_later, eaten_from, eaten_by, eaten}
use Rattle.inp_model.specs.Left.{left_from, left}
use Rattle.inp_model.specs.Raw.{raw, raw_of_step}
use Rattle.inp_alike.specs.Alike.{AreAlike, DecideAlike}
use Rattle.inp_alike.proofs.Cuts.{IsCutAlike, AreCutsAlike, cuts_alike}
use Rattle.inp_alike.proofs.Raws.{raws_alike}

-- what the filters are given

one_more : (fs : List Filter) (t : Timed) (given other : List Timed) → DecideAlike fs given other
    → DecideAlike fs (t ∷ given) (t ∷ other)
one_more fs t given other h later x =
    ap (is_eaten fs x) (sym (append_assoc later (t ∷ []) given))
    ∙ h (later ++ t ∷ []) x
    ∙ ap (is_eaten fs x) (append_assoc later (t ∷ []) other)

event_by : (fs : List Filter) (t : Timed) (syn : Bool) (given other : List Timed)
    → DecideAlike fs given other
    → DecideAlike fs (if syn then given else t ∷ given) (if syn then other else t ∷ other)
event_by fs t true given other h = h
event_by fs t false given other h = one_more fs t given other h

event_more : (fs : List Filter) (m : ℕ) (e : Event) (given other : List Timed)
    → DecideAlike fs given other → DecideAlike fs (with_event m e given) (with_event m e other)
event_more fs m e given other h = event_by fs (timed m e) (is_syn e) given other h

events_more : (fs : List Filter) (m : ℕ) (es : List Event) (given other : List Timed)
    → DecideAlike fs given other → DecideAlike fs (given_after m given es) (given_after m other es)
unfolding given_after
events_more fs m [] given other h = h
events_more fs m (e ∷ es) given other h =
    events_more fs m es (with_event m e given) (with_event m e other) (event_more fs m e given other h)

frame_more : (fs : List Filter) (m : ℕ) (es ds : List Event) (given other : List Timed) → es ≡ ds
    → DecideAlike fs given other → DecideAlike fs (given_after m given es) (given_after m other ds)
frame_more fs m es ds given other same h =
    rw (← same)
    (events_more fs m es given other h)

pub frames_more : (d : Description) (fs : List Filter) (n m : ℕ) (past before : List Step) (x : Step)
    (cs ks : List Cut) (given other : List Timed) → AreCutsAlike d n m cs ks → DecideAlike fs given other
    → DecideAlike fs (given_by (map (frame_of past x) cs) given) (given_by (map (frame_of before x) ks) other)
frames_more d fs n m past before x [] [] given other c h = h
frames_more d fs n m past before x [] (k ∷ ks) given other c h = absurd c
frames_more d fs n m past before x (c ∷ cs) [] given other a h = absurd a
frames_more d fs n m past before x (c ∷ cs) (k ∷ ks) given other a h =
    frames_more d fs n m past before x cs ks (given_after (moment_of x) given c.events)
    (given_after (moment_of x) other k.events) a.1
    (frame_more fs (moment_of x) c.events k.events given other a.0.events h)

-- of the cuts of a step, those that end before one of them

shifted : (a b c e n m : ℕ) → a + m ≡ b + n → c + m ≡ e + n → nat_lt a c ≡ nat_lt b e
shifted a b c e n m low high = grind (arith, low, high)

-- one frame more, where it ends before the one that is asked of
earlier_head : (fs : List Filter) (past before : List Step) (x : Step) (c k : Cut) (fs1 fs2 : List Frame)
    → c.events ≡ k.events → (b also : Bool) → b ≡ also
    → ((given other : List Timed) → DecideAlike fs given other → DecideAlike fs (given_by fs1 given)
    (given_by fs2 other))
    → (given other : List Timed) → DecideAlike fs given other
    → DecideAlike fs (given_by (if b then frame_of past x c ∷ fs1 else fs1) given)
    (given_by (if also then frame_of before x k ∷ fs2 else fs2) other)
earlier_head fs past before x c k fs1 fs2 same true true e rest given other h =
    rest (given_after (moment_of x) given c.events) (given_after (moment_of x) other k.events)
    (frame_more fs (moment_of x) c.events k.events given other same h)
earlier_head fs past before x c k fs1 fs2 same true false e rest given other h = absurd (cc e)
earlier_head fs past before x c k fs1 fs2 same false true e rest given other h = absurd (cc e)
earlier_head fs past before x c k fs1 fs2 same false false e rest given other h = rest given other h

earlier_more : (d : Description) (fs : List Filter) (n m : ℕ) (past before : List Step) (x : Step)
    (c k : Cut) → IsCutAlike d n m c k → (cs ks : List Cut) → AreCutsAlike d n m cs ks
    → (given other : List Timed) → DecideAlike fs given other
    → DecideAlike fs (given_by (filter (ends_later (frame_of past x c)) (map (frame_of past x) cs)) given)
    (given_by (filter (ends_later (frame_of before x k)) (map (frame_of before x) ks)) other)
earlier_more d fs n m past before x c k one [] [] more given other h = h
earlier_more d fs n m past before x c k one [] (k1 ∷ ks) more given other h = absurd more
earlier_more d fs n m past before x c k one (c1 ∷ cs) [] more given other h = absurd more
earlier_more d fs n m past before x c k one (c1 ∷ cs) (k1 ∷ ks) more given other h =
    earlier_head fs past before x c1 k1
    (filter (ends_later (frame_of past x c)) (map (frame_of past x) cs))
    (filter (ends_later (frame_of before x k)) (map (frame_of before x) ks))
    more.0.events
    (ends_later (frame_of past x c) (frame_of past x c1))
    (ends_later (frame_of before x k) (frame_of before x k1))
    (shifted (length c1.until) (length k1.until) (length c.until) (length k.until) n m more.0.long one.long)
    (earlier_more d fs n m past before x c k one cs ks more.1)
    given other h

-- what is eaten of a frame, and what is left of it

eaten_same : (fs : List Filter) (m : ℕ) (es : List Event) (given other : List Timed)
    → DecideAlike fs given other → (k : ℕ) → eaten_from fs m given es k ≡ eaten_from fs m other es k
eaten_same fs m [] given other h k = refl
eaten_same fs m (e ∷ es) given other h zero = h [] (timed m e)
eaten_same fs m (e ∷ es) given other h (suc k) =
    eaten_same fs m es (with_event m e given) (with_event m e other) (event_more fs m e given other h) k

left_same : (f g : ℕ → Bool) → ((k : ℕ) → f k ≡ g k) → (k : ℕ) (es : List Event)
    → left_from f k es ≡ left_from g k es
left_same f g h k [] = refl
left_same f g h k (e ∷ es) = cc (h k, left_same f g h (suc k) es)

-- the cuts of a step after alike pasts
pub step_cuts : (d : Description) (past other : List Step) (x : Step) → AreAlike d past other
    → AreCutsAlike d (length (raw d past)) (length (raw d other)) (cuts_of_step d past x)
    (cuts_of_step d other x)
step_cuts d past other x h =
    rw (← raws_alike d past other x h)
    (cuts_alike d (length (raw d past)) (length (raw d other)) (raw d past) (raw d other)
    (raw_of_step d past x) h.items (omega arith))

given_alike : (d : Description) (past other : List Step) (x : Step) (c k : Cut) → AreAlike d past other
    → IsCutAlike d (length (raw d past)) (length (raw d other)) c k
    → DecideAlike d.filters (given_before d (frame_of past x c)) (given_before d (frame_of other x k))
given_alike d past other x c k h one =
    earlier_more d d.filters (length (raw d past)) (length (raw d other)) past other x c k one
    (cuts_of_step d past x) (cuts_of_step d other x) (step_cuts d past other x h) (given_in d past)
    (given_in d other) h.filters

eaten_by_alike : (d : Description) (fs : List Filter) (f g : Frame) → holder f.before ≡ holder g.before
    → moment f ≡ moment g → f.cut.events ≡ g.cut.events
    → DecideAlike fs (given_before d f) (given_before d g) → (i : ℕ) → eaten_by fs d f i ≡ eaten_by fs d g i
unfolding eaten_by
eaten_by_alike d [] f g held now events h i = refl
eaten_by_alike d (y ∷ fs) f g held now events h i =
    let same : eaten_from (y ∷ fs) (moment f) (given_before d f) f.cut.events i ≡ eaten_from (y ∷ fs)
    (moment g) (given_before d g) g.cut.events i
    = eaten_same (y ∷ fs) (moment f) f.cut.events (given_before d f) (given_before d g) h i
    ∙ ap (λ (n : ℕ). eaten_from (y ∷ fs) n (given_before d g) f.cut.events i) now
    ∙ ap (λ (es : List Event). eaten_from (y ∷ fs) (moment g) (given_before d g) es i) events in
    cc (held, same)

-- what is left of a frame for the clients
pub left_alike : (d : Description) (past other : List Step) (x : Step) (c k : Cut)
    → AreAlike d past other → IsCutAlike d (length (raw d past)) (length (raw d other)) c k
    → left (eaten d) (frame_of past x c) ≡ left (eaten d) (frame_of other x k)
unfolding eaten
left_alike d past other x c k h one =
    left_same (eaten d (frame_of past x c)) (eaten d (frame_of other x k))
    (eaten_by_alike d d.filters (frame_of past x c) (frame_of other x k) h.holders refl one.events
    (given_alike d past other x c k h one)) 0 c.events
    ∙ ap (left_from (eaten d (frame_of other x k)) 0) one.events

given_by_test : (fs : List Filter) (b also : Bool) (a1 a2 b1 b2 : List Timed) → b ≡ also
    → DecideAlike fs a1 b1 → DecideAlike fs a2 b2
    → DecideAlike fs (if b then a1 else a2) (if also then b1 else b2)
given_by_test fs true true a1 a2 b1 b2 e one two = one
given_by_test fs false false a1 a2 b1 b2 e one two = two
given_by_test fs true false a1 a2 b1 b2 e one two = absurd (cc e)
given_by_test fs false true a1 a2 b1 b2 e one two = absurd (cc e)

-- the filters after a step
pub filters_more : (d : Description) (past other : List Step) (x : Step) → AreAlike d past other
    → DecideAlike d.filters (given_in d (x ∷ past)) (given_in d (x ∷ other))
unfolding given_in
filters_more d past other x h =
    given_by_test d.filters (is_some (holder past)) (is_some (holder other)) (given_in d past)
    (given_by (frames_of_step d past x) (given_in d past)) (given_in d other)
    (given_by (frames_of_step d other x) (given_in d other))
    (rw h.holders)
    h.filters
    (frames_more d d.filters (length (raw d past)) (length (raw d other)) past other x
    (cuts_of_step d past x) (cuts_of_step d other x) (given_in d past) (given_in d other)
    (step_cuts d past other x h) h.filters)

-- Values of one list that are put into another one, index by index, and the part of a view that events set
-- so.
use Rattle.std.proofs.Common.{◌≡◌, ℕ, zero, suc, ◌+◌, ◌<◌, ◌≤◌, Bool, true, false, cond, List, [], ◌∷◌, ◌++◌}
use Rattle.std.proofs.Common.{length, take, drop, get_or, set, refl, sym, ap, ◌∙◌, arith, append-nil}
use Rattle.std.proofs.Common.{append_assoc, add-one, length-append, length-drop, map}
use Rattle.std.proofs.lemmas.List.{drop_more, take_more, set_at, get_or_at, length-take-le, drop_all}
use Rattle.std.proofs.lemmas.List.{take_all, get_or-set_same, length-set}
use Rattle.inp_recon.proofs.Each.{Each, Each-append}
use Rattle.inp_reader.specs.Synthesis.{where_below, with_report}
use Rattle.inp_reader.proofs.SynthesisedEvents.{where_below-more, report}
use Rattle.inp_model.specs.declared.event.Event.{Event}
use Rattle.inp_recon.specs.declared.view.View.{View}
use Rattle.inp_recon.specs.View.{view_after_event, view_after_events}
use Rattle.inp_recon.proofs.Folds.{view_after_events-append}
use Rattle.inp_reader.specs.Laws.{EachChanges}

-- ---- what holds of each of some indices

Each-one : (P : ℕ → Type 0) (k : ℕ) (b : Bool) → (b ≡ true → P k) → Each P (cond b (k ∷ []) [])
Each-one P k true h = (h refl, tt)
Each-one P k false h = tt

-- of the numbers below a bound that pass a test
pub Each-where_below : (P : ℕ → Type 0) (n : ℕ) (test : ℕ → Bool) → ((k : ℕ) → k < n → test k ≡ true → P k)
    → Each P (where_below n test)
Each-where_below P zero test h = tt
Each-where_below P (suc n) test h =
    let below : Each P (where_below n test) = Each-where_below P n test (λ k l t. h k (omega (arith, l)) t) in
    let both : Each P (where_below n test ++ cond (test n) (n ∷ []) []) =
    Each-append P (where_below n test) (cond (test n) (n ∷ []) []) below
    (Each-one P n (test n) (λ t. h n (omega arith) t)) in
    rw (← where_below-more n test, add-one) at both

-- ---- the front of the new list before the rest of the old one

abbrev pub mixed : {X : Type 0} → ℕ → List X → List X → List X
mixed n new old = take n new ++ drop n old

pub mixed-put : {X : Type 0} (d : X) (n : ℕ) (new old : List X) → n < length new → n < length old
    → set (mixed n new old) n (get_or new n d) ≡ mixed (n + 1) new old
mixed-put d n new old l m =
    rw (
      drop_more old n d m,
      set_at (take n new) (get_or old n d) (drop (n + 1) old) (get_or new n d) n
          (length-take-le n new (omega (arith, l))),
      ← append_assoc (take n new) (get_or new n d ∷ []) (drop (n + 1) old),
      ← take_more new n d l,
    )

pub mixed-keep : {X : Type 0} (d : X) (n : ℕ) (new old : List X) → n < length new → n < length old
    → get_or old n d ≡ get_or new n d → mixed n new old ≡ mixed (n + 1) new old
mixed-keep d n new old l m e =
    rw (
      drop_more old n d m,
      e,
      ← append_assoc (take n new) (get_or new n d ∷ []) (drop (n + 1) old),
      ← take_more new n d l,
    )

pub mixed-at : {X : Type 0} (d : X) (n : ℕ) (new old : List X) → n < length new → n < length old
    → get_or (mixed n new old) n d ≡ get_or old n d
mixed-at d n new old l m =
    rw (drop_more old n d m)
    (get_or_at (take n new) (get_or old n d) (drop (n + 1) old) d n (length-take-le n new (omega (arith, l))))

-- where the front is the whole new list, nothing of the old one is left
pub mixed-all : {X : Type 0} (n : ℕ) (new old : List X) → length new ≤ n → length old ≤ n
    → mixed n new old ≡ new
mixed-all n new old l m = rw (take_all, drop_all) (append-nil new)

-- ---- the values of the new list at some indices, put into another list

abbrev pub puts : {X : Type 0} → X → List X → (ℕ → ℕ) → List ℕ → List X → List X
puts d new at [] xs = xs
puts d new at (k ∷ ks) xs = puts d new at ks (set xs (at k) (get_or new (at k) d))

-- each of them changes the list
abbrev pub EachPutChanges : {X : Type 0} → X → List X → (ℕ → ℕ) → List ℕ → List X → Type 0
EachPutChanges d new at [] xs = Unit {0}
EachPutChanges d new at (k ∷ ks) xs =
    (set xs (at k) (get_or new (at k) d) ≡ xs → ⊥)
    × EachPutChanges d new at ks (set xs (at k) (get_or new (at k) d))

puts-append : {X : Type 0} (d : X) (new : List X) (at : ℕ → ℕ) (ks js : List ℕ) (xs : List X)
    → puts d new at (ks ++ js) xs ≡ puts d new at js (puts d new at ks xs)
puts-append d new at [] js xs = refl
puts-append d new at (k ∷ ks) js xs = puts-append d new at ks js (set xs (at k) (get_or new (at k) d))

EachPutChanges-append : {X : Type 0} (d : X) (new : List X) (at : ℕ → ℕ) (ks js : List ℕ) (xs : List X)
    → EachPutChanges d new at ks xs → EachPutChanges d new at js (puts d new at ks xs)
    → EachPutChanges d new at (ks ++ js) xs
EachPutChanges-append d new at [] js xs h m = m
EachPutChanges-append d new at (k ∷ ks) js xs h m =
    (h.0, EachPutChanges-append d new at ks js (set xs (at k) (get_or new (at k) d)) h.1 m)

-- a test that tells whether two values differ
pub record Tells {X : Type 0} (differ : X → X → Bool) : Type 0 where
  -- where it says no, the values are the same
  pub same : (x y : X) → differ x y ≡ false → x ≡ y
  -- where it says yes, they are not
  pub apart : (x y : X) → differ x y ≡ true → x ≡ y → ⊥

length-mixed : {X : Type 0} (d : X) (n : ℕ) (new old : List X) → n < length new → n < length old
    → n < length (mixed n new old)
length-mixed d n new old l m =
    omega (
      arith,
      l,
      m,
      length-append (take n new) (drop n old),
      length-take-le n new (omega (arith, l)),
      length-drop n old,
    )

-- the test at an index
abbrev pub differ_at : {X : Type 0} → X → (X → X → Bool) → List X → List X → (ℕ → ℕ) → ℕ → Bool
differ_at d differ old new at k = differ (get_or old (at k) d) (get_or new (at k) d)

module _ {X : Type 0} (d : X) (new old : List X) (at : ℕ → ℕ) (differ : X → X → Bool)
    (tells : Tells differ) where
  -- One index: where the lists differ the new value is put, and that changes the list.
  put-one : (n : ℕ) (b : Bool) → at n < length new → at n < length old → at (n + 1) ≡ at n + 1
      → differ (get_or old (at n) d) (get_or new (at n) d) ≡ b
      → puts d new at (cond b (n ∷ []) []) (mixed (at n) new old) ≡ mixed (at (n + 1)) new old
  put-one n true l m e h = rw (mixed-put, ← e)
  put-one n false l m e h =
      rw (mixed-keep d (at n) new old l m (tells.same (get_or old (at n) d) (get_or new (at n) d) h), ← e)

  change-one : (n : ℕ) (b : Bool) → at n < length new → at n < length old
      → differ (get_or old (at n) d) (get_or new (at n) d) ≡ b
      → EachPutChanges d new at (cond b (n ∷ []) []) (mixed (at n) new old)
  change-one n true l m h = (
    λ same. tells.apart (get_or old (at n) d) (get_or new (at n) d) h (
        rw (← mixed-at d (at n) new old l m, ← same)
        (get_or-set_same (mixed (at n) new old) (at n) (get_or new (at n) d) d
        (length-mixed d (at n) new old l m))
        ),
    tt,
  )
  change-one n false l m h = tt

  -- All indices below a bound: the new list's front is put, and each step changes the list.
  pub puts-below : (n : ℕ) → ((k : ℕ) → at (k + 1) ≡ at k + 1) → ((k : ℕ) → k < n → at k < length new)
      → length old ≡ length new
      → puts d new at (where_below n (differ_at d differ old new at)) (mixed (at 0) new old)
      ≡ mixed (at n) new old
  puts-below zero step within same = refl
  puts-below (suc n) step within same =
      let test : ℕ → Bool = differ_at d differ old new at in
      let l : at n < length new = within n (omega arith) in
      let m : at n < length old = omega (arith, l, same) in
      rw (
        ← add-one n,
        ← put-one n (test n) l m (step n) refl,
        ← puts-below n step (λ k h. within k (omega (arith, h))) same,
        ← puts-append d new at (where_below n test) (cond (test n) (n ∷ []) []) (mixed (at 0) new old),
        ← where_below-more n test,
        add-one n,
      )

  -- what is put at an index is not the old value, which still stands there
  pub EachPutChanges-below : (n : ℕ) → ((k : ℕ) → at (k + 1) ≡ at k + 1)
      → ((k : ℕ) → k < n → at k < length new) → length old ≡ length new
      → EachPutChanges d new at (where_below n (differ_at d differ old new at)) (mixed (at 0) new old)
  EachPutChanges-below zero step within same = tt
  EachPutChanges-below (suc n) step within same =
      let test : ℕ → Bool = differ_at d differ old new at in
      let l : at n < length new = within n (omega arith) in
      let m : at n < length old = omega (arith, l, same) in
      let earlier : (k : ℕ) → k < n → at k < length new = λ k h. within k (omega (arith, h)) in
      let so_far = puts-below n step earlier same in
      let last : EachPutChanges d new at (cond (test n) (n ∷ []) []) (mixed (at n) new old) =
      change-one n (test n) l m refl in
      let both : EachPutChanges d new at (where_below n test ++ cond (test n) (n ∷ []) [])
      (mixed (at 0) new old) =
      EachPutChanges-append d new at (where_below n test) (cond (test n) (n ∷ []) []) (mixed (at 0) new old)
      (EachPutChanges-below n step earlier same) (rw so_far last) in
      rw (← where_below-more n test, add-one) at both

-- ---- events in parts

pub EachChanges-append : (v : View) (es later : List Event) → EachChanges v es
    → EachChanges (view_after_events v es) later → EachChanges v (es ++ later)
unfolding view_after_events
EachChanges-append v [] later h m = m
EachChanges-append v (e ∷ es) later h m = (h.0, EachChanges-append (view_after_event v e) es later h.1 m)

-- what comes behind events that lead to this view
pub EachChanges-behind : (v w : View) (es later : List Event) → view_after_events v es ≡ w → EachChanges v es
    → EachChanges w later → EachChanges v (es ++ later)
EachChanges-behind v w es later leads h m = EachChanges-append v es later h (rw leads m)

-- the events behind others are taken into the view that those lead to
pub leads-behind : (v w : View) (es later : List Event) → view_after_events v es ≡ w
    → view_after_events v (es ++ later) ≡ view_after_events w later
leads-behind v w es later leads = rw (view_after_events-append, leads)

after-report : (v : View) → view_after_event v report ≡ v
unfolding view_after_event
after-report v = refl

-- a report changes nothing
pub leads-with_report : (v : View) (es : List Event)
    → view_after_events v (with_report es) ≡ view_after_events v es
unfolding view_after_events
leads-with_report v [] = refl
leads-with_report v (e ∷ es) =
    view_after_events-append v (e ∷ es) (report ∷ []) ∙ after-report (view_after_events v (e ∷ es))

-- a report need not change the view, and all other events are the same
pub EachChanges-with_report : (v : View) (es : List Event) → EachChanges v es → EachChanges v (with_report es)
EachChanges-with_report v [] h = tt
EachChanges-with_report v (e ∷ es) h =
    EachChanges-append v (e ∷ es) (report ∷ []) h ((λ is_none. absurd cc, tt))

-- ---- one part of a view

-- The event of an index with this property sets the part of the view there to the value of the new list, and
-- nothing else.
pub record SetsPart {X : Type 0} (d : X) (new : List X) (at : ℕ → ℕ) (event : ℕ → Event) (long : ℕ) (P : ℕ
    → Type 0) (with_part : List X → View) : Type 0 where
  -- the part of a view
  pub part_of : View → List X
  -- in a view that was made with a list, the part is that list
  pub part : (xs : List X) → part_of (with_part xs) ≡ xs
  -- the event of an index puts the new list's value into the part at its place
  pub sets : (k : ℕ) (xs : List X) → P k → length xs ≡ long
      → view_after_event (with_part xs) (event k) ≡ with_part (set xs (at k) (get_or new (at k) d))

module _ {X : Type 0} {d : X} {new : List X} {at : ℕ → ℕ} {event : ℕ → Event} {long : ℕ} {P : ℕ
    → Type 0} {with_part : List X → View} (s : SetsPart d new at event long P with_part) where
  -- each event puts its value into the part, so all of them put theirs in order
  pub leads-puts : (ks : List ℕ) (xs : List X) → Each P ks → length xs ≡ long
      → view_after_events (with_part xs) (map event ks) ≡ with_part (puts d new at ks xs)
  unfolding view_after_events
  leads-puts [] xs h l = refl
  leads-puts (k ∷ ks) xs h l =
      rw (← s.sets k xs h.0 l) at (leads-puts ks (set xs (at k) (get_or new (at k) d)) h.1
      (length-set xs (at k) (get_or new (at k) d) ∙ l))

  -- a value that changes the part changes the view, which has the part
  pub EachChanges-puts : (ks : List ℕ) (xs : List X) → Each P ks → length xs ≡ long
      → EachPutChanges d new at ks xs → EachChanges (with_part xs) (map event ks)
  EachChanges-puts [] xs h l m = tt
  EachChanges-puts (k ∷ ks) xs h l m =
      let ys = set xs (at k) (get_or new (at k) d) in (
        λ plain same. m.0 (sym (s.part ys) ∙ ap s.part_of (sym (s.sets k xs h.0 l) ∙ same) ∙ s.part xs),
        rw (s.sets k xs h.0 l)
            (EachChanges-puts ks ys h.1 (length-set xs (at k) (get_or new (at k) d) ∙ l) m.1),
      )

-- How many events of a queue are visible, as the queue changes.
use Rattle.std.proofs.Common.{◌≡◌, ◌≤◌, ◌<◌, ℕ, suc, ◌+◌, ◌-◌, Bool, true, false, ◌||◌, if◌then◌else◌, nat_eq}
use Rattle.std.proofs.Common.{List, [], ◌∷◌, ◌++◌, length, take, get_or, slice_get, Some, None, refl, sym, ap}
use Rattle.std.proofs.Common.{◌∙◌, arith}
use Rattle.std.proofs.lemmas.List.{take_more, length-take-le}
use Rattle.inp_model.specs.declared.event.Event.{Event}
use Rattle.std.proofs.lemmas.Bool.Decides.{nat_tests}
use Rattle.inp_ring.specs.declared.cell.Cell.{Cell}
use Rattle.inp_model.specs.Event.{is_report}
use Rattle.inp_model.specs.Queue.{is_empty, ends_in_report, visible}
use Rattle.inp_ring.specs.Store.{event_of_cell}

-- the count with one event more in front, where it is known for the events behind
abbrev pub counted_before : Bool → ℕ → ℕ
counted_before report behind = if nat_eq behind 0 then (if report then 1 else 0) else suc behind

-- no more is visible than there is
pub visible-le : (q : List Cell) → visible event_of_cell q ≤ length q
visible-le [] = omega arith
visible-le (x ∷ q) = step (is_report (event_of_cell x)) (visible event_of_cell q) (length q) (visible-le q)
  where
    step : (report : Bool) (behind n : ℕ) → behind ≤ n → counted_before report behind ≤ suc n
    step true behind n h = grind (arith, nat_tests)
    step false behind n h = grind (arith, nat_tests)

-- a report at the end makes all visible, and any other event changes nothing
pub visible-push : (q : List Cell) (x : Cell)
    → visible event_of_cell (q ++ x ∷ [])
    ≡ (if is_report (event_of_cell x) then suc (length q) else visible event_of_cell q)
visible-push [] x = refl
visible-push (y ∷ q) x =
    step (is_report (event_of_cell x)) (is_report (event_of_cell y)) (visible event_of_cell (q ++ x ∷ []))
    (length q) (visible event_of_cell q) (visible-push q x)
  where
    step : (last first : Bool) (behind n v : ℕ) → behind ≡ (if last then suc n else v)
        → counted_before first behind ≡ (if last then suc (suc n) else counted_before first v)
    step true first behind n v h = grind (arith, nat_tests, h)
    step false first behind n v h = ap (counted_before first) h

-- What is visible is found from the end: a report ends it, and any other event does not count.
pub visible_at_report : (q : List Cell) (count : ℕ) (d : Cell) → count < length q
    → is_report (event_of_cell (get_or q count d)) ≡ true
    → visible event_of_cell (take (count + 1) q) ≡ count + 1
visible_at_report q count d h r =
    rw (take_more q count d h, visible-push (take count q) (get_or q count d), r)
    (omega (arith, length-take-le count q))

pub visible_at_other : (q : List Cell) (count : ℕ) (d : Cell) → count < length q
    → is_report (event_of_cell (get_or q count d)) ≡ false
    → visible event_of_cell (take (count + 1) q) ≡ visible event_of_cell (take count q)
visible_at_other q count d h r = rw (take_more q count d h, visible-push (take count q) (get_or q count d), r)

-- A queue ends in a report where its last event is one.
pub ends_last : {X : Type 0} (event : X → Event) (q : List X) (x : X) → slice_get q (length q - 1) ≡ Some x
    → is_empty q || ends_in_report event q ≡ is_report (event x)
ends_last event [] x e = cc
ends_last event (y ∷ []) x e = let same : y ≡ x = cc in rw same
ends_last event (y ∷ z ∷ q) x e =
    let at : length (y ∷ z ∷ q) - 1 ≡ suc (length (z ∷ q) - 1) = omega arith in
    ends_last event (z ∷ q) x (sym (rw at) ∙ e)

pub ends_none : {X : Type 0} (event : X → Event) (q : List X) → slice_get q (length q - 1) ≡ None
    → is_empty q || ends_in_report event q ≡ true
ends_none event [] e = refl
ends_none event (y ∷ []) e = cc
ends_none event (y ∷ z ∷ q) e =
    let at : length (y ∷ z ∷ q) - 1 ≡ suc (length (z ∷ q) - 1) = omega arith in
    ends_none event (z ∷ q) (sym (rw at) ∙ e)

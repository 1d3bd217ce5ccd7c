-- The values of slots now, with the slot that was announced when the last frame ended: with the batch
-- behind them they are the values now, with the slot announced now.
use Rattle.std.proofs.Common.{◌≡◌, ◌⊎◌, ℕ, ℤ, Bool, true, false, if◌then◌else◌, nat_eq, List, [], ◌∷◌, ◌++◌}
use Rattle.std.proofs.Common.{refl, ap, ◌∙◌, Option, Some, None, is_some, option_to_list, option_map, inl}
use Rattle.std.proofs.Common.{inr}
use Rattle.inp_model.specs.declared.event.Event.{Event}
use Rattle.inp_model.specs.Description.{Description, is_slot_code}
use Rattle.inp_model.specs.RawItem.{RawItem, Occurred, Described, Cut}
use Rattle.inp_model.specs.State.{cell}
use Rattle.inp_model.specs.Passed.{announced, passed}
use Rattle.inp_model.specs.Cut.{pending, cut_events, at_frame}
use Rattle.inp_recon.specs.View.{slot_after_event}
use Rattle.inp_recon.proofs.Over.{over, over-append}
use Rattle.inp_recon.proofs.EventKinds.{report-unviewed}
use Rattle.inp_recon.proofs.Cuts.{LeadsOn, NoCut, OneCut, cut_cases, passed-report}
use Rattle.inp_recon.proofs.SlotPasses.{SlotCell, both, sets_cell, cell_then, cell-unviewed, cell-passes}

abbrev pub pair : ℤ → ℤ → SlotCell
pair slot value = (slot, value)

module _ (slot : ℤ) (code : ℕ) where
  abbrev t : SlotCell → Event → SlotCell
  t = cell_then slot code

  -- the slot after events does not go by the value
  slot_alike : (es : List Event) (s v w : ℤ) → (over t (pair s v) es).0 ≡ (over t (pair s w) es).0
  slot_alike [] s v w = refl
  slot_alike (e ∷ es) s v w =
      slot_alike es (slot_after_event s e) (if sets_cell slot code s e then e.value else v)
      (if sets_cell slot code s e then e.value else w)

  -- from one slot on events set the value, whatever it was, or leave it
  abbrev Settles : List Event → ℤ → Type 0
  Settles es s =
      ((v w : ℤ) → (over t (pair s v) es).1 ≡ (over t (pair s w) es).1)
      ⊎ ((v : ℤ) → (over t (pair s v) es).1 ≡ v)

  cell_settles : (es : List Event) (s : ℤ) → Settles es s
  cell_settles [] s = inr (λ v. refl)
  cell_settles (e ∷ es) s = by (sets_cell slot code s e) refl (cell_settles es (slot_after_event s e))
    where
      to : ℤ → ℤ
      to v = if sets_cell slot code s e then e.value else v

      by : (b : Bool) → sets_cell slot code s e ≡ b → Settles es (slot_after_event s e) → Settles (e ∷ es) s
      by b h (inl sets) = inl (λ v w. sets (to v) (to w))
      by true h (inr leaves) = inl (λ v w. rw (leaves (to v), leaves (to w), h))
      by false h (inr leaves) = inr (λ v. rw (leaves (to v), h))

  -- Events lead from one slot and value to a slot and value, and more events lead on. From the first slot
  -- with the last value they lead to the same.
  cell_again : (es more : List Event) (s v s1 v1 s2 v2 : ℤ) → over t (pair s v) es ≡ pair s1 v1
      → over t (pair s1 v1) more ≡ pair s2 v2 → over t (pair s v2) (es ++ more) ≡ pair s2 v2
  cell_again es more s v s1 v1 s2 v2 h k =
      let first : (over t (pair s v2) es).0 ≡ s1 = rw (slot_alike es s v2 v, h) in
      rw (over-append t (pair s v2) es more, both _ s1 _ y first refl)
      (both _ s2 _ v2 (rw (slot_alike more s1 y v1, k)) (by (cell_settles es s) (cell_settles more s1)))
    where
      -- the value in between
      y : ℤ
      y = (over t (pair s v2) es).1

      by : Settles es s → Settles more s1 → (over t (pair s1 y) more).1 ≡ v2
      by first (inl sets) = rw (sets y v1, k)
      by (inl sets) (inr leaves) = rw (leaves y, sets v2 v, h, ← leaves v1, k)
      by (inr keeps) (inr leaves) = leaves y ∙ keeps v2

-- ---- the slot at the last frame

frame_or_none : (r : List RawItem) (e : Event) (o : Option (List Event)) → List Cut
frame_or_none r e o =
    option_to_list (option_map (λ events. record { events = events; until = Occurred e ∷ r }) o)

none_is : (r : List RawItem) (e : Event) (o : Option (List Event)) → frame_or_none r e o ≡ []
    → is_some o ≡ false
unfolding frame_or_none
none_is r e None h = refl
none_is r e (Some es) h = absurd cc

some_is : (r : List RawItem) (e : Event) (o : Option (List Event)) (c : Cut) → frame_or_none r e o ≡ c ∷ []
    → is_some o ≡ true
unfolding frame_or_none
some_is r e None c h = absurd cc
some_is r e (Some es) c h = refl

at_frame-no_cut : (d : Description) (r : List RawItem) (e : Event) → NoCut d r (Occurred e)
    → at_frame d (Occurred e ∷ r) ≡ at_frame d r
unfolding at_frame frame_or_none
at_frame-no_cut d r e h = rw (none_is r e (cut_events d r e) h.none)

at_frame-cut : (d : Description) (r : List RawItem) (e : Event) → OneCut d r (Occurred e)
    → at_frame d (Occurred e ∷ r) ≡ announced d (Occurred e ∷ r)
unfolding at_frame frame_or_none
at_frame-cut d r e h = rw (some_is r e (cut_events d r e) _ h.one)

module _ (d : Description) (some : nat_eq d.slots 0 ≡ false) (slot : ℤ) (code : ℕ)
    (is_cell : is_slot_code code ≡ true) where
  -- the value now, with the slot of the last frame, as a synchronisation tells them
  abbrev pub cell_told : List RawItem → SlotCell
  cell_told r = (at_frame d r, cell d r slot code)

  passes : LeadsOn d (t slot code) (λ r. pair (announced d r) (cell d r slot code))
  passes = cell-passes d some slot code is_cell

  pub cell-pending : (r : List RawItem)
      → over (t slot code) (pair (at_frame d r) (cell d r slot code)) (pending d r)
      ≡ pair (announced d r) (cell d r slot code)
  unfolding pending at_frame announced cell
  cell-pending [] = refl
  cell-pending (Described axis i ∷ r) = cell-pending r
  cell-pending (Occurred e ∷ r) =
      elim (cut_cases d r (Occurred e)) [
        | inr cut ↦ none cut.left (at_frame-cut d r e cut)
        | inl cut ↦ elim cut.left [
          | inl more ↦
              rw (more, at_frame-no_cut)
              (cell_again slot code (pending d r) (passed d r e) (at_frame d r) (cell d r slot code)
              (announced d r) (cell d r slot code) (announced d (Occurred e ∷ r)) now
              (cell-pending r) (passes r e))
          -- a report that ends no frame
          | inr report ↦
              (let step =
              rw (
                passed-report d r e report.2,
                cell-unviewed slot code e (report-unviewed e report.2)
                    (pair (announced d r) (cell d r slot code)),
              ) at (passes r e) in
              let last = rw report.1 at (cell-pending r) in
              none report.0 (at_frame-no_cut d r e cut ∙ ap (λ (u : SlotCell). u.0) (last ∙ step)))
        ]
      ]
    where
      now : ℤ
      now = cell d (Occurred e ∷ r) slot code

      -- nothing waits, and the slot of the last frame is the one announced
      none : pending d (Occurred e ∷ r) ≡ [] → at_frame d (Occurred e ∷ r) ≡ announced d (Occurred e ∷ r)
          → over (t slot code) (pair (at_frame d (Occurred e ∷ r)) now) (pending d (Occurred e ∷ r))
          ≡ pair (announced d (Occurred e ∷ r)) now
      none h k = rw (h, k)

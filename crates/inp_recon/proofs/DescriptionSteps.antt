-- Steps that describe an axis: they end no frame and leave the queue; and what is so since when there was
-- none.
use Rattle.std.proofs.Common.{◌≡◌, ℕ, Bool, true, false, not, if◌then◌else◌, List, [], ◌∷◌, map, refl, sym}
use Rattle.std.proofs.Common.{ap, ◌∙◌, inl, inr}
use Rattle.std.proofs.lemmas.Bool.{cases_Bool, cond_both, not-true, false_from_ne_true}
use Rattle.std.proofs.lemmas.List.{append-nil}
use Rattle.inp_model.specs.declared.event.Event.{Event}
use Rattle.inp_model.specs.declared.step.Step.{Step}
use Rattle.inp_model.specs.declared.step.Step.TheVariants.{SetAxis}
use Rattle.inp_model.specs.RawItem.{RawItem, Occurred, Described, Cut}
use Rattle.inp_model.specs.Description.{Description}
use Rattle.inp_model.specs.Step.{is_description}
use Rattle.inp_model.specs.Cut.{raw_after, cut_for, cuts}
use Rattle.inp_model.specs.Raw.{raw, raw_and_timer, raw_of_step, events_after}
use Rattle.inp_model.specs.Frame.{frame_of, frames_of_step}
use Rattle.inp_model.specs.Left.{Eats}
use Rattle.inp_model.specs.Queue.{is_empty, queue_with}
use Rattle.inp_recon.specs.Synchronised.{is_start}
use Rattle.inp_recon.specs.Undisturbed.{frames_since_start, steps_since_frame, steps_since_frame_before_start}
use Rattle.inp_recon.proofs.Each.{Each}
use Rattle.inp_recon.proofs.CallsLeft.{left_in_queue}
use Rattle.inp_recon.proofs.FrameSteps.{IsEventItem}
use Rattle.inp_recon.proofs.Steps.{raw-step, since-step}

-- ---- what such a step stands for

occurred : (es : List Event) → Each IsEventItem (map Occurred es)
occurred [] = tt
occurred (e ∷ es) = (refl, occurred es)

-- another step stands for raw events
pub items-are_events : (d : Description) (past : List Step) (x : Step) → is_description x ≡ false
    → Each IsEventItem (raw_of_step d past x)
unfolding raw_of_step
items-are_events d past (SetAxis client code axis) h = absurd cc
items-are_events d past x h = occurred (events_after d past x (raw_and_timer d past))

described-frames : (d : Description) (past : List Step) (x : Step) → is_description x ≡ true
    → frames_of_step d past x ≡ []
unfolding raw_of_step cuts
described-frames d past (SetAxis client code axis) h = refl
described-frames d past x h = absurd cc

pub queue-described : (eats : Eats) (d : Description) (past : List Step) (client : ℕ) (x : Step)
    → is_description x ≡ true → queue_with eats d (x ∷ past) client ≡ left_in_queue eats d past client x
unfolding queue_with raw_of_step cuts
queue-described eats d past client (SetAxis named code axis) h = refl
queue-described eats d past client x h = absurd cc

-- ---- steps of which none describes an axis

abbrev pub AreUndescribed : List Step → Type 0
AreUndescribed xs = Each (λ x. not (is_description x) ≡ true) xs

module _ (d : Description) (past : List Step) (client : ℕ) (x : Step) where
  pub since-described : is_start past client x ≡ false → is_description x ≡ true
      → frames_since_start d (x ∷ past) client ≡ frames_since_start d past client
  since-described start h = rw (since-step, described-frames) (append-nil (frames_since_start d past client))

  pub steps-step : is_start past client x ≡ false
      → steps_since_frame_before_start d (x ∷ past) client ≡ x ∷ steps_since_frame_before_start d past client
  unfolding steps_since_frame_before_start
  steps-step h = rw h

  pub steps-start : is_start past client x ≡ true
      → steps_since_frame_before_start d (x ∷ past) client ≡ x ∷ steps_since_frame d past
  unfolding steps_since_frame_before_start
  steps-start h = rw h

-- ---- no description since the last frame

-- Among these items, newest first, no description stands behind the last event that ended a frame.
unfoldable pub is_settled : Description → List RawItem → Bool
is_settled d [] = true
is_settled d (Described code axis ∷ r) = false
is_settled d (Occurred e ∷ r) = let before =
    is_settled d r in if is_empty (cut_for d r (Occurred e)) then before else true

settled_events : (d : Description) (xs r : List RawItem) → Each IsEventItem xs → is_settled d r ≡ true
    → is_settled d (raw_after r xs) ≡ true
unfolding is_settled
settled_events d [] r h k = k
settled_events d (Described code axis ∷ xs) r h k = absurd cc
settled_events d (Occurred e ∷ xs) r h k =
    settled_events d xs (Occurred e ∷ r) h.1
    (cond_both (is_empty (cut_for d r (Occurred e))) (is_settled d r) true (λ b. b ≡ true) (λ none. k)
    (λ some. refl))

-- raw events that end a frame settle
settled_cut : (d : Description) (xs r : List RawItem) → Each IsEventItem xs → is_empty (cuts d r xs) ≡ false
    → is_settled d (raw_after r xs) ≡ true
unfolding is_settled cuts
settled_cut d [] r h k = absurd cc
settled_cut d (Described code axis ∷ xs) r h k = absurd cc
settled_cut d (Occurred e ∷ xs) r h k =
    by (cut_for d r (Occurred e)) refl (settled_cut d xs (Occurred e ∷ r) h.1)
  where
    rest : List Cut
    rest = cuts d (Occurred e ∷ r) xs

    by : (cs : List Cut) → cut_for d r (Occurred e) ≡ cs
        → (is_empty rest ≡ false → is_settled d (raw_after (Occurred e ∷ r) xs) ≡ true)
        → is_settled d (raw_after (Occurred e ∷ r) xs) ≡ true
    by [] none ih = ih (rw none at k)
    by (c ∷ cs) some ih = settled_events d xs (Occurred e ∷ r) h.1 (rw some)

empty-map : {X Y : Type 0} (f : X → Y) (xs : List X) → is_empty (map f xs) ≡ is_empty xs
empty-map f [] = refl
empty-map f (x ∷ xs) = refl

-- where no step since the last frame described an axis
pub raw-settled : (d : Description) (past : List Step) → AreUndescribed (steps_since_frame d past)
    → is_settled d (raw d past) ≡ true
unfolding is_settled raw raw_and_timer steps_since_frame
raw-settled d [] h = refl
raw-settled d (x ∷ past) h =
    let xs : List RawItem = raw_of_step d past x in
    ap (is_settled d) (raw-step d past x)
    ∙ elim (cases_Bool (is_empty (frames_of_step d past x))) [
      | inl e ↦ (let k = rw e at h in
          settled_events d xs (raw d past) (items-are_events d past x (not-true _ k.0))
          (raw-settled d past k.1))
      | inr e ↦
          (let other =
          false_from_ne_true (is_description x) (λ is. cc (ap is_empty (described-frames d past x is), e)) in
          settled_cut d xs (raw d past) (items-are_events d past x other)
          (sym (empty-map (frame_of past x) (cuts d (raw d past) xs)) ∙ e))
    ]

-- A value that is as the last event on it says: what comes twice counts once.
use Rattle.std.proofs.Common.{◌≡◌, ◌⊎◌, ℕ, Bool, true, false, if◌then◌else◌, List, [], ◌∷◌, ◌++◌, refl, sym}
use Rattle.std.proofs.Common.{◌∙◌, inl, inr}
use Rattle.inp_model.specs.declared.event.Event.{Event}
use Rattle.inp_model.specs.declared.axis_info.AxisInfo.{AxisInfo}
use Rattle.inp_model.specs.RawItem.{RawItem, Occurred, Described}
use Rattle.inp_model.specs.Description.{Description}
use Rattle.inp_model.specs.Passed.{passed}
use Rattle.inp_model.specs.Cut.{pending}
use Rattle.inp_recon.proofs.Over.{over, over-append}
use Rattle.inp_recon.proofs.Cuts.{LeadsOn, NoCut, cut_cases}

-- an event on the value sets it
abbrev pub set_by : {V : Type 0} → (Event → Bool) → (Event → V) → V → Event → V
set_by is_on value v e = if is_on e then value e else v

module _ {V : Type 0} (is_on : Event → Bool) (value : Event → V) where
  abbrev t : V → Event → V
  t = set_by is_on value

  -- events set the value, whatever it was, or leave it
  abbrev Settles : List Event → Type 0
  Settles es = ((v w : V) → over t v es ≡ over t w es) ⊎ ((v : V) → over t v es ≡ v)

  settles : (es : List Event) → Settles es
  settles [] = inr (λ v. refl)
  settles (e ∷ es) = by (is_on e) refl (settles es)
    where
      by : (b : Bool) → is_on e ≡ b → Settles es → Settles (e ∷ es)
      by b h (inl sets) = inl (λ v w. sets (t v e) (t w e))
      by true h (inr leaves) = inl (λ v w. rw (leaves (t v e), leaves (t w e), h))
      by false h (inr leaves) = inr (λ v. rw (leaves (t v e), h))

  -- Events that leave the value as it is, with more events behind them: they leave what those make of it,
  -- too.
  pub again : (v : V) (es more : List Event) → over t v es ≡ v
      → over t (over t v more) (es ++ more) ≡ over t v more
  again v es more h =
      rw over-append
      (elim (settles more)
      [ inl sets ↦ sets (over t (over t v more) es) v | inr leaves ↦ simp (leaves v, h) ])

  -- events that leave the value as it is end in some that do
  pub suffix-same : (v w : V) (es : List Event) → over t w es ≡ v → over t v es ≡ v
  suffix-same v w es h = elim (settles es) [ inl sets ↦ sets v w ∙ h | inr leaves ↦ leaves v ]

  -- The state now with the batch behind it is the state now, where a description does not change it. Which
  -- descriptions do may depend on the items before: `fits` tells, of those up to now.
  pub pending-again : (d : Description) (st : List RawItem → V) → LeadsOn d t st
      → (fits : List RawItem → Bool)
      → ((r : List RawItem) (e : Event) → NoCut d r (Occurred e) → fits (Occurred e ∷ r) ≡ true
      → fits r ≡ true)
      → ((r : List RawItem) (code : ℕ) (axis : AxisInfo) → fits (Described code axis ∷ r) ≡ true
      → (fits r ≡ true) × (st (Described code axis ∷ r) ≡ st r))
      → (r : List RawItem) → fits r ≡ true → over t (st r) (pending d r) ≡ st r
  unfolding pending
  pending-again d st passes fits waiting described [] fit = refl
  pending-again d st passes fits waiting described (Described code axis ∷ r) fit =
      let before = described r code axis fit in
      rw (before.1, pending-again d st passes fits waiting described r before.0, sym before.1)
  pending-again d st passes fits waiting described (Occurred e ∷ r) fit =
      elim (cut_cases d r (Occurred e)) [
        | inr cut ↦ rw cut.left
        | inl cut ↦ elim cut.left [
          | inr report ↦ rw report.0
          | inl more ↦
              rw (
                more,
                ← passes r e,
                again (st r) (pending d r) (passed d r e)
                    (pending-again d st passes fits waiting described r (waiting r e cut fit)),
                passes r e,
              )
        ]
      ]

-- An axis with a value of its own: what is passed for a raw event leads from its value before to its value
-- behind.
use Rattle.std.proofs.Common.{◌≡◌, ℕ, ℤ, Bool, true, false, ◌&&◌, not, nat_eq, List, ◌∷◌, refl, sym, ap, ◌∙◌}
use Rattle.std.proofs.Common.{option_to_list, option_map, inl, inr}
use Rattle.std.specs.Ordering.{int_eq}
use Rattle.std.proofs.lemmas.Bool.{cases_Bool, eq-eqb, not-true, and_left, and_right}
use Rattle.std.proofs.lemmas.Bool.Decides.{Decides-int_eq}
use Rattle.inp_model.specs.declared.event.TheConstants.{EV_ABS}
use Rattle.inp_model.proofs.MultiTouchCodes.{plain-no_slot_code}
use Rattle.inp_model.specs.declared.event.Event.{Event}
use Rattle.inp_model.specs.Description.{Description, supports, is_multi_touch_code}
use Rattle.inp_model.specs.Event.{is_multi_touch, slot_event}
use Rattle.inp_model.specs.RawItem.{RawItem, Occurred}
use Rattle.inp_model.specs.State.{axis_value}
use Rattle.inp_model.specs.Passed.{axis_passes_as, passed}
use Rattle.inp_recon.specs.Synchronised.{has_axis}
use Rattle.inp_recon.proofs.Each.{Each, and-left, and-right}
use Rattle.inp_recon.proofs.Over.{over, over-idle, IsIdle}
use Rattle.inp_recon.proofs.LastWrite.{set_by}
use Rattle.inp_recon.proofs.QueuedValues.{UnviewedIdle}
use Rattle.inp_recon.proofs.Cuts.{LeadsOn, passed-each}
use Rattle.inp_recon.proofs.EventKinds.{event, is_on_code, on_or_off, unviewed-other}

-- the event sets this axis
abbrev pub sets_axis : ℕ → Event → Bool
sets_axis code e = (nat_eq e.kind EV_ABS && not (is_multi_touch e)) && nat_eq e.code code

abbrev pub value_of : Event → ℤ
value_of e = e.value

-- the value of an axis after an event
abbrev pub axis_after : ℕ → ℤ → Event → ℤ
axis_after code = set_by (sets_axis code) value_of

pub unset-idle : (code : ℕ) (e : Event) → sets_axis code e ≡ false → IsIdle (axis_after code) e
unset-idle code e h v = rw h

not_set : (kind other same : Bool) → (kind && same) ≡ false → ((kind && not other) && same) ≡ false
not_set true true same h = refl
not_set true false same h = h
not_set false other same h = refl

pub unkind-idle : (code : ℕ) (e : Event) → nat_eq e.kind EV_ABS ≡ false → IsIdle (axis_after code) e
unkind-idle code e h = unset-idle code e (rw h)

pub multi_touch-idle : (code : ℕ) (e : Event) → is_multi_touch e ≡ true → IsIdle (axis_after code) e
multi_touch-idle code e h =
    unset-idle code e (rw h (and_left _ (nat_eq e.code code) (and_right (nat_eq e.kind EV_ABS) false refl)))

pub axis-unviewed : (code : ℕ) → UnviewedIdle (axis_after code)
axis-unviewed code e h = unkind-idle code e (unviewed-other e.kind EV_ABS refl h)

module _ (d : Description) (code : ℕ) (has : has_axis d code ≡ true) where
  abbrev t : ℤ → Event → ℤ
  t = axis_after code

  pub plain : is_multi_touch_code code ≡ false
  plain = not-true (is_multi_touch_code code) (and-right (supports d EV_ABS code) _ has)

  supported : supports d EV_ABS code ≡ true
  supported = and-left _ _ has

  -- an event that does not set the axis
  other-each : (r : List RawItem) (e : Event) → is_on_code EV_ABS code e ≡ false
      → Each (IsIdle t) (passed d r e)
  other-each r e h =
      passed-each (IsIdle t) d r e (λ slot. multi_touch-idle code (slot_event slot) refl)
      (λ value. unset-idle code (record e { value = value })
      (not_set (nat_eq e.kind EV_ABS) (is_multi_touch (record e { value = value })) (nat_eq e.code code) h))

  other-same : (r : List RawItem) (e : Event) → is_on_code EV_ABS code e ≡ false
      → axis_value d (Occurred e ∷ r) code ≡ axis_value d r code
  unfolding axis_value
  other-same r e h = rw (h, and_right (supports d EV_ABS code) false refl)

  -- an event on the axis is passed as the value that the axis takes, where that is another one
  passed_at : (r : List RawItem) (value : ℤ) → let e : Event = event EV_ABS code value in
      passed d r e ≡ option_to_list (option_map (λ v. event EV_ABS code v) (axis_passes_as d r e))
  passed_at r value = rw (plain-no_slot_code code plain, supported, plain)

  at_axis : (r : List RawItem) (value : ℤ)
      → over t (axis_value d r code) (passed d r (event EV_ABS code value))
      ≡ axis_value d (Occurred (event EV_ABS code value) ∷ r) code
  at_axis r value =
      ap (over t old) (passed_at r value)
      ∙ elim (cases_Bool (int_eq old new))
      [ inl h ↦ rw h ((Decides-int_eq old new).0 h) | inr h ↦ rw (h, mine) ]
    where
      old : ℤ
      old = axis_value d r code

      new : ℤ
      new = axis_value d (Occurred (event EV_ABS code value) ∷ r) code

      mine : sets_axis code (event EV_ABS code new) ≡ true
      mine = rw plain (eq-eqb code code refl)

  pub axis-passes : LeadsOn d t (λ r. axis_value d r code)
  axis-passes r e =
      on_or_off (λ e. over t (axis_value d r code) (passed d r e) ≡ axis_value d (Occurred e ∷ r) code) EV_ABS
      code e (at_axis r)
      (λ h. over-idle t (axis_value d r code) (passed d r e) (other-each r e h) ∙ sym (other-same r e h))

-- A key, switch or LED: what is passed for a raw event leads from its state before to its state behind.
use Rattle.std.proofs.Common.{◌≡◌, ℕ, ℤ, Bool, true, false, ◌&&◌, not, if◌then◌else◌, nat_eq, List, ◌∷◌, refl}
use Rattle.std.proofs.Common.{sym, ◌∙◌, None, option_to_list, option_map, arith}
use Rattle.std.proofs.lemmas.Bool.{eq-eqb, and_right, and_left}
use Rattle.inp_model.specs.declared.event.TheConstants.{EV_ABS}
use Rattle.inp_model.specs.declared.event.Event.{Event}
use Rattle.inp_model.specs.Description.{Description, supports}
use Rattle.inp_model.specs.RawItem.{RawItem, Occurred}
use Rattle.inp_model.specs.Event.{is_set}
use Rattle.inp_model.specs.Passed.{differ, passed_if, passed}
use Rattle.inp_recon.proofs.Each.{Each, Each-weaker}
use Rattle.inp_recon.proofs.Over.{over, over-idle, IsIdle}
use Rattle.inp_recon.proofs.LastWrite.{set_by}
use Rattle.inp_recon.proofs.EventKinds.{event, is_on_code, on_or_off}
use Rattle.inp_recon.proofs.Cuts.{LeadsOn, passed-each}
use Rattle.std.proofs.Math.Bool.{and-true}

over_option : (t : Bool → Event → Bool) (b : Bool) (mk : ℤ → Event) (has p : Bool) (v : ℤ)
    → over t b (option_to_list (option_map mk (if has then passed_if p v else None)))
    ≡ (if has && p then t b (mk v) else b)
over_option t b mk true true v = refl
over_option t b mk true false v = refl
over_option t b mk false p v = refl

-- the state behind, by the state before, where the event is passed if the two differ
flag_cases : (has skip set before behind : Bool) → behind ≡ (if has && not skip then set else before)
    → (if has && (if skip then true else differ before behind) then (if not skip then set else before)
    else before) ≡ behind
flag_cases has skip set before behind h = grind arith

-- the event is on this code, and sets it
abbrev pub sets_flag : ℕ → (ℤ → Bool) → ℕ → Event → Bool
sets_flag kind skips code e = is_on_code kind code e && not (skips e.value)

-- what is passed for an event of the type
abbrev pub PassesFlag : Description → ℕ → (ℤ → Bool) → (List RawItem → ℕ → Bool) → Type 0
PassesFlag d kind skips on =
    (r : List RawItem) (code : ℕ) (value : ℤ)
    → passed d r (event kind code value)
    ≡ option_to_list
    (option_map (λ v. event kind code v)
    (if supports d kind code
    then passed_if (if skips value then true
    else differ (on r code) (on (Occurred (event kind code value) ∷ r) code)) value else None))

-- the state by the last event on the code
abbrev pub StepsFlag : Description → ℕ → (ℤ → Bool) → (List RawItem → ℕ → Bool) → Type 0
StepsFlag d kind skips on =
    (r : List RawItem) (e : Event) (code : ℕ)
    → on (Occurred e ∷ r) code
    ≡ (if (supports d kind code && is_on_code kind code e) && not (skips e.value) then is_set e
    else on r code)

module _ (d : Description) (kind : ℕ) (skips : ℤ → Bool) (on : List RawItem → ℕ → Bool)
    (steps : StepsFlag d kind skips on) (passes : PassesFlag d kind skips on)
    (not_abs : nat_eq EV_ABS kind ≡ false) (code : ℕ) where
  abbrev t : Bool → Event → Bool
  t = set_by (sets_flag kind skips code) is_set

  -- an event of another type or code
  abbrev IsOff : Event → Type 0
  IsOff e = is_on_code kind code e ≡ false

  other_same : (r : List RawItem) (e : Event) → IsOff e → on (Occurred e ∷ r) code ≡ on r code
  other_same r e h = rw (steps r e code, h, and_right (supports d kind code) false refl)

  -- nothing of the code is passed for such an event
  other_each : (r : List RawItem) (e : Event) → IsOff e → Each IsOff (passed d r e)
  other_each r e h = passed-each IsOff d r e (λ slot. and_left _ _ not_abs) (λ value. h)

  at_code : (r : List RawItem) (value : ℤ)
      → over t (on r code) (passed d r (event kind code value))
      ≡ on (Occurred (event kind code value) ∷ r) code
  at_code r value =
      let e : Event = event kind code value in
      let before : Bool = on r code in
      let behind : Bool = on (Occurred e ∷ r) code in
      let has : Bool = supports d kind code in
      let same : is_on_code kind code e ≡ true = rw (eq-eqb kind kind refl) (eq-eqb code code refl) in
      let is : behind ≡ (if has && not (skips value) then is_set e else before) =
      rw (steps r e code, same, and-true has) in
      rw (
        passes r code value,
        over_option t before (λ v. event kind code v) has
            (if skips value then true else differ before behind) value,
        same,
      )
      (flag_cases has (skips value) (is_set e) before behind is)

  pub flag-passes : LeadsOn d t (λ r. on r code)
  flag-passes r e =
      on_or_off (λ e. over t (on r code) (passed d r e) ≡ on (Occurred e ∷ r) code) kind code e (at_code r)
      (λ h. over-idle t (on r code) (passed d r e)
      (Each-weaker IsOff (IsIdle t) (λ p off b. rw off) (passed d r e) (other_each r e h))
      ∙ sym (other_same r e h))

  -- a code that is not supported: its state stays, and nothing of it is passed
  pub unsupported-same : supports d kind code ≡ false → (r : List RawItem) (e : Event)
      → on (Occurred e ∷ r) code ≡ on r code
  unsupported-same h r e = rw (steps r e code, h)

  pub unsupported-each : supports d kind code ≡ false → (r : List RawItem) (e : Event)
      → Each IsOff (passed d r e)
  unsupported-each h r e =
      on_or_off (λ e. Each IsOff (passed d r e)) kind code e (λ value. rw (passes r code value, h) tt)
      (other_each r e)

-- What an answer for open clients alone tells, and what a test tells of a type.
use Rattle.std.proofs.Common.{◌≡◌, ℕ, Bool, true, false, if◌then◌else◌, Some, None, inl, inr}
use Rattle.std.proofs.lemmas.Bool.{or_cases, eqb-true}
use Rattle.inp_model.specs.declared.event.TheConstants.{EV_KEY, EV_SW, EV_LED, EV_SND}
use Rattle.inp_uinput.specs.Queries.{HasBits}
use Rattle.inp_c.specs.DeviceTold.{is_state_kind}

-- the answer that there is
pub answer_of_some : {X : Type 0} (is_open : Bool) (x y : X)
    → Some y ≡ (if is_open then Some x else None) → y ≡ x
answer_of_some true x y e = cc
answer_of_some false x y e = cc

-- the types that pass the test are those whose codes are on or off
pub HasBits-from_test : (kind : ℕ) → is_state_kind kind ≡ true → HasBits kind
HasBits-from_test kind e = elim (or_cases _ _ e) [
  | inl first ↦ elim (or_cases _ _ first) [
    | inl second ↦ elim (or_cases _ _ second) [
      | inl key ↦ inl (eqb-true kind EV_KEY key)
      | inr switch ↦ inr (inl (eqb-true kind EV_SW switch))
    ]
    | inr led ↦ inr (inr (inl (eqb-true kind EV_LED led)))
  ]
  | inr sound ↦ inr (inr (inr (eqb-true kind EV_SND sound)))
]

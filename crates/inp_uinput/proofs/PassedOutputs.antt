-- A raw event sends itself, or nothing.
use Rattle.std.proofs.Common.{◌≡◌, Bool, true, false, ◌&&◌, ◌||◌, if◌then◌else◌, ℤ, List, [], ◌∷◌, refl, sym}
use Rattle.std.proofs.Common.{◌∙◌, arith, Option, Some, None, is_some, option_to_list, option_map}
use Rattle.std.specs.Prelude.{filter, nat_eq, nat_lt}
use Rattle.std.proofs.lemmas.Bool.{cond_both, true≢false}
use Rattle.std.proofs.lemmas.Bool.Decides.{nat_tests}
use Rattle.std.proofs.lemmas.List.Elements.{filter-append}
use Rattle.inp_model.specs.declared.event.TheConstants.{EV_SYN, EV_KEY, EV_REL, EV_ABS, EV_SW, EV_LED, EV_REP}
use Rattle.inp_model.specs.declared.event.TheConstants.{SYN_DROPPED}
use Rattle.inp_model.specs.declared.event.Event.{Event}
use Rattle.inp_model.specs.RawItem.{RawItem, Occurred}
use Rattle.inp_model.specs.Description.{Description, supports}
use Rattle.inp_model.specs.Event.{is_set, slot_event}
use Rattle.inp_model.specs.Passed.{passed_if, key_passes, switch_passes, setting_passes, passes_as, announces}
use Rattle.inp_model.specs.Passed.{announcement, is_output, goes_to_device}
use Rattle.inp_feedback.specs.Sent.{sent_for}

abbrev one_passed : Description → List RawItem → Event → List Event
one_passed d r e = option_to_list (option_map (λ v. record e { value = v }) (passes_as d r e))

no_axis : (e : Event) → is_output e ≡ true → nat_eq e.kind EV_ABS ≡ false
no_axis e h = grind (arith, nat_tests)

abbrev IsItself : Event → Option ℤ → Type 0
IsItself e o =
    option_to_list (option_map (λ v. record e { value = v }) o) ≡ (if is_some o then e ∷ [] else [])

if_itself : (e : Event) (passes : Bool) → IsItself e (passed_if passes e.value)
if_itself e true = refl
if_itself e false = refl

either_itself : (e : Event) (b : Bool) (x y : Option ℤ) → IsItself e x → IsItself e y
    → IsItself e (if b then x else y)
either_itself e true x y h k = h
either_itself e false x y h k = k

-- an output is passed as itself
output_alone : (d : Description) (r : List RawItem) (e : Event) → is_output e ≡ true
    → one_passed d r e ≡ (if is_some (passes_as d r e) then e ∷ [] else [])
output_alone d r e h =
    either_itself e (nat_eq e.kind EV_SYN) _ _ (if_itself e (nat_lt e.code SYN_DROPPED))
    (either_itself e (supports d e.kind e.code) _ _
    (either_itself e (nat_eq e.kind EV_KEY) _ _ (if_itself e (key_passes d r e))
    (either_itself e (nat_eq e.kind EV_REL) _ _ (if_itself e (is_set e))
    (cond_both (nat_eq e.kind EV_ABS) _ _ (IsItself e) (λ axis. absurd (true≢false (sym axis ∙ no_axis e h)))
    (λ _. either_itself e (nat_eq e.kind EV_SW || nat_eq e.kind EV_LED) _ _
    (if_itself e (switch_passes d r e))
    (either_itself e (nat_eq e.kind EV_REP) _ _ (if_itself e (setting_passes d r e)) refl))))) refl)

-- a slot is no output
no_announcement : (slot : ℤ) (b : Bool) → filter is_output (if b then slot_event slot ∷ [] else []) ≡ []
no_announcement slot true = refl
no_announcement slot false = refl

nothing : (b : Bool) → (let none : List Event = [] in none ≡ (if b then [] else []))
nothing true = refl
nothing false = refl

filter_one : (e : Event) (o : Option ℤ)
    → (let one : List Event = option_to_list (option_map (λ v. record e { value = v }) o) in
    filter is_output one ≡ (if is_output e then one else []))
filter_one e None = nothing (is_output e)
filter_one e (Some v) = refl

-- an output is passed as itself or not at all, and a slot announced with it is no output
pub sent_for-event : (d : Description) (r : List RawItem) (e : Event)
    → sent_for d r (Occurred e) ≡ (if goes_to_device d r e then e ∷ [] else [])
sent_for-event d r e =
    let by : (b : Bool) → is_output e ≡ b
    → (if b then one_passed d r e else []) ≡ (if b && is_some (passes_as d r e) then e ∷ [] else []) =
    λ b. elim b as (λ b. is_output e ≡ b
    → (if b then one_passed d r e else []) ≡ (if b && is_some (passes_as d r e) then e ∷ [] else [])) [
      | true ↦ λ h. output_alone d r e h
      | false ↦ λ h. refl
    ] in
    rw (
      filter-append is_output (announcement d r e) (one_passed d r e),
      no_announcement _ (announces d r e),
      filter_one e (passes_as d r e),
    ) (by (is_output e) refl)

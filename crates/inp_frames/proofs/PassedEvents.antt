-- What is passed for a raw event, by what becomes of it.
use Rattle.std.proofs.Common.{◌≡◌, ◌==◌, ℕ, Bool, true, false, ◌&&◌, if◌then◌else◌, ℤ, List, [], ◌∷◌, refl}
use Rattle.std.proofs.Common.{ap, ◌∙◌, arith, Option, Some, None, is_some, option_to_list, option_map}
use Rattle.std.specs.Prelude.{unwrap_or, not}
use Rattle.std.specs.Int.RustNames.{bit_and}
use Rattle.std.specs.Ordering.{int_eq}
use Rattle.std.proofs.lemmas.Bool.{and_parts}
use Rattle.std.proofs.lemmas.Bool.Decides.{nat_tests}
use Rattle.inp_model.specs.declared.event.TheConstants.{EV_ABS}
use Rattle.inp_model.specs.declared.event.Event.{Event}
use Rattle.inp_model.specs.RawItem.{RawItem, Occurred}
use Rattle.inp_model.specs.Description.{Description}
use Rattle.inp_model.specs.Event.{is_multi_touch, is_report, slot_event}
use Rattle.inp_model.specs.State.{staged}
use Rattle.inp_model.specs.Passed.{passes_as, passes_slot_value, goes_to_device, announced, announces}
use Rattle.inp_model.specs.Passed.{announcement, passed}
use Rattle.inp_caps.specs.Disposition.{flags, flags_after}
use Rattle.inp_state.proofs.Steps.{at_kind}
use Rattle.inp_slots.specs.Slots.{touch}
use Rattle.inp_frames.specs.Batch.{events_by}
use Rattle.inp_slots.proofs.Steps.{announced-tells}

is_axis : (e : Event) → is_multi_touch e ≡ true → e.kind ≡ EV_ABS
is_axis e h = grind (arith, nat_tests)

-- a multi-touch event is the touch of its code and value
pub touches : (e : Event) (value : ℤ) → is_multi_touch e ≡ true → value ≡ e.value → touch e.code value ≡ e
touches e value h v =
    ap (touch e.code) v ∙ at_kind (λ x. touch x.code x.value ≡ x) e EV_ABS (is_axis e h) refl

-- the flags that a number holds

-- a test at both truth values
abbrev both : (Bool → Bool) → Bool
both f = f true && f false

both_hold : (f : Bool → Bool) → both f ≡ true → (b : Bool) → f b ≡ true
both_hold f h true = (and_parts (f true) (f false) h).0
both_hold f h false = (and_parts (f true) (f false) h).1

-- a test of four flags that is true whatever they are, which one computation shows
each_flags : (f : Bool → Bool → Bool → Bool → Bool)
    → both (λ a. both (λ b. both (λ c. both (f a b c)))) ≡ true → (a b c d : Bool) → f a b c d ≡ true
each_flags f h a b c d =
    let first = both_hold (λ a. both (λ b. both (λ c. both (f a b c)))) h a in
    let second = both_hold (λ b. both (λ c. both (f a b c))) first b in
    both_hold (f a b c) (both_hold (λ c. both (f a b c)) second c) d

same_flag : (x y : Bool) → (if y then x else not x) ≡ true → x ≡ y
same_flag x true h = h
same_flag true false h = absurd (cc h)
same_flag false false h = refl

flag_1 : (passes device slot flush : Bool) → (bit_and (flags passes device slot flush) 1 == 1) ≡ passes
flag_1 p d s f = same_flag _ p
    (each_flags (λ p d s f. let x = bit_and (flags p d s f) 1 == 1 in if p then x else not x) refl p d s f)

flag_2 : (passes device slot flush : Bool) → (bit_and (flags passes device slot flush) 2 == 2) ≡ device
flag_2 p d s f = same_flag _ d
    (each_flags (λ p d s f. let x = bit_and (flags p d s f) 2 == 2 in if d then x else not x) refl p d s f)

flag_4 : (passes device slot flush : Bool) → (bit_and (flags passes device slot flush) 4 == 4) ≡ slot
flag_4 p d s f = same_flag _ s
    (each_flags (λ p d s f. let x = bit_and (flags p d s f) 4 == 4 in if s then x else not x) refl p d s f)

-- the event itself

event_by : (p : Option ℤ) (e : Event) (v : ℤ) → v ≡ unwrap_or p e.value
    → (let given : Event = record e { value = v } in option_to_list (if is_some p then Some given else None))
    ≡ option_to_list (option_map (λ w. record e { value = w }) p)
event_by None e v is = refl
event_by (Some w) e v is = rw is

-- the slot before it

slot_by : (slot told : ℤ) (announces : Bool) → (announces ≡ true → slot ≡ told)
    → option_to_list (if announces then Some (slot_event slot) else None)
    ≡ (if announces then slot_event told ∷ [] else [])
slot_by slot told true h = rw h
slot_by slot told false h = refl

-- by the flags, the value and the slot announced after the event that is passed which the model passes
pub passed-by : (d : Description) (r : List RawItem) (e : Event) (n : ℕ) (v slot : ℤ) → n ≡ flags_after d r e
    → v ≡ unwrap_or (passes_as d r e) e.value → slot ≡ announced d (Occurred e ∷ r)
    → events_by n slot (record e { value = v }) ≡ passed d r e
passed-by d r e n v slot flags_are value told =
    let passes : Bool = is_some (passes_as d r e) in
    let new : Event = record e { value = v } in
    let has_1 : (bit_and n 1 == 1) ≡ passes =
    rw flags_are (flag_1 passes (goes_to_device d r e) (announces d r e) (passes && is_report e)) in
    let has_4 : (bit_and n 4 == 4) ≡ announces d r e =
    rw flags_are (flag_4 passes (goes_to_device d r e) (announces d r e) (passes && is_report e)) in
    let before : List Event = option_to_list (if bit_and n 4 == 4 then Some (slot_event slot) else None) in
    let itself : List Event = option_to_list (if bit_and n 1 == 1 then Some new else None) in
    let of_slot : before ≡ announcement d r e =
    rw has_4 (slot_by slot (staged d r) (announces d r e) (λ h. told
    ∙ announced-tells d r e
    (and_parts (passes_slot_value d r e) (not (int_eq (staged d r) (announced d r))) h).0)) in
    let of_event : itself ≡ option_to_list (option_map (λ w. record e { value = w }) (passes_as d r e)) =
    rw has_1 (event_by (passes_as d r e) e v value) in
    rw (of_slot, of_event)

-- so is whether it goes to the device
pub goes-by : (d : Description) (r : List RawItem) (e : Event) (n : ℕ) → n ≡ flags_after d r e
    → (bit_and n 2 == 2) ≡ goes_to_device d r e
goes-by d r e n flags_are =
    let passes : Bool = is_some (passes_as d r e) in
    rw flags_are (flag_2 passes (goes_to_device d r e) (announces d r e) (passes && is_report e))

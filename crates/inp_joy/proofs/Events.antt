-- The record of an event leads the picture to the view that took it.
use Rattle.std.proofs.Common.{◌≡◌, ℕ, ◌<◌, ◌≤◌, ℤ, pos, Bool, true, false, ◌&&◌, not, if◌then◌else◌, nat_eq}
use Rattle.std.proofs.Common.{nat_lt, int_eq, List, length, map, set, Some, None, refl, sym, ap, arith, inl}
use Rattle.std.proofs.Common.{inr, ◌⊎◌}
use Rattle.std.specs.Prelude.{Option, slice_index_or}
use Rattle.std.proofs.lemmas.Bool.Decides.{nat_tests, Decides-int_eq}
use Rattle.std.proofs.lemmas.List.{get_or-set_same, get_or-set_other, length-map, set-get_or}
use Rattle.std.proofs.lemmas.Bool.{cond_both, and_parts}
use Rattle.inp_model.specs.declared.event.Event.{Event}
use Rattle.inp_model.specs.declared.event.TheConstants.{EV_SYN, EV_KEY, EV_ABS, SYN_REPORT}
use Rattle.inp_model.specs.declared.taken.Taken.{Taken}
use Rattle.inp_model.specs.Description.{Description, is_multi_touch_code}
use Rattle.inp_model.specs.Event.{is_report, is_repeat, is_set, is_multi_touch}
use Rattle.inp_recon.specs.declared.view.View.{View}
use Rattle.inp_recon.specs.View.{keys_after_event, axes_after_event, with_flag, with_value_at}
use Rattle.inp_recon.specs.View.{view_after_event}
use Rattle.inp_joy.specs.declared.joy_record.JoyRecord.{JoyRecord}
use Rattle.inp_reader.proofs.UnsetSlotAxes.{other-after_event}
use Rattle.inp_joy.specs.Codes.{buttons, axes, number_among}
use Rattle.inp_joy.specs.JoyRecord.{within_16_bits, button_record, axis_record}
use Rattle.inp_joy.specs.Joy.{last_value, record_of_key, record_of_axis, joy_record_of}
use Rattle.inp_joy.specs.Picture.{PictureView, picture_after, picture_after_if, up_to_64, picture_by}
use Rattle.inp_joy.specs.Picture.{picture_of_view}
use Rattle.inp_joy.proofs.Numbers.{single, occurs, buttons-once, buttons-within, axes-once, axes-within}
use Rattle.inp_joy.proofs.Numbers.{map-same, IsSetAt, number-set, number-none, fill-set}
use Rattle.inp_joy.proofs.Pictures.{button-tells}

-- One place of a list

abbrev apart : ℕ → ℕ → Type 0
apart m n = m ≡ n → ⊥

differ-from : (m n : ℕ) → nat_eq m n ≡ false → apart m n
differ-from m n h e = grind (arith, nat_tests, h, e)

at-other : {X : Type 0} (count : ℕ) (xs : List X) (i j : ℕ) (x filler : X) → nat_eq j i ≡ false
    → slice_index_or (with_value_at count xs i x) j filler ≡ slice_index_or xs j filler
at-other {X = X} count xs i j x filler h =
    cond_both (nat_lt i count) _ _ (λ y. slice_index_or y j filler ≡ slice_index_or xs j filler)
    (λ _. get_or-set_other xs i j x filler (differ-from j i h)) (λ _. refl)

at-same : {X : Type 0} (count : ℕ) (xs : List X) (i : ℕ) (x filler : X) → length xs ≡ count → i < count
    → slice_index_or (with_value_at count xs i x) i filler ≡ x
at-same count xs i x filler long h =
    let is : nat_lt i count ≡ true = grind (arith, nat_tests, h) in
    rw is (get_or-set_same xs i x filler (omega (arith, long, h)))

-- Keys

key-other : (keys : List Bool) (e : Event) (c : ℕ) → nat_eq c e.code ≡ false
    → slice_index_or (keys_after_event keys e) c false ≡ slice_index_or keys c false
key-other keys e c h =
    cond_both (nat_eq e.kind EV_KEY && not (is_repeat e)) _ _
    (λ x. slice_index_or x c false ≡ slice_index_or keys c false)
    (λ _. at-other 768 keys e.code c (is_set e) false h) (λ _. refl)

keys-set : (keys : List Bool) (e : Event) → nat_eq e.kind EV_KEY ≡ true → is_repeat e ≡ false
    → keys_after_event keys e ≡ with_flag 768 keys e
keys-set keys e is once = rw (is, once)

-- Axes

axis-other : (values : List ℤ) (e : Event) (c : ℕ) → nat_eq c e.code ≡ false
    → slice_index_or (axes_after_event values e) c (pos 0) ≡ slice_index_or values c (pos 0)
axis-other values e c h = other-after_event values c e (λ _ _. differ-from c e.code h)

within : (code : ℕ) → (code < 47) ⊎ ((62 ≤ code) × (code < 64)) → code < 64
within code (inl h) = omega (arith, h)
within code (inr h) = h.1

axes-set : (values : List ℤ) (e : Event) → nat_eq e.kind EV_ABS ≡ true → is_multi_touch_code e.code ≡ false
    → axes_after_event values e ≡ with_value_at 64 values e.code e.value
axes-set values e is alone = rw (is, alone)

-- Pictures

abbrev seen : List Bool → List ℤ → PictureView
seen down values = record { buttons = down; axes = values }

same-parts : (a b : List Bool) (x y : List ℤ) → a ≡ b → x ≡ y → seen a x ≡ seen b y
same-parts a b x y h k = rw (h, k)

-- all buttons of a list of keys, and all axes of a list of values
abbrev down_by : Description → List Bool → List Bool
down_by d keys = up_to_64 false (map (λ code. slice_index_or keys code false) (buttons d))

abbrev values_by : Description → List ℤ → List ℤ
values_by d values =
    up_to_64 (pos 0) (map (λ code. within_16_bits (slice_index_or values code (pos 0))) (axes d))

down-none : (d : Description) (keys : List Bool) (e : Event) → occurs e.code (buttons d) ≡ 0
    → down_by d keys ≡ down_by d (keys_after_event keys e)
down-none d keys e none =
    rw (← map-same (λ code. slice_index_or keys code false)
    (λ code. slice_index_or (keys_after_event keys e) code false) e.code (buttons d) none
    (λ c h. key-other keys e c h))

values-none : (d : Description) (values : List ℤ) (e : Event) → occurs e.code (axes d) ≡ 0
    → values_by d values ≡ values_by d (axes_after_event values e)
values-none d values e none =
    rw (← map-same (λ code. within_16_bits (slice_index_or values code (pos 0)))
    (λ code. within_16_bits (slice_index_or (axes_after_event values e) code (pos 0))) e.code (axes d) none
    (λ c h. rw (axis-other values e c h)))

-- a button that was pressed or released
down-set : (d : Description) (keys : List Bool) (e : Event) (number : ℕ) → length keys ≡ 768
    → nat_eq e.kind EV_KEY ≡ true → is_repeat e ≡ false → number_among e.code (buttons d) ≡ Some number
    → set (down_by d keys) number (is_set e) ≡ down_by d (keys_after_event keys e)
down-set d keys e number long is once at =
    let f : ℕ → Bool = λ code. slice_index_or keys code false in
    let g : ℕ → Bool = λ code. slice_index_or (keys_after_event keys e) code false in
    let s : IsSetAt f g e.code (buttons d) number =
    number-set f g e.code number (buttons d) (buttons-once d e.code) (λ c h. key-other keys e c h) at in
    let new : g e.code ≡ is_set e =
    rw keys-set (at-same 768 keys e.code (is_set e) false long (buttons-within d e.code s.occurring)) in
    let there : number < length (map f (buttons d)) = omega (arith, s.within, length-map (buttons d) f) in
    sym (fill-set false (is_set e) (map f (buttons d)) (map g (buttons d)) number there
    (rw (s.is_set_at, new)))

-- an axis that moved
record Moved (d : Description) (values : List ℤ) (e : Event) (number : ℕ) : Type 0 where
  set_is : set (values_by d values) number (within_16_bits e.value) ≡ values_by d (axes_after_event values e)
  -- its cut value may be as before
  same_is : within_16_bits e.value ≡ slice_index_or (values_by d values) number (pos 0)
      → values_by d values ≡ values_by d (axes_after_event values e)

values-set : (d : Description) (values : List ℤ) (e : Event) (number : ℕ) → length values ≡ 64
    → nat_eq e.kind EV_ABS ≡ true → number_among e.code (axes d) ≡ Some number → Moved d values e number
values-set d values e number long is at =
    let f : ℕ → ℤ = λ code. within_16_bits (slice_index_or values code (pos 0)) in
    let g : ℕ → ℤ = λ code. within_16_bits (slice_index_or (axes_after_event values e) code (pos 0)) in
    let s : IsSetAt f g e.code (axes d) number =
    number-set f g e.code number (axes d) (axes-once d e.code) (λ c h. rw axis-other) at in
    let place : (e.code < 47) ⊎ ((62 ≤ e.code) × (e.code < 64)) = axes-within d e.code s.occurring in
    let new : g e.code ≡ within_16_bits e.value =
    rw (
      axes-set values e is (single e.code place),
      at-same 64 values e.code e.value (pos 0) long (within e.code place),
    ) in
    let there : number < length (map f (axes d)) = omega (arith, s.within, length-map (axes d) f) in
    let filled : values_by d (axes_after_event values e)
    ≡ set (values_by d values) number (within_16_bits e.value) =
    fill-set (pos 0) (within_16_bits e.value) (map f (axes d)) (map g (axes d)) number there
    (rw (s.is_set_at, new)) in
    record {
      set_is = sym filled;
      same_is = λ same. sym (rw (filled, same) (set-get_or (values_by d values) number (pos 0)));
    }

-- The law of one event

-- the picture of a view, and after an event
abbrev of_view : Description → View → PictureView
of_view d v = seen (down_by d v.keys) (values_by d v.axes)

abbrev of_view_after : Description → View → Event → PictureView
of_view_after d v e = seen (down_by d (keys_after_event v.keys e)) (values_by d (axes_after_event v.axes e))

keys-stay : (d : Description) (v : View) (e : Event) → nat_eq e.kind EV_KEY && not (is_repeat e) ≡ false
    → down_by d v.keys ≡ down_by d (keys_after_event v.keys e)
keys-stay d v e off = rw off

axes-stay : (d : Description) (v : View) (e : Event) → nat_eq e.kind EV_ABS ≡ false
    → values_by d v.axes ≡ values_by d (axes_after_event v.axes e)
axes-stay d v e off =
    let still = ap (λ (b : Bool). b && not (is_multi_touch e)) off in
    rw still

no_key : (e : Event) → nat_eq e.kind EV_KEY ≡ false → nat_eq e.kind EV_KEY && not (is_repeat e) ≡ false
no_key e off = rw off

-- a key
after-key : (d : Description) (v : View) (taken : Taken) (o : Option ℕ) → length v.keys ≡ 768
    → nat_eq taken.event.kind EV_KEY ≡ true → nat_eq taken.event.kind EV_ABS ≡ false
    → number_among taken.event.code (buttons d) ≡ o
    → picture_after_if (of_view d v) (record_of_key o taken) ≡ of_view_after d v taken.event
unfolding picture_after
after-key d v taken None long is off at =
    same-parts _ _ _ _ (down-none d v.keys taken.event (number-none taken.event.code (buttons d) at))
    (axes-stay d v taken.event off)
after-key d v taken (Some number) long is off at =
    cond_both (is_repeat taken.event) None (Some (button_record number taken))
    (λ (o : Option JoyRecord). picture_after_if (of_view d v) o ≡ of_view_after d v taken.event)
    (λ again.
    let still : nat_eq taken.event.kind EV_KEY && not (is_repeat taken.event) ≡ false = rw (is, again) in
    same-parts _ _ _ _ (keys-stay d v taken.event still) (axes-stay d v taken.event off))
    (λ once. same-parts _ _ _ _ (rw button-tells (down-set d v.keys taken.event number long is once at))
    (axes-stay d v taken.event off))

-- an axis
after-axis : (d : Description) (v : View) (taken : Taken) (o : Option ℕ) → length v.axes ≡ 64
    → nat_eq taken.event.kind EV_ABS ≡ true → nat_eq taken.event.kind EV_KEY ≡ false
    → number_among taken.event.code (axes d) ≡ o
    → picture_after_if (of_view d v) (record_of_axis (of_view d v) o taken) ≡ of_view_after d v taken.event
unfolding picture_after
after-axis d v taken None long is off at =
    same-parts _ _ _ _ (keys-stay d v taken.event (no_key taken.event off))
    (values-none d v.axes taken.event (number-none taken.event.code (axes d) at))
after-axis d v taken (Some number) long is off at =
    let value : ℤ = within_16_bits taken.event.value in
    let moved : Moved d v.axes taken.event number = values-set d v.axes taken.event number long is at in
    let keys = keys-stay d v taken.event (no_key taken.event off) in
    cond_both (int_eq value (last_value (of_view d v) number)) None (Some (axis_record number taken))
    (λ (o : Option JoyRecord). picture_after_if (of_view d v) o ≡ of_view_after d v taken.event)
    (λ same. same-parts _ _ _ _ keys
    (moved.same_is ((Decides-int_eq value (last_value (of_view d v) number)).0 same)))
    (λ other. same-parts _ _ _ _ keys moved.set_is)

-- any event
after-kind : (d : Description) (v : View) (taken : Taken) (key abs : Bool) → length v.keys ≡ 768
    → length v.axes ≡ 64 → nat_eq taken.event.kind EV_KEY ≡ key → nat_eq taken.event.kind EV_ABS ≡ abs
    → picture_after_if (of_view d v)
    (if key then record_of_key (number_among taken.event.code (buttons d)) taken else if abs
    then record_of_axis (of_view d v) (number_among taken.event.code (axes d)) taken else None)
    ≡ of_view_after d v taken.event
after-kind d v taken true true keys_long axes_long is_key is_abs =
    absurd (grind (arith, nat_tests, is_key, is_abs))
after-kind d v taken true false keys_long axes_long is_key is_abs =
    after-key d v taken (number_among taken.event.code (buttons d)) keys_long is_key is_abs refl
after-kind d v taken false true keys_long axes_long is_key is_abs =
    after-axis d v taken (number_among taken.event.code (axes d)) axes_long is_abs is_key refl
after-kind d v taken false false keys_long axes_long is_key is_abs =
    same-parts _ _ _ _ (keys-stay d v taken.event (no_key taken.event is_key))
    (axes-stay d v taken.event is_abs)

-- an event's record sets the place of its key or axis alone, as the event does in the view
pub event-pictured : (d : Description) (v : View) (taken : Taken) → length v.keys ≡ 768 → length v.axes ≡ 64
    → picture_after_if (picture_of_view d v) (joy_record_of d (picture_of_view d v) taken)
    ≡ picture_of_view d (view_after_event v taken.event)
unfolding picture_by view_after_event
event-pictured d v taken keys_long axes_long =
    after-kind d v taken (nat_eq taken.event.kind EV_KEY)
    (nat_eq taken.event.kind EV_ABS) keys_long axes_long refl refl

-- a report gives no record
pub report-none : (d : Description) (p : PictureView) (taken : Taken) → is_report taken.event ≡ true
    → joy_record_of d p taken ≡ None
report-none d p taken h =
    let syn : nat_eq taken.event.kind EV_SYN ≡ true =
    (and_parts (nat_eq taken.event.kind EV_SYN) (nat_eq taken.event.code SYN_REPORT) h).0 in
    let is : taken.event.kind ≡ 0 = grind (arith, nat_tests, syn) in
    rw is

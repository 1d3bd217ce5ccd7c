-- The records of a startup lead a blank picture to the view that they are made from, and where that is
-- the device's state the picture is the device's.
use Rattle.std.proofs.Common.{◌≡◌, ℕ, suc, ◌+◌, ◌-◌, ◌<◌, ◌≤◌, ℤ, pos, Bool, true, false, not, int_eq, List}
use Rattle.std.proofs.Common.{[], ◌∷◌, ◌++◌, length, map, drop, replicate, set, Some, refl, sym, ap, ◌∙◌}
use Rattle.std.proofs.Common.{arith, append_assoc, append-nil, length-append, None, zero, ◌⊎◌, inl, inr}
use Rattle.std.specs.List.{slice_get, range_with_len, filter}
use Rattle.std.proofs.lemmas.List.{length-map, set_at, drop_more, drop_all, replicate-append-replicate}
use Rattle.std.proofs.lemmas.List.{map-append}
use Rattle.std.proofs.lemmas.Option.{get_or_from_slice_get, slice_get_within, slice_get-map, slice_get_past}
use Rattle.inp_model.specs.Description.{Description, supports}
use Rattle.inp_model.proofs.Descriptions.{get_or-replicate_same}
use Rattle.inp_reader.specs.Synthesis.{bit_value}
use Rattle.inp_recon.specs.declared.view.View.{View}
use Rattle.inp_recon.specs.View.{first_view}
use Rattle.inp_joy.specs.declared.joy_record.JoyRecord.{JoyRecord}
use Rattle.inp_joy.specs.Codes.{buttons, axes, startup_len, codes_among}
use Rattle.inp_joy.specs.JoyRecord.{within_16_bits, startup_button, startup_axis}
use Rattle.inp_joy.specs.Joy.{map_numbered, startup, startup_buttons, startup_axes}
use Rattle.inp_joy.specs.Picture.{PictureView, blank_picture, picture_after, picture_after_all, up_to_64}
use Rattle.inp_joy.specs.Picture.{picture_by, is_down_in, value_in, picture_of_view, picture_of_device}
use Rattle.inp_joy.proofs.Numbers.{length-buttons, length-axes, single, axes-are}
use Rattle.inp_joy.proofs.Lists.{slice_get-left, slice_get-right, map_numbered-get, length-map_numbered}
use Rattle.std.proofs.lemmas.Bool.{cond_both}
use Rattle.inp_model.specs.RawItem.{RawItem}
use Rattle.inp_model.specs.declared.event.TheConstants.{EV_ABS}
use Rattle.inp_model.specs.State.{key_down, axis_value}
use Rattle.inp_recon.specs.Faithful.{IsDeviceState}
use Rattle.inp_recon.specs.Synchronised.{has_axis}

-- One record

-- at a code's number the list of records has the record of that code's value
pub record-found : {X : Type 0} (made : ℕ → X → JoyRecord) (f : ℕ → X) (codes all : List ℕ) (number code : ℕ)
    (x : X) (r : JoyRecord) → codes ≡ all → slice_get codes number ≡ Some code → x ≡ f code
    → r ≡ made number x → slice_get (map_numbered made 0 (map f all)) number ≡ Some r
record-found made f codes all number code x r are at is told =
    let e : 0 + number ≡ number = omega arith in
    rw (
      map_numbered-get made 0 number (map f all) (f code) (rw (slice_get-map f all number, ← are, at)),
      e,
      ← is,
      ← told,
    )

length-startup_buttons : (d : Description) (v : View) → length (startup_buttons d v) ≡ length (buttons d)
length-startup_buttons d v =
    length-map_numbered startup_button 0 (map (is_down_in v) (buttons d))
    ∙ length-map (buttons d) (is_down_in v)

length-startup_axes : (d : Description) (v : View) → length (startup_axes d v) ≡ length (axes d)
length-startup_axes d v = let f : ℕ → ℤ =
    λ c. within_16_bits (value_in v c) in length-map_numbered startup_axis 0 (map f (axes d))
    ∙ length-map (axes d) f

-- each button and each axis gives one record
pub length-startup : (d : Description) (v : View) → length (startup d v) ≡ startup_len d
unfolding startup
length-startup d v =
    omega (
      arith,
      length-append (startup_buttons d v) (startup_axes d v),
      length-startup_buttons d v,
      length-startup_axes d v,
    )

-- The next one

-- a button's record is found in the startup at the same place, as the buttons come first
pub next-button : (d : Description) (v : View) (handed : ℕ) (r : JoyRecord)
    → slice_get (startup_buttons d v) handed ≡ Some r → Some r ≡ slice_get (startup d v) handed
unfolding startup
next-button d v handed r h = sym (slice_get-left (startup_buttons d v) (startup_axes d v) handed r h)

-- an axis' record is found behind those of all buttons
pub next-axis : (d : Description) (v : View) (handed count : ℕ) (r : JoyRecord) → count ≡ length (buttons d)
    → count ≤ handed → slice_get (startup_axes d v) (handed - count) ≡ Some r
    → Some r ≡ slice_get (startup d v) handed
unfolding startup
next-axis d v handed count r long past h =
    let e : handed ≡ length (startup_buttons d v) + (handed - count) =
    omega (arith, length-startup_buttons d v) in
    sym (rw (e, slice_get-right) h)

-- past the last record of the startup there is none
pub next-none : (d : Description) (v : View) (handed : ℕ) → startup_len d ≤ handed
    → None ≡ slice_get (startup d v) handed
next-none d v handed past = sym (slice_get_past (startup d v) handed (omega (arith, length-startup d v)))

-- where a startup record is found, fewer were handed out than there are
pub left-within : (d : Description) (v : View) (handed : ℕ) (r : JoyRecord)
    → slice_get (startup d v) handed ≡ Some r → handed < startup_len d
left-within d v handed r h = omega (arith, slice_get_within (startup d v) handed r h, length-startup d v)

-- records one after another: the first list's, and then the second one's
pub after_all-append : (p : PictureView) (xs ys : List JoyRecord)
    → picture_after_all p (xs ++ ys) ≡ picture_after_all (picture_after_all p xs) ys
after_all-append p [] ys = refl
after_all-append p (x ∷ xs) ys = after_all-append (picture_after p x) xs ys

-- a list that is filled up, with one more item
pub fill-next : {X : Type 0} (filler x : X) (xs : List X) → length xs < 64
    → set (up_to_64 filler xs) (length xs) x ≡ up_to_64 filler (xs ++ x ∷ [])
fill-next filler x xs h =
    let n : ℕ = length xs in
    let one : 64 - n ≡ suc (64 - suc n) = omega (arith, h) in
    let long : suc n ≡ length (xs ++ x ∷ []) = omega (arith, length-append xs (x ∷ [])) in
    rw (one, set_at, ← append_assoc xs (x ∷ []) (replicate (64 - suc n) filler), long)

-- the value of a button's record tells whether it is down
pub button-tells : (b : Bool) → not (int_eq (bit_value b) (pos 0)) ≡ b
button-tells true = refl
button-tells false = refl

-- The buttons

button_next : (done : List Bool) (x : Bool) (values : List ℤ) → length done < 64
    → picture_after (record { buttons = up_to_64 false done; axes = values }) (startup_button (length done) x)
    ≡ record { buttons = up_to_64 false (done ++ x ∷ []); axes = values }
unfolding picture_after
button_next done x values h = rw (button-tells, fill-next)

-- The axes

axis_next : (done : List ℤ) (x : ℤ) (down : List Bool) → length done < 64
    → picture_after (record { buttons = down; axes = up_to_64 (pos 0) done }) (startup_axis (length done) x)
    ≡ record { buttons = down; axes = up_to_64 (pos 0) (done ++ x ∷ []) }
unfolding picture_after
axis_next done x down h = rw fill-next

-- Records of items one after another fill up one part of a picture, where one record sets the next place.

parts-fold : {X : Type 0} (filler : X) (made : ℕ → X → JoyRecord) (with_part : List X → PictureView)
    → ((done : List X) (x : X) → length done < 64 → picture_after (with_part (up_to_64 filler done))
    (made (length done) x) ≡ with_part (up_to_64 filler (done ++ x ∷ [])))
    → (done xs : List X) → length done + length xs ≤ 64
    → picture_after_all (with_part (up_to_64 filler done)) (map_numbered made (length done) xs)
    ≡ with_part (up_to_64 filler (done ++ xs))
parts-fold filler made with_part one done [] h = rw append-nil
parts-fold filler made with_part one done (x ∷ xs) h =
    let long : length done + 1 ≡ length (done ++ x ∷ []) = omega (arith, length-append done (x ∷ [])) in
    simp (
      one done x (omega (arith, h)),
      long,
      parts-fold filler made with_part one (done ++ x ∷ []) xs
          (omega (arith, h, length-append done (x ∷ []))),
      append_assoc done (x ∷ []) xs,
    )

-- Both

-- the startup's records set each button and each axis of the blank picture, in order
pub startup-pictured : (d : Description) (v : View)
    → picture_after_all blank_picture (startup d v) ≡ picture_of_view d v
unfolding startup picture_by
startup-pictured d v =
    let bs : List Bool = map (is_down_in v) (buttons d) in
    let zs : List ℤ = map (λ code. within_16_bits (value_in v code)) (axes d) in
    let mid : PictureView = record { buttons = up_to_64 false bs; axes = up_to_64 (pos 0) [] } in
    rw (
      after_all-append,
      parts-fold false startup_button (λ down. record { buttons = down; axes = replicate 64 (pos 0) })
          (λ done x h. button_next done x (replicate 64 (pos 0)) h) [] bs
          (omega (arith, length-map (buttons d) (is_down_in v), length-buttons d)),
    )
    (parts-fold (pos 0) startup_axis (λ values. record { buttons = up_to_64 false bs; axes = values })
    (λ done x h. axis_next done x (up_to_64 false bs) h) [] zs
    (omega (arith, length-map (axes d) (λ code. within_16_bits (value_in v code)), length-axes d)))

-- a record of a startup more
pub startup-more : (p end : PictureView) (records : List JoyRecord) (handed : ℕ) (r : JoyRecord)
    → slice_get records handed ≡ Some r → picture_after_all p (drop handed records) ≡ end
    → picture_after_all (picture_after p r) (drop (handed + 1) records) ≡ end
startup-more p end records handed r at h =
    let is : drop handed records ≡ r ∷ drop (handed + 1) records =
    rw (
      drop_more records handed r (slice_get_within records handed r at),
      get_or_from_slice_get records handed r r at,
    ) in
    sym (rw is) ∙ h

-- none is left
pub startup-over : (p end : PictureView) (d : Description) (v : View) (handed : ℕ) → startup_len d ≤ handed
    → picture_after_all p (drop handed (startup d v)) ≡ end → p ≡ end
startup-over p end d v handed past h =
    sym (rw (drop_all handed (startup d v) (omega (arith, length-startup d v)))) ∙ h

-- no record of the startup is left, so the picture stays
pub startup-gone : (p end : PictureView) (d : Description) (v : View) (handed : ℕ) → startup_len d ≤ handed
    → p ≡ end → picture_after_all p (drop handed (startup d v)) ≡ end
startup-gone p end d v handed past h =
    rw (drop_all handed (startup d v) (omega (arith, length-startup d v))) h

-- A new view has the blank picture.

map-constant : {X : Type 0} (f : ℕ → X) (x : X) (codes : List ℕ) → ((c : ℕ) → f c ≡ x)
    → map f codes ≡ replicate (length codes) x
map-constant f x [] same = refl
map-constant f x (c ∷ cs) same = rw (same, map-constant f x cs same)

blank-fill : {X : Type 0} (f : ℕ → X) (x : X) (codes : List ℕ) → length codes ≤ 64 → ((c : ℕ) → f c ≡ x)
    → up_to_64 x (map f codes) ≡ replicate 64 x
blank-fill f x codes few same =
    let n : ℕ = length codes in
    let all : n + (64 - n) ≡ 64 = omega (arith, few) in
    rw (length-map codes f, map-constant f x codes same, replicate-append-replicate n (64 - n) x, all)

-- in a new view no key is down and each axis is at 0
pub first-blank : (d : Description) → blank_picture ≡ picture_of_view d (first_view d)
unfolding picture_by first_view
first-blank d =
    sym (ap (λ (bs : List Bool). let q : PictureView =
    record {
      buttons = bs;
      axes = up_to_64 (pos 0) (map (λ code. within_16_bits (value_in (first_view d) code)) (axes d));
    } in q)
    (blank-fill (is_down_in (first_view d)) false (buttons d) (length-buttons d)
    (λ c. get_or-replicate_same 768 c false))
    ∙ ap (λ (zs : List ℤ). let q : PictureView = record { buttons = replicate 64 false; axes = zs } in q)
    (blank-fill (λ code. within_16_bits (value_in (first_view d) code)) (pos 0) (axes d)
    (omega (arith, length-axes d)) (λ c. rw get_or-replicate_same)))

-- Where a view is the device's state

map-all : {X : Type 0} (f g : ℕ → X) (codes : List ℕ) → ((c : ℕ) → f c ≡ g c) → map f codes ≡ map g codes
map-all f g [] same = refl
map-all f g (c ∷ cs) same = rw (same, map-all f g cs same)

-- where both agree on the supported codes of a range
map-among : {X : Type 0} (d : Description) (kind : ℕ) (f g : ℕ → X) (first n : ℕ)
    → ((c : ℕ) → first ≤ c → c < first + n → supports d kind c ≡ true → f c ≡ g c)
    → map f (codes_among d kind first n) ≡ map g (codes_among d kind first n)
unfolding codes_among
map-among d kind f g first zero same = refl
map-among d kind f g first (suc n) same =
    let rest : List ℕ = filter (supports d kind) (range_with_len (first + 1) n) in
    let others : map f rest ≡ map g rest =
    map-among d kind f g (first + 1) n (λ c h k. same c (omega (arith, h)) (omega (arith, k))) in
    cond_both (supports d kind first) (first ∷ rest) rest (λ (xs : List ℕ). map f xs ≡ map g xs)
    (λ is. ap (λ y. y ∷ map f rest) (same first (omega arith) (omega arith) is)
    ∙ ap (λ ys. g first ∷ ys) others) (λ _. others)

has-own : (d : Description) (c : ℕ) → (c < 47) ⊎ ((62 ≤ c) × (c < 64)) → supports d EV_ABS c ≡ true
    → has_axis d c ≡ true
has-own d c place is = rw (is, single)

map-axes : {X : Type 0} (d : Description) (f g : ℕ → X) → ((c : ℕ) → has_axis d c ≡ true → f c ≡ g c)
    → map f (axes d) ≡ map g (axes d)
map-axes {X = X} d f g same =
    let low : List ℕ = codes_among d EV_ABS 0 47 in
    let high : List ℕ = codes_among d EV_ABS 62 2 in
    rw (
      axes-are d,
      map-append f low high,
      map-among d EV_ABS f g 0 47 (λ c h k is. same c (has-own d c (inl (omega (arith, k))) is)),
      map-among d EV_ABS f g 62 2 (λ c h k is. same c (has-own d c (inr (h, omega (arith, k))) is)),
      ← map-append g low high,
      ← axes-are d,
    )

-- the view's buttons and axes are the device's own, and a picture has nothing else
pub device-pictured : (d : Description) (r : List RawItem) (v : View) → IsDeviceState d r v
    → picture_of_view d v ≡ picture_of_device d r
unfolding picture_by
device-pictured d r v h =
    rw (
      map-all (is_down_in v) (key_down d r) (buttons d) h.keys,
      map-axes d (λ code. within_16_bits (value_in v code)) (λ code. within_16_bits (axis_value d r code))
          (λ c is. rw (h.axes c is)),
    )

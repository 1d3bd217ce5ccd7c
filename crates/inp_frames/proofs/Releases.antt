-- The raw events that lift contacts and release_events keys, by lists of which there are.
use Rattle.std.proofs.Common.{◌≡◌, ℕ, zero, suc, ◌+◌, ◌-◌, ◌<◌, ◌≤◌, Bool, true, false, if◌then◌else◌, List}
use Rattle.std.proofs.Common.{[], ◌∷◌, ◌++◌, length, refl, sym, arith, append_assoc, append-nil}
use Rattle.std.specs.Prelude.{filter, flat_map}
use Rattle.std.specs.List.{range_with_len, All}
use Rattle.std.proofs.lemmas.List.Elements.{All-tail}
use Rattle.std.proofs.lemmas.List.Concat.{flat_map-append}
use Rattle.inp_model.specs.declared.event.Event.{Event}
use Rattle.inp_model.specs.RawItem.{RawItem}
use Rattle.inp_model.specs.Description.{Description}
use Rattle.inp_model.specs.Event.{core_report}
use Rattle.inp_model.specs.State.{key_down}
use Rattle.inp_model.specs.declared.event.TheConstants.{KEY_MAX}
use Rattle.inp_model.specs.Raw.{has_contact, slot_release, slot_releases, key_release, key_releases, releases}
use Rattle.inp_bits.specs.Bits.{is_on_at, true_indices}
use Rattle.inp_frames.specs.HandledEvents.{lift_events, release_events}
use Rattle.inp_model.proofs.Injection.{range-append}

-- of those that pass a test
flat_map-filter : (f : ℕ → List Event) (p : ℕ → Bool) (xs : List ℕ)
    → flat_map f (filter p xs) ≡ flat_map (λ x. if p x then f x else []) xs
flat_map-filter f p [] = refl
flat_map-filter f p (x ∷ xs) = rw (chosen, flat_map-filter f p xs)
  where
    chosen : (b : Bool) → flat_map f (if b then x ∷ filter p xs else filter p xs) ≡ (if b then f x else [])
        ++ flat_map f (filter p xs)
    chosen true = refl
    chosen false = refl

-- two functions that agree on a range
flat_map-range : (f g : ℕ → List Event) (a n : ℕ) → ((k : ℕ) → a ≤ k → k < a + n → f k ≡ g k)
    → flat_map f (range_with_len a n) ≡ flat_map g (range_with_len a n)
flat_map-range f g a zero h = refl
flat_map-range f g a (suc n) h =
    rw (
      h a (omega arith) (omega arith),
      flat_map-range f g (a + 1) n (λ k l u. h k (omega arith) (omega arith)),
    )

flat_map-none : (f : ℕ → List Event) (a n : ℕ) → ((k : ℕ) → a ≤ k → f k ≡ [])
    → flat_map f (range_with_len a n) ≡ []
flat_map-none f a zero h = refl
flat_map-none f a (suc n) h = rw (h a (omega arith)) (flat_map-none f (a + 1) n (λ k l. h k (omega arith)))

only_if : (x y : Bool) (es : List Event) → x ≡ y → (if x then es else []) ≡ (if y then es else [])
only_if x y es h = rw h

-- the contacts, of a list that is true at just the slots that have one
lifts : (d : Description) (r : List RawItem) (contacts : List Bool) → length contacts ≡ 256 → d.slots ≤ 256
    → ((slot : ℕ) → slot < d.slots → is_on_at contacts slot ≡ has_contact d r slot)
    → ((slot : ℕ) → d.slots ≤ slot → is_on_at contacts slot ≡ false)
    → flat_map lift_events (true_indices contacts) ≡ slot_releases d r 0 d.slots
unfolding true_indices
lifts d r contacts len few there past =
    let f : ℕ → List Event = λ slot. if is_on_at contacts slot then lift_events slot else [] in
    let count : length contacts ≡ d.slots + (256 - d.slots) = omega arith in
    let behind : flat_map f (range_with_len (0 + d.slots) (256 - d.slots)) ≡ [] =
    flat_map-none f (0 + d.slots) (256 - d.slots)
    (λ slot l. only_if (is_on_at contacts slot) false (lift_events slot) (past slot (omega arith))) in
    let before : flat_map f (range_with_len 0 d.slots) ≡ slot_releases d r 0 d.slots =
    flat_map-range f (slot_release d r) 0 d.slots
    (λ slot l u. only_if (is_on_at contacts slot) (has_contact d r slot) (lift_events slot)
    (there slot (omega arith))) in
    rw (flat_map-filter, count, range-append, flat_map-append, behind, append-nil) before

-- the keys, of a list that is true at just those that are down
key_lifts : (d : Description) (r : List RawItem) (keys : List Bool) → length keys ≡ 768
    → ((key : ℕ) → is_on_at keys key ≡ key_down d r key)
    → flat_map release_events (true_indices keys) ≡ key_releases d r 0 (KEY_MAX + 1)
unfolding true_indices
key_lifts d r keys len down =
    let f : ℕ → List Event = λ key. if is_on_at keys key then release_events key else [] in
    rw (flat_map-filter, len)
    (flat_map-range f (key_release d r) 0 768
    (λ key l u. only_if (is_on_at keys key) (key_down d r key) (release_events key) (down key)))

-- all that an inhibition stands for
pub releases-by : (d : Description) (r : List RawItem) (contacts keys : List Bool) → length contacts ≡ 256
    → d.slots ≤ 256 → ((slot : ℕ) → slot < d.slots → is_on_at contacts slot ≡ has_contact d r slot)
    → ((slot : ℕ) → d.slots ≤ slot → is_on_at contacts slot ≡ false) → length keys ≡ 768
    → ((key : ℕ) → is_on_at keys key ≡ key_down d r key)
    → (flat_map lift_events (true_indices contacts) ++ flat_map release_events (true_indices keys))
    ++ core_report ∷ [] ≡ releases d r
releases-by d r contacts keys len few there past count down =
    rw (lifts d r contacts len few there past, key_lifts d r keys count down)

-- what is left of numbers that are all below another
pub below-rest : (n x : ℕ) (xs ys : List ℕ) → xs ≡ x ∷ ys → All (λ k. k < n) xs → All (λ k. k < n) ys
below-rest n x xs ys p h = All-tail (λ k. k < n) x ys (rw p at h)

-- what was given and what is left is the whole
pub whole-more : (x : ℕ) (before xs ys all : List ℕ) → xs ≡ x ∷ ys → before ++ xs ≡ all
    → (before ++ x ∷ []) ++ ys ≡ all
whole-more x before xs ys all p h = rw (append_assoc, ← p) h

-- the events of one number more
pub flat_map-more : (f : ℕ → List Event) (before : List ℕ) (x : ℕ)
    → flat_map f before ++ f x ≡ flat_map f (before ++ x ∷ [])
flat_map-more f before x = rw (← append-nil (f x)) (sym (flat_map-append f before (x ∷ [])))

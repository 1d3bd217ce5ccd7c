-- The bits of a client's masks, as lists.
use Rattle.std.proofs.Common.{◌≡◌, ℕ, ◌*◌, ◌≤◌, Bool, true, false, ◌&&◌, if◌then◌else◌, nat_eq, List, [], map}
use Rattle.std.proofs.Common.{refl, sym, ap, ◌∙◌, arith, inl, inr, ◌==◌, ◌/◌, ◌%◌, ◌<◌, ◌∷◌, Some, None}
use Rattle.std.specs.Prelude.{slice_index_or, unwrap_or}
use Rattle.std.specs.List.{range_with_len}
use Rattle.std.proofs.lemmas.Bool.{cases_Bool, cases_lt, cases_eq, ne_eqb, lt-ltb}
use Rattle.std.proofs.lemmas.Bool.Decides.{nat_tests}
use Rattle.std.proofs.lemmas.List.{get_or_past}
use Rattle.std.proofs.lemmas.List.FromFn.{length-map-range_with_len, get_or-map-range_with_len}
use Rattle.inp_model.specs.declared.event.TheConstants.{EV_KEY}
use Rattle.inp_model.specs.declared.event.Event.{Event}
use Rattle.inp_model.specs.declared.step.Step.{Step}
use Rattle.inp_model.specs.Past.{mask_bit, has_mask, mask_words, admits}
use Rattle.inp_device.specs.Present.{is_mask_bit, EndsSet, MasksEnd}
use Rattle.inp_client.proofs.MaskBits.{by_kind, masks_after-masks_with}
use Rattle.inp_client.specs.Masks.{MaskView, masks_with, mask_of, mask_bit_of, admits_of, masks_after}
use Rattle.std.specs.Int.{bit_at}
use Rattle.inp_model.specs.declared.step.Step.TheVariants.{Mask}

-- a bit of the list of the first n, where those behind are set
bit_of : (f : ℕ → Bool) (n i : ℕ) → (n ≤ i → f i ≡ true)
    → slice_index_or (map f (range_with_len 0 n)) i true ≡ f i
bit_of f n i past =
    elim (cases_lt i n) [
      | inl low ↦ get_or-map-range_with_len f 0 n i i true low (omega arith)
      | inr high ↦ get_or_past (map f (range_with_len 0 n)) i true
          (omega (arith, length-map-range_with_len f 0 n, high)) ∙ sym (past high)
    ]

past_one : (kind i : ℕ) → nat_eq kind EV_KEY ≡ false → 64 ≤ i → is_mask_bit kind i ≡ false
past_one kind i e h = grind (arith, nat_tests, e, h)

past_keys : (i : ℕ) → 768 ≤ i → is_mask_bit EV_KEY i ≡ false
past_keys i h = grind (arith, nat_tests, h)

no_bits : (m : MaskView) (kind : ℕ) → has_mask kind ≡ false → mask_of m kind ≡ []
no_bits m kind h = grind (arith, nat_tests, h)

-- a bit of the masks that have these bits is one of these bits
pub mask_bit_of-with : (bit : ℕ → ℕ → Bool) (kind i : ℕ) → EndsSet bit
    → mask_bit_of (masks_with bit) kind i ≡ bit kind i
unfolding masks_with
mask_bit_of-with bit kind i ends =
    let one : (k : ℕ) → nat_eq k EV_KEY ≡ false → slice_index_or (map (bit k) (range_with_len 0 64)) i true
    ≡ bit k i =
    λ k other. bit_of (bit k) 64 i (λ h. ends k i (past_one k i other h)) in
    let keys = bit_of (bit EV_KEY) 768 i (λ h. ends EV_KEY i (past_keys i h)) in
    elim (cases_Bool (has_mask kind)) [
      | inl has ↦
          by_kind (λ k. mask_bit_of (masks_with bit) k i ≡ bit k i)
          (one 0 refl) keys (one 2 refl) (one 3 refl) (one 4 refl) (one 5 refl) (one 17 refl)
          (one 18 refl) kind has
      | inr none ↦
          rw no_bits (sym (ends kind i (rw none)))
    ]

-- what these masks admit is what the past says
pub admits_of-with : (past : List Step) (client : ℕ) (e : Event) → EndsSet (mask_bit past client)
    → admits_of (masks_with (mask_bit past client)) e ≡ admits past client e
admits_of-with past client e ends =
    let bit = mask_bit past client in
    rw (mask_bit_of-with, mask_bit_of-with)

-- A word of a mask is set

-- the bits of a mask of which a word was set, by whether the bit's type is the mask's and its word is the one
abbrev bit_by : Bool → Bool → ℕ → ℕ → Bool → Bool
bit_by kind word bits index before =
    unwrap_or (if kind && word then Some (bit_at bits (index % 64) == 1) else None) before

-- bits of masks after a word of one was set
abbrev bits_after : (ℕ → ℕ → Bool) → ℕ → ℕ → ℕ → ℕ → ℕ → Bool
bits_after bit kind word bits this index =
    bit_by (nat_eq kind this) (nat_eq word (index / 64)) bits index (bit this index)

chosen : (b : Bool) (set before : Bool)
    → unwrap_or (if b then Some set else None) before ≡ (if b then set else before)
chosen true set before = refl
chosen false set before = refl

-- a word of a mask was set
pub masks_with-set : (bit : ℕ → ℕ → Bool) (kind word bits : ℕ) → word < mask_words kind
    → masks_with (bits_after bit kind word bits) ≡ masks_after kind word bits (masks_with bit)
masks_with-set bit kind word bits fits =
    sym (masks_after-masks_with bit (bits_after bit kind word bits) kind word bits
    (λ this i. chosen (nat_eq kind this && nat_eq word (i / 64)) (bit_at bits (i % 64) == 1)
    (bit this i)) fits)

-- Bits that there are not stay set.

ends_by : (kind this index word bits : ℕ) (before : Bool) → has_mask kind ≡ true → word < mask_words kind
    → is_mask_bit this index ≡ false → before ≡ true
    → bit_by (nat_eq kind this) (nat_eq word (index / 64)) bits index before ≡ true
ends_by kind this index word bits before masked fits ends was =
    elim (cases_eq kind this) [
      | inl k ↦ elim (cases_eq word (index / 64)) [
        | inl w ↦
            let low : index < 64 * mask_words this = omega (arith, fits, w, ap mask_words k) in
            let there : is_mask_bit this index ≡ true =
            cc (k, masked, lt-ltb index (64 * mask_words this) low) in
            absurd (cc (there, ends))
        | inr other ↦ rw (ne_eqb word (index / 64) other, and_false) was
      ]
      | inr other ↦ rw ne_eqb was
    ]
  where
    and_false : (b : Bool) → bit_by b false bits index before ≡ before
    and_false true = refl
    and_false false = refl

-- the word that is set lies within the mask, so the bits behind its end stay set
pub MasksEnd-mask : (past : List Step) (client kind word bits : ℕ) → has_mask kind ≡ true
    → word < mask_words kind → MasksEnd past → MasksEnd (Mask client kind word bits ∷ past)
unfolding mask_bit
MasksEnd-mask past client kind word bits masked fits ends k this index past_end = by (nat_eq client k)
  where
    by : (same : Bool)
        → unwrap_or (if same && nat_eq kind this && nat_eq word (index / 64)
        then Some (bit_at bits (index % 64) == 1) else None) (mask_bit past k this index) ≡ true
    by true =
        ends_by kind this index word bits (mask_bit past k this index) masked fits past_end
        (ends k this index past_end)
    by false = ends k this index past_end

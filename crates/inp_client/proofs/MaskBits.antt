-- Masks by their bits.
use Rattle.std.proofs.Common.{◌≡◌, ◌+◌, ◌-◌, ◌*◌, ◌/◌, ◌%◌, ◌<◌, ◌≤◌, ◌==◌, ℕ, zero, suc, Bool, true, false}
use Rattle.std.proofs.Common.{◌&&◌, ◌||◌, if◌then◌else◌, nat_eq, List, ◌++◌, length, get_or, take, drop}
use Rattle.std.proofs.Common.{replicate, map, refl, sym, ap, ◌∙◌, inl, inr, arith}
use Rattle.std.specs.List.{range_with_len}
use Rattle.std.specs.Int.{bit_at}
use Rattle.std.proofs.lemmas.Bool.{or_cases, leb-true, eqb-true, cases_Bool, cases_lt, eq-eqb, ne_eqb}
use Rattle.std.proofs.lemmas.List.{length-append, length-drop, length-take-le, get_or_append_left}
use Rattle.std.proofs.lemmas.List.{get_or-append_right, get_or-take, get_or-drop}
use Rattle.std.proofs.lemmas.List.FromFn.{length-map-range_with_len, fill_by_all}
use Rattle.inp_bits.specs.Bits.{word_bits}
use Rattle.inp_bits.specs.Words.{length-word_bits, get_or-word_bits}
use Rattle.inp_model.specs.declared.event.TheConstants.{EV_SYN, EV_KEY, EV_REL, EV_ABS, EV_MSC, EV_SW, EV_LED}
use Rattle.inp_model.specs.declared.event.TheConstants.{EV_SND, EV_REP}
use Rattle.inp_model.specs.declared.event.Event.{Event}
use Rattle.inp_model.specs.Past.{has_mask, mask_words}
use Rattle.inp_model.proofs.Descriptions.{get_or-replicate_same}
use Rattle.std.proofs.Math.Path.{fun_ext}
use Rattle.inp_client.proofs.Lists.{get_or-map_range, map_same}
use Rattle.inp_client.specs.Masks.{MaskView, masks_with, full_masks, mask_bit_of, admits_of, with_word}
use Rattle.inp_client.specs.Masks.{mask_after, masks_after}

-- Full masks admit every event.

pub mask_bit_of-full_masks : (kind index : ℕ) → mask_bit_of full_masks kind index ≡ true
unfolding full_masks
mask_bit_of-full_masks kind index =
    let codes : get_or (replicate 64 true) index true ≡ true = get_or-replicate_same 64 index true in
    let keys : get_or (replicate 768 true) index true ≡ true = get_or-replicate_same 768 index true in
    grind (arith, codes, keys)

or_both : (a b : Bool) → (a || (true && (b || true))) ≡ true
or_both true b = refl
or_both false true = refl
or_both false false = refl

-- the bits of each type and each code are set
pub admits_of-full_masks : (e : Event) → admits_of full_masks e ≡ true
admits_of-full_masks e =
    rw (mask_bit_of-full_masks, mask_bit_of-full_masks)
    (or_both (nat_eq e.kind EV_SYN) (nat_eq e.kind EV_REP))

-- Masks that are made of a function to their bits.

-- a fact that holds for each type that has a mask
pub by_kind : (P : ℕ → Type 0) → P EV_SYN → P EV_KEY → P EV_REL → P EV_ABS → P EV_MSC → P EV_SW → P EV_LED
    → P EV_SND → (kind : ℕ) → has_mask kind ≡ true → P kind
by_kind P syn key rel axis msc switch led snd kind has =
    elim (or_cases _ _ has) [
      | inl first ↦ elim (or_cases _ _ first) [
        | inl low ↦ up_to_switches kind (leb-true _ _ low)
        | inr e ↦ rw (eqb-true kind EV_LED e) led
      ]
      | inr e ↦ rw (eqb-true kind EV_SND e) snd
    ]
  where
    up_to_switches : (kind : ℕ) → kind ≤ EV_SW → P kind
    up_to_switches zero le = syn
    up_to_switches (suc zero) le = key
    up_to_switches (suc (suc zero)) le = rel
    up_to_switches (suc (suc (suc zero))) le = axis
    up_to_switches (suc (suc (suc (suc zero)))) le = msc
    up_to_switches (suc (suc (suc (suc (suc zero))))) le = switch
    up_to_switches (suc (suc (suc (suc (suc (suc k)))))) le = absurd (omega arith)

-- A word of a mask is set.

pub with_word-map_range : (f : ℕ → Bool) (word bits n : ℕ) → 64 * word + 64 ≤ n
    → with_word word bits (map f (range_with_len 0 n))
    ≡ map (λ i. if nat_eq word (i / 64) then bit_at bits (i % 64) == 1 else f i) (range_with_len 0 n)
with_word-map_range f word bits n room =
    fill_by_all (λ i. if nat_eq word (i / 64) then bit_at bits (i % 64) == 1 else f i)
    (with_word word bits all) n false long each
  where
    all : List Bool
    all = map f (range_with_len 0 n)

    front : List Bool
    front = take (64 * word) all

    long_all : length all ≡ n
    long_all = length-map-range_with_len f 0 n

    long_front : length front ≡ 64 * word
    long_front = length-take-le (64 * word) all (omega (arith, long_all))

    long_two : length (front ++ word_bits bits) ≡ 64 * word + 64
    long_two = omega (arith, length-append front (word_bits bits), long_front, length-word_bits bits)

    long : length (with_word word bits all) ≡ n
    long =
        omega (
          arith,
          length-append (front ++ word_bits bits) (drop (64 * word + 64) all),
          long_two,
          length-drop (64 * word + 64) all,
          long_all,
        )

    in_front : (i : ℕ) → i < 64 * word → get_or (with_word word bits all) i false ≡ f i
    in_front i below =
        get_or_append_left (front ++ word_bits bits) (drop (64 * word + 64) all) false i
        (omega (arith, long_two))
        ∙ get_or_append_left front (word_bits bits) false i (omega (arith, long_front))
        ∙ get_or-take (64 * word) all i false below
        ∙ get_or-map_range f n i false (omega arith)

    in_word : (i : ℕ) → 64 * word ≤ i → i < 64 * word + 64
        → get_or (with_word word bits all) i false ≡ (bit_at bits (i - 64 * word) == 1)
    in_word i from below =
        get_or_append_left (front ++ word_bits bits) (drop (64 * word + 64) all) false i
        (omega (arith, long_two))
        ∙ get_or-append_right front (word_bits bits) (64 * word) i false long_front from
        ∙ get_or-word_bits bits (i - 64 * word) (omega arith)

    behind : (i : ℕ) → 64 * word + 64 ≤ i → i < n → get_or (with_word word bits all) i false ≡ f i
    behind i from below =
        get_or-append_right (front ++ word_bits bits) (drop (64 * word + 64) all)
        (64 * word + 64) i false long_two from
        ∙ get_or-drop (64 * word + 64) all (i - (64 * word + 64)) false
        ∙ ap (λ (j : ℕ). get_or all j false) (omega arith)
        ∙ get_or-map_range f n i false below

    each : (i : ℕ) → i < n
        → get_or (with_word word bits all) i false
        ≡ (if nat_eq word (i / 64) then bit_at bits (i % 64) == 1 else f i)
    each i below = elim (cases_lt i (64 * word)) [
      | inl before ↦ rw (ne_eqb word (i / 64) (λ e. omega (arith, e))) (in_front i before)
      | inr from ↦ elim (cases_lt i (64 * word + 64)) [
        | inl within ↦
            let same : i - 64 * word ≡ i % 64 = omega arith in
            rw (in_word i from within, same, eq-eqb word (i / 64) (omega arith))
        | inr past ↦ rw (ne_eqb word (i / 64) (λ e. omega (arith, e))) (behind i past below)
      ]
    ]

-- masks of these lengths, made of a function to their bits
abbrev masks_sized : (ℕ → ℕ → Bool) → ℕ → ℕ → MaskView
masks_sized bit short long = record {
  types = map (bit EV_SYN) (range_with_len 0 short);
  keys = map (bit EV_KEY) (range_with_len 0 long);
  relatives = map (bit EV_REL) (range_with_len 0 short);
  axes = map (bit EV_ABS) (range_with_len 0 short);
  miscs = map (bit EV_MSC) (range_with_len 0 short);
  switches = map (bit EV_SW) (range_with_len 0 short);
  leds = map (bit EV_LED) (range_with_len 0 short);
  sounds = map (bit EV_SND) (range_with_len 0 short);
}

module _ (bit after : ℕ → ℕ → Bool) (kind word bits : ℕ) (agrees : (k i : ℕ)
    → after k i ≡ (if nat_eq kind k && nat_eq word (i / 64) then bit_at bits (i % 64) == 1
    else bit k i)) where
  -- one mask of those that are made of a function
  mask_after-map_range : (k n : ℕ) → (nat_eq kind k ≡ true → 64 * word + 64 ≤ n)
      → mask_after k kind word bits (map (bit k) (range_with_len 0 n)) ≡ map (after k) (range_with_len 0 n)
  mask_after-map_range k n room =
      elim (cases_Bool (nat_eq kind k)) [
        | inl same ↦
            rw (same, with_word-map_range)
            (map_same _ (after k) (range_with_len 0 n) (λ j d in_j. let i =
            get_or (range_with_len 0 n) j d in sym (rw (agrees, same))))
        | inr other ↦
            rw other (map_same (bit k) (after k) (range_with_len 0 n) (λ j d in_j. let i =
            get_or (range_with_len 0 n) j d in sym (rw (agrees, other))))
      ]

  -- all masks, where the mask of keys has `long` bits and each other one has `short`
  masks_after-parts : (short long : ℕ)
      → ((k : ℕ) → nat_eq k EV_KEY ≡ false → nat_eq kind k ≡ true → 64 * word + 64 ≤ short)
      → (nat_eq kind EV_KEY ≡ true → 64 * word + 64 ≤ long) →
      masks_after kind word bits (masks_sized bit short long) ≡ masks_sized after short long
  masks_after-parts short long room room_keys =
      let mask = λ (k : ℕ) (other : nat_eq k EV_KEY ≡ false). mask_after-map_range k short (room k other) in
      cc (
        mask EV_SYN refl,
        mask_after-map_range EV_KEY long room_keys,
        mask EV_REL refl,
        mask EV_ABS refl,
        mask EV_MSC refl,
        mask EV_SW refl,
        mask EV_LED refl,
        mask EV_SND refl,
      )

  -- all masks, by what becomes of each bit
  pub masks_after-masks_with : word < mask_words kind
      → masks_after kind word bits (masks_with bit) ≡ masks_with after
  unfolding masks_with
  masks_after-masks_with below = masks_after-parts 64 768 room room_keys
    where
      room : (k : ℕ) → nat_eq k EV_KEY ≡ false → nat_eq kind k ≡ true → 64 * word + 64 ≤ 64
      room k other same =
          let no_key : nat_eq kind EV_KEY ≡ false = rw (eqb-true kind k same) other in
          let words : mask_words kind ≡ 1 = rw no_key in
          omega (arith, below, words)

      room_keys : nat_eq kind EV_KEY ≡ true → 64 * word + 64 ≤ 768
      room_keys key =
          let words : mask_words kind ≡ 12 = rw key in
          omega (arith, below, words)

-- The masks of a new client.

all_set : masks_with (λ kind index. true) ≡ full_masks
unfolding masks_with full_masks
all_set = refl

-- masks whose bits are all set are full
pub masks_with-full : (bit : ℕ → ℕ → Bool) → ((kind index : ℕ) → bit kind index ≡ true)
    → masks_with bit ≡ full_masks
masks_with-full bit set = ap masks_with (fun_ext (λ kind. fun_ext (set kind))) ∙ all_set

-- Which events a client admits, by the bits of its masks.
use Rattle.std.specs.Prelude.{ℕ, ◌+◌, ◌*◌, Bool, true, ◌&&◌, ◌||◌, if◌then◌else◌, nat_eq, List, [], ◌++◌, take, drop, map, replicate, slice_index_or, slice_range}
use Rattle.std.specs.List.{range_with_len}
use Rattle.inp_model.specs.declared.event.TheConstants.{EV_SYN, EV_KEY, EV_REL, EV_ABS, EV_MSC, EV_SW, EV_LED, EV_SND, EV_REP}
use Rattle.inp_model.specs.declared.event.Event.{Event}
use Rattle.inp_bits.specs.Bits.{word_bits}

-- The masks of a client: one of the types, and one of the codes of each of seven types. At k each says
-- whether the bit k is set. That of the keys has 768 bits, and each other one 64.
pub record MaskView : Type 0 where
  pub types : List Bool
  pub keys : List Bool
  pub relatives : List Bool
  pub axes : List Bool
  pub miscs : List Bool
  pub switches : List Bool
  pub leds : List Bool
  pub sounds : List Bool

-- the masks that have these bits, by type and code; the mask of types goes by the type EV_SYN
unfoldable pub masks_with : (ℕ → ℕ → Bool) → MaskView
masks_with bit = record {
  types = map (bit EV_SYN) (range_with_len 0 64);
  keys = map (bit EV_KEY) (range_with_len 0 768);
  relatives = map (bit EV_REL) (range_with_len 0 64);
  axes = map (bit EV_ABS) (range_with_len 0 64);
  miscs = map (bit EV_MSC) (range_with_len 0 64);
  switches = map (bit EV_SW) (range_with_len 0 64);
  leds = map (bit EV_LED) (range_with_len 0 64);
  sounds = map (bit EV_SND) (range_with_len 0 64);
}

-- the masks of a new client: every bit is set
unfoldable pub full_masks : MaskView
full_masks = record {
  types = replicate 64 true;
  keys = replicate 768 true;
  relatives = replicate 64 true;
  axes = replicate 64 true;
  miscs = replicate 64 true;
  switches = replicate 64 true;
  leds = replicate 64 true;
  sounds = replicate 64 true;
}

-- the mask that goes by a type, if the type has one
abbrev pub mask_of : MaskView → ℕ → List Bool
mask_of m kind =
    if nat_eq kind EV_SYN then m.types
    else if nat_eq kind EV_KEY then m.keys
    else if nat_eq kind EV_REL then m.relatives
    else if nat_eq kind EV_ABS then m.axes
    else if nat_eq kind EV_MSC then m.miscs
    else if nat_eq kind EV_SW then m.switches
    else if nat_eq kind EV_LED then m.leds
    else if nat_eq kind EV_SND then m.sounds
    else []

-- a bit of a mask; one past its end counts as set
abbrev pub mask_bit_of : MaskView → ℕ → ℕ → Bool
mask_bit_of m kind index = slice_index_or (mask_of m kind) index true

-- An event is admitted where the bits of its type and of its code are set. EV_SYN is always admitted, and of EV_REP the
-- type decides alone.
abbrev pub admits_of : MaskView → Event → Bool
admits_of m e =
    nat_eq e.kind EV_SYN
    || (mask_bit_of m EV_SYN e.kind && (nat_eq e.kind EV_REP || mask_bit_of m e.kind e.code))

-- the 64 bits of a word of a mask
abbrev pub word_of : ℕ → List Bool → List Bool
word_of word mask = slice_range mask (64 * word) (64 * word + 64)

-- a mask with the 64 bits of a word set to the binary digits of a number, the lowest first
abbrev pub with_word : ℕ → ℕ → List Bool → List Bool
with_word word bits mask = take (64 * word) mask ++ word_bits bits ++ drop (64 * word + 64) mask

-- the mask of one type, after a word of the mask that goes by a kind was set
abbrev pub mask_after : ℕ → ℕ → ℕ → ℕ → List Bool → List Bool
mask_after type kind word bits mask = if nat_eq kind type then with_word word bits mask else mask

-- the masks after a word of the mask that goes by a kind was set; the other masks stay
abbrev pub masks_after : ℕ → ℕ → ℕ → MaskView → MaskView
masks_after kind word bits m = record {
  types = mask_after EV_SYN kind word bits m.types;
  keys = mask_after EV_KEY kind word bits m.keys;
  relatives = mask_after EV_REL kind word bits m.relatives;
  axes = mask_after EV_ABS kind word bits m.axes;
  miscs = mask_after EV_MSC kind word bits m.miscs;
  switches = mask_after EV_SW kind word bits m.switches;
  leds = mask_after EV_LED kind word bits m.leds;
  sounds = mask_after EV_SND kind word bits m.sounds;
}

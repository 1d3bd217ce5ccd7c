-- What holds of masks as they are kept.
use Rattle.std.specs.Prelude.{◌≡◌, true, length}
use Rattle.inp_client.specs.Masks.{MaskView, full_masks}
use Rattle.inp_client.specs.declared.masks.Masks.TheInside.{Inside}

abbrev pub masks_of : Inside → MaskView
masks_of m = record {
  types = m.types;
  keys = m.keys;
  relatives = m.relatives;
  axes = m.axes;
  miscs = m.miscs;
  switches = m.switches;
  leds = m.leds;
  sounds = m.sounds;
}

-- each mask has its length, and where no word was set every bit is set
pub record AreMasks (m : Inside) : Type 0 where
  pub types : length m.types ≡ 64
  pub keys : length m.keys ≡ 768
  pub relatives : length m.relatives ≡ 64
  pub axes : length m.axes ≡ 64
  pub miscs : length m.miscs ≡ 64
  pub switches : length m.switches ≡ 64
  pub leds : length m.leds ≡ 64
  pub sounds : length m.sounds ≡ 64
  pub full : m.is_full ≡ true → masks_of m ≡ full_masks

-- What a joystick client's records make of a picture (docs/RULES.md, "Joystick clients").
use Rattle.std.specs.Prelude.{ℕ, ◌-◌, ℤ, pos, Bool, false, not, if◌then◌else◌, List, [], ◌∷◌, ◌++◌, length, map, replicate, slice_set, slice_index_or, Option, Some, None}
use Rattle.std.specs.Ordering.{int_eq}
use Rattle.inp_bits.specs.Bits.{word_bits}
use Rattle.inp_model.specs.RawItem.{RawItem}
use Rattle.inp_model.specs.Description.{Description}
use Rattle.inp_model.specs.State.{key_down, axis_value}
use Rattle.inp_recon.specs.declared.view.View.{View}
use Rattle.inp_joy.specs.declared.joy_record.JoyRecord.{JoyRecord}
use Rattle.inp_joy.specs.declared.picture.Picture.{Picture}
use Rattle.inp_joy.specs.JoyRecord.{within_16_bits, is_of_button, is_of_axis}
use Rattle.inp_joy.specs.Codes.{buttons, axes}

pub record PictureView : Type 0 where
  -- at k, whether button k is down
  pub buttons : List Bool
  -- at k, the value of axis k
  pub axes : List ℤ

-- a picture as it is kept
abbrev pub seen_as : Picture → PictureView
seen_as p = record { buttons = word_bits p.buttons; axes = p.axes }

-- no button is down, and each axis is at 0
abbrev pub blank_picture : PictureView
blank_picture = record { buttons = replicate 64 false; axes = replicate 64 (pos 0) }

-- a record of a button says whether it is down, and one of an axis tells its value
unfoldable pub picture_after : PictureView → JoyRecord → PictureView
picture_after p r = record {
  buttons = if is_of_button r then slice_set p.buttons r.number (not (int_eq r.value (pos 0))) else p.buttons;
  axes = if is_of_axis r then slice_set p.axes r.number r.value else p.axes;
}

-- a picture after records, the first one first
abbrev pub picture_after_all : PictureView → List JoyRecord → PictureView
picture_after_all p [] = p
picture_after_all p (r ∷ rs) = picture_after_all (picture_after p r) rs

-- a picture after a record, where there is one
abbrev pub picture_after_if : PictureView → Option JoyRecord → PictureView
picture_after_if p None = p
picture_after_if p (Some r) = picture_after p r

-- a list of at most 64, filled up to so many
abbrev pub up_to_64 : {X : Type 0} → X → List X → List X
up_to_64 filler xs = xs ++ replicate (64 - length xs) filler

-- the picture of a device, by which keys are down and what value each axis has
unfoldable pub picture_by : Description → (ℕ → Bool) → (ℕ → ℤ) → PictureView
picture_by d is_down value = record {
  buttons = up_to_64 false (map is_down (buttons d));
  axes = up_to_64 (pos 0) (map (λ code. within_16_bits (value code)) (axes d));
}

-- in a view a key is down, and an axis has a value
abbrev pub is_down_in : View → ℕ → Bool
is_down_in v code = slice_index_or v.keys code false

abbrev pub value_in : View → ℕ → ℤ
value_in v code = slice_index_or v.axes code (pos 0)

-- the buttons and the cut axes of a view
abbrev pub picture_of_view : Description → View → PictureView
picture_of_view d v = picture_by d (is_down_in v) (value_in v)

-- those of the device itself, after raw events
abbrev pub picture_of_device : Description → List RawItem → PictureView
picture_of_device d r = picture_by d (key_down d r) (axis_value d r)

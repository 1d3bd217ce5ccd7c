-- What the sight of a joystick's job says of its buttons and axes: what the records since the last startup
-- began make of a blank picture (docs/RULES.md, "Joystick clients").
use Rattle.std.specs.Prelude.{ℕ, List, [], ◌∷◌}
use Rattle.inp_model.specs.declared.step.Step.{Step}
use Rattle.inp_model.specs.declared.reply.Reply.{Reply}
use Rattle.inp_model.specs.Description.{Description}
use Rattle.inp_joy.specs.JoyRecord.{record_in}
use Rattle.inp_joy.specs.Picture.{PictureView, blank_picture, picture_after}
use Rattle.inp_script.specs.declared.sight.Sight.{Sight}
use Rattle.inp_script.specs.declared.sight.Sight.TheVariants.{Call, Record}
use Rattle.inp_script.specs.Folding.{Folding, settled, asking, after_call}

-- no answer tells of the picture, and a startup begins with a blank one
abbrev pub after_joy_call : Description → Folding PictureView → Step → Reply → Folding PictureView
after_joy_call d s x reply = after_call (λ p. blank_picture) (λ p x reply. p) d s x reply

-- a record was handed out
abbrev pub after_joy_record : Folding PictureView → List ℕ → Folding PictureView
after_joy_record (settled p) bytes = settled (picture_after p (record_in bytes))
after_joy_record (asking old new xs) bytes = asking old new xs

abbrev pub after_joy_entry : Description → Folding PictureView → Sight → Folding PictureView
after_joy_entry d s (Call x reply) = after_joy_call d s x reply
after_joy_entry d s (Record bytes) = after_joy_record s bytes
after_joy_entry d s _ = s

unfoldable pub joy_fold : Description → Folding PictureView → List Sight → Folding PictureView
joy_fold d s [] = s
joy_fold d s (entry ∷ sight) = joy_fold d (after_joy_entry d s entry) sight

use Rattle.std.proofs.Common.{Option}
use Rattle.inp_c.specs.declared.kept.Kept.{Kept}
use Rattle.inp_c.specs.Contents.{contents}
use Rattle.inp_c.specs.Joystick.{IsJoyPicture}
use Rattle.inp_c.proofs.Along.{at_contents}
use Rattle.inp_c.proofs.joystick.inputplay_joy_picture.Goals as goal

-- the picture is told of what the handle keeps
pub returns-clause-picture : goal.returns-clause-picture
returns-clause-picture c = λ ok.
    at_contents Kept (λ (k : Option Kept). IsJoyPicture k c.picture_in-status.new.picture)
    (contents c.args.handle.now) c.take-kept.result.value c.deref.result.now c.take-kept.ensures.kept
    c.deref.ensures (c.picture_in-status.ensures.picture ok)

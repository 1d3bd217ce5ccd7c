use Rattle.inp_joy.specs.Codes.{axes}
use Rattle.std.proofs.Common.{ℤ, ◌∙◌, ap, arith}
use Rattle.std.proofs.lemmas.Int.{to_z-of_z}
use Rattle.inp_joy.specs.JoyRecord.{within_16_bits, startup_axis}
use Rattle.inp_joy.specs.Picture.{value_in}
use Rattle.inp_joy.proofs.Pictures.{record-found}
use Rattle.inp_joy.proofs.joy_state.JoyState.startup_axis.Goals as goal

-- the record has the number and the cut value of the axis whose code is at that place
pub returns-clause-found : goal.returns-clause-found
returns-clause-found c =
    record-found startup_axis
    (λ code. within_16_bits (value_in c.args.self.now.reader.reading.view code)) c.args.self.now.axes
    (axes c.args.self.now.reader.description) c.args.number c.get-code.result c.cut_axis_of.result
    c.startup_axis.result c.requires.state.axes c.get-code.ensures.code
    (rw (c.cut_axis_of.ensures, c.view.ensures.view)) (c.startup_axis.ensures
    ∙ ap (λ (z : ℤ). startup_axis c.args.number z) (grind (arith, to_z-of_z)))

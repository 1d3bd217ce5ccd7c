use Rattle.std.proofs.Common.{◌≤◌, ◌+◌, refl, arith}
use Rattle.inp_joy.specs.Codes.{startup_len}
use Rattle.inp_joy.proofs.Numbers.{length-buttons, length-axes}
use Rattle.inp_joy.proofs.Pictures.{left-within}
use Rattle.inp_joy.proofs.joy_state.JoyState.hand_startup.Goals as goal

-- fewer records were handed out than a startup has, and it has at most 113
pub overflow_add-self : goal.overflow_add-self
overflow_add-self c =
    let d = c.args.self.now.reader.description in
    let below =
    left-within d c.args.self.now.reader.reading.view c.args.self.now.handed c.args.joy_record
    c.requires.left in
    omega (arith, below, length-buttons d, length-axes d)

-- the record was one of the startup, so one more handed out is at most all of them
pub returns-clause-state : goal.returns-clause-state
returns-clause-state c =
    let d = c.args.self.now.reader.description in
    let below : c.args.self.now.handed + 1 ≤ startup_len d =
    omega (
      arith,
      left-within d c.args.self.now.reader.reading.view c.args.self.now.handed c.args.joy_record
          c.requires.left,
    ) in
    rw c.hand.ensures.rest (record {
      description = refl;
      buttons = c.requires.state.buttons;
      axes = c.requires.state.axes;
      handed = below;
      view = c.requires.state.view;
    })

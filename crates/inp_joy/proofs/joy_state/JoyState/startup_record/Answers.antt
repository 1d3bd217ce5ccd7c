use Rattle.std.proofs.Common.{◌∙◌, ap, arith, length}
use Rattle.inp_joy.proofs.Pictures.{next-button, next-axis, next-none}
use Rattle.inp_joy.proofs.joy_state.JoyState.startup_record.Goals as goal

pub returns-then-self-buttons-clause-found : goal.returns-then-self-buttons-clause-found
returns-then-self-buttons-clause-found c =
    next-button c.args.self.now.reader.description c.args.self.now.reader.reading.view c.args.self.now.handed
    c.startup_button.result c.startup_button.ensures.found

pub returns-then-axis-len-clause-found : goal.returns-then-axis-len-clause-found
returns-then-axis-len-clause-found c =
    next-axis c.args.self.now.reader.description c.args.self.now.reader.reading.view c.args.self.now.handed
    c.len-buttons.result c.startup_axis.result (c.len-buttons.ensures.len
    ∙ ap length c.requires.state.buttons) c.if-self-buttons.false c.startup_axis.ensures.found

pub returns-else-axis-len-clause-found : goal.returns-else-axis-len-clause-found
returns-else-axis-len-clause-found c =
    next-none c.args.self.now.reader.description c.args.self.now.reader.reading.view c.args.self.now.handed
    (omega (
      arith,
      c.len-buttons.ensures.len,
      ap length c.requires.state.buttons,
      c.len.ensures.len,
      ap length c.requires.state.axes,
      c.if-self-buttons.false,
      c.if-axis-len.false,
    ))

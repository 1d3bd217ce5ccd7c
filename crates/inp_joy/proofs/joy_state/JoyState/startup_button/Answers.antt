use Rattle.inp_joy.specs.Codes.{buttons}
use Rattle.inp_joy.specs.JoyRecord.{startup_button}
use Rattle.inp_joy.specs.Picture.{is_down_in}
use Rattle.inp_joy.proofs.Pictures.{record-found}
use Rattle.inp_joy.proofs.joy_state.JoyState.startup_button.Goals as goal

-- the record has the number of the button whose code is at that place, and whether it is down
pub returns-clause-found : goal.returns-clause-found
returns-clause-found c =
    record-found startup_button (is_down_in c.args.self.now.reader.reading.view) c.args.self.now.buttons
    (buttons c.args.self.now.reader.description) c.args.number c.get-code.result c.is_down.result
    c.startup_button.result c.requires.state.buttons c.get-code.ensures.code
    (rw (c.is_down.ensures, c.view.ensures.view)) c.startup_button.ensures

use Rattle.std.proofs.lemmas.Result.{on_ok_weaker}
use Rattle.inp_script.proofs.Noted.{joystick-noted, joystick-begun}
use Rattle.inp_script.proofs.role.joystick.start.Goals as goal

-- the calls of the joystick client's start are noted, with what it answered
pub returns-clause-done : goal.returns-clause-done
returns-clause-done g c =
    on_ok_weaker c.note_start.result
    (λ noted. joystick-noted _ _ c.args.joy.now.description c.args.joy.now.joying
    c.start-started.new.self.joying c.args.notes.now c.note_start.new.self c.start-started.new.self.made
    c.made.result.now c.start-started.result c.start-started.ensures.says c.made.ensures.made noted)
    c.note_start.ensures

-- the calls of the joystick client's start are the first of the line
pub returns-clause-begun : goal.returns-clause-begun
returns-clause-begun g c = joystick-begun _ _ _ _ _ _ _ _ c.start-started.ensures.says

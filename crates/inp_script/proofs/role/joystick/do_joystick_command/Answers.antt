use Rattle.std.proofs.lemmas.Result.{on_ok_weaker}
use Rattle.inp_script.specs.Notes.{joy_job}
use Rattle.inp_script.proofs.Lines.{joystick_talk-close}
use Rattle.inp_script.proofs.role.joystick.do_joystick_command.Goals as goal

-- a command that neither opens nor reads is a close, which was done
pub returns-in_default-clause-done : goal.returns-in_default-clause-done
returns-in_default-clause-done g c =
    on_ok_weaker c.close.result
    (λ h. record {
      rounds = 0;
      holds =
          rw (← joystick_talk-close c.args.joy.now.description 0 c.args.command.now
          (joy_job c.args.joy.now.joying c.args.notes.now) c.requires.of_role c.in_default.not-Open
          c.in_default.not-Read) h;
    })
    c.close.ensures.done

-- a command that neither opens nor reads begins with the call of a close
pub returns-in_default-clause-begun : goal.returns-in_default-clause-begun
returns-in_default-clause-begun g c = (
  0,
  rw (← joystick_talk-close c.args.joy.now.description 0 c.args.command.now
      (joy_job c.args.joy.now.joying c.args.notes.now) c.requires.of_role c.in_default.not-Open
      c.in_default.not-Read) c.close.ensures.begun,
)

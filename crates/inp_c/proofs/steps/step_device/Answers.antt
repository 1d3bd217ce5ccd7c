use Rattle.std.proofs.Common.{ap, ◌∙◌}
use Rattle.inp_c.specs.Told.{told}
use Rattle.inp_c.proofs.Room.{device_room}
use Rattle.inp_c.proofs.steps.step_device.Goals as goal

pub step-made-requires-clause-room : goal.step-made-requires-clause-room
step-made-requires-clause-room c =
    device_room c.args.device.now.udev.description c.args.step c.args.events.now c.args.cells.now
    c.requires.room

-- the device made the step, and its reply is told in C's numbers
pub returns : goal.returns
returns c =
    let s = c.step-made.ensures in
    record {
      given = s.given;
      answered = s.answered;
      replied = c.tell_reply.ensures ∙ ap told s.replied;
      events_written = s.events_written;
      cells_written = s.cells_written;
    }

use Rattle.std.proofs.Common.{reverse}
use Rattle.inp_feedback.proofs.Lists.{steps_in-kept_of}
use Rattle.inp_uinput.proofs.udev.Udev.history.Goals as goal

-- the steps of the kept list are the device's own past
pub returns : goal.returns
returns c = record {
  history =
      rw (
        ← c.self.view_is,
        steps_in-kept_of c.self.inside.device.past (reverse c.self.inside.feedbacks.items),
        ← c.history.ensures.history,
      );
}

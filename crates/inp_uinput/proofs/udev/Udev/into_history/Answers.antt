use Rattle.std.proofs.Common.{reverse}
use Rattle.inp_feedback.proofs.Lists.{steps_in-kept_of}
use Rattle.inp_uinput.proofs.Udevs.{history_over}
use Rattle.inp_uinput.proofs.udev.Udev.into_history.Goals as goal

-- the steps of the kept list are the device's own past
pub returns-clause-history : goal.returns-clause-history
returns-clause-history c =
    rw (
      ← c.self.view_is,
      steps_in-kept_of c.self.inside.device.past (reverse c.self.inside.feedbacks.items),
      ← c.into_history.ensures.history,
    )

-- each step of the device's own past was accepted
pub returns-clause-accepted : goal.returns-clause-accepted
returns-clause-accepted c =
    rw (← c.self.view_is)
    (history_over c.self.inside.device.description c.self.inside.device.past
    (reverse c.self.inside.feedbacks.items) c.into_history.ensures.accepted)

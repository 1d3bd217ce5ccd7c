use Rattle.std.proofs.Common.{sym, reverse}
use Rattle.inp_feedback.proofs.Lists.{steps_in-kept_of}
use Rattle.inp_uinput.proofs.udev.Udev.readable.Goals as goal

-- the steps of the kept list are the device's own past, so who could read is as that says
pub returns : goal.returns
returns c =
    let d = c.self.inside.device.description in
    let same = sym (steps_in-kept_of c.self.inside.device.past (reverse c.self.inside.feedbacks.items)) in
    record {
      count = rw (← c.self.view_is, ← same, ← c.readable.ensures.count);
      few = c.readable.ensures.few;
      written = rw (← c.self.view_is, ← same, ← c.readable.ensures.written);
    }

use Rattle.std.proofs.Common.{◌≤◌, ap, arith}
use Rattle.std.specs.Prelude.{vec_capacity}
use Rattle.inp_device.specs.Device.{plain_view}
use Rattle.inp_uinput.proofs.Udevs.{first_beside, first_view}
use Rattle.inp_uinput.proofs.udev.Udev.new.Goals as goal

-- nothing waits, no call is kept, and there is room for as many as the limit allows
pub invariant_of-result : goal.invariant_of-result
invariant_of-result c =
    let room : c.args.caps.log_limit ≤ vec_capacity c.in_ok-feedbacks.feedbacks =
    omega (arith, c.in_ok-feedbacks.ensures.capacity, c.log.ensures.log) in
    first_beside c.args.caps c.in_ok-device.device.description c.in_ok-device.device.past
    c.in_ok-device.device.agains c.in_ok-feedbacks.feedbacks.items (vec_capacity c.in_ok-feedbacks.feedbacks)
    c.in_ok-ring.ring c.in_ok-waiting.waiting.value
    (ap plain_view c.in_ok-device.ensures.fresh) c.in_ok-feedbacks.ensures.items room c.in_ok-ring.ensures
    c.in_ok-waiting.ensures.ok

-- a new device has made no step and no call, so it keeps nothing
pub returns : goal.returns
returns c = record {
  fresh =
      first_view c.args.caps c.in_ok-device.device.description c.in_ok-device.device.past
      c.in_ok-device.device.agains c.in_ok-feedbacks.feedbacks.items
      (ap plain_view c.in_ok-device.ensures.fresh) c.in_ok-feedbacks.ensures.items;
}
